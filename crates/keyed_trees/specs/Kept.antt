-- What tables are made of, and how they are seen as a database.
use Rattle.std.specs.Prelude.{pos, Bool, false, [], map, None, codes, refl, if◌then◌else◌}
use Rattle.std.specs.Coded.{Coded, code_by, coded×, coded_bool}
use Rattle.sqlite_trees.specs.declared.store.Store.{Ghosts}
use Rattle.sqlite_trees.specs.Tree.{Trees}
use Rattle.sqlite_trees.specs.View.{Snapshot}
use Rattle.sqlite_schema.specs.declared.schema.Schema.{Schema}
use Rattle.sqlite.specs.Effect.{Database}
use Rattle.sqlite.specs.State.{State, Savepoint}

pub record Kept (S : Type 0) : Type 0 where
  pub store : S
  pub in_transaction : Bool

abbrev pub kept_code : {S : Type 0} → Coded S → Coded (Kept S)
kept_code {S} store =
    code_by (S × Bool)
    (coded× store coded_bool)
    (λ k. (k.store, k.in_transaction))
    (λ p. record { store = p.0; in_transaction = p.1 })
    (λ _. refl)

abbrev pub database : Schema → Trees → Database
database schema trees = record { schema = schema; trees = trees }

-- the mark of a transaction that was open before it
abbrev pub the_mark : Database → Savepoint
the_mark db = record { name = codes "mark"; begins = false; db = db }

abbrev pub mark_of : Schema → Snapshot → Savepoint
mark_of schema m = the_mark (database schema m.trees)

-- the trees of the store as tables of this schema
abbrev pub state : {S : Type 0} → Schema → Ghosts S → Kept S → State
state schema g k = record {
  now = database schema (g.view k.store).trees;
  committed = database schema (g.view k.store).committed;
  in_transaction = k.in_transaction;
  marks = if k.in_transaction then map (mark_of schema) (g.view k.store).marks else [];
  is_open = (g.view k.store).is_open;
  is_clean = (g.view k.store).is_clean;
  faults = g.faults k.store;
  blamed = g.blamed k.store;
  changes = 0;
  last_rowid = pos 0;
  step_limit = None;
  may_leave = g.recovers k.store;
  IsShielded = g.is_shielded k.store;
}
