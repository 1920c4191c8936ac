-- What filling the tables of a newer version leaves.
use Rattle.std.proofs.Common.{◌≡◌, ◌≢◌, ◌<◌, ◌==◌, ℕ, ℤ, pos, false, true, drop, List, [], ◌∷◌, ◌++◌, Result, map, inl, inr, refl, sym, ap, subst, ◌∙◌, arith}
use Rattle.std.specs.List.{AllByRecursion, list_any}
use Rattle.std.proofs.lemmas.Bool.Decides.{eqb_tells}
use Rattle.std.proofs.lemmas.Result.{on_ok_weaker}
use Rattle.records.specs.declared.unavailable.Unavailable.{Unavailable}
use Rattle.sqlite_value.specs.Order.{Row}
use Rattle.sqlite_schema.specs.declared.schema.Schema.{Schema}
use Rattle.sqlite_schema.specs.declared.schema.Table.{Table}
use Rattle.sqlite_trees.specs.Tree.{Trees}
use Rattle.sqlite.specs.State.{State, HasCleanDisk, Shows}
use Rattle.ledger_sql.specs.Calls.{LeavesChanged, LeavesWritten}
use Rattle.ledger_sql.specs.Creating.{MakesTables, Makes}
use Rattle.ledger_sql.specs.Effects.{AddsRows, OthersStay, WritesInside, SetsVersion}
use Rattle.ledger_sql.specs.Frames.{Follows}
use Rattle.ledger_sql.specs.Rowids.{IsNumbered}
use Rattle.ledger_sql.specs.Schema.{list_schema, balance_schema, ledger_schema, failed_table, current_version}
use Rattle.ledger_sql.specs.TableRows.{cells_from}
use Rattle.stored_tables.specs.BatchLaws.{follows_itself, follows_then}
use Rattle.migrate.specs.FillingLaws.{entries_then}
use Rattle.migrate.specs.Filling.{IsAltering, CanSetVersion, KeepsEntries, FillsDerived, MakesDerived, MakesBalanced, MakesCurrent}

shows_then : (a b c : State) → Shows a b b.now a.committed true → Shows b c c.now b.committed true
    → Shows a c c.now a.committed true
shows_then a b c f g = record {
  was_open = f.was_open;
  is_open = g.is_open;
  now_is = refl;
  committed_is = g.committed_is ∙ f.committed_is;
  mode = g.mode;
}

inside_then : (a b c : State) → WritesInside a b → WritesInside b c → WritesInside a c
inside_then a b c f g = record {
  schema = g.schema ∙ f.schema;
  shown = shows_then a b c f.shown g.shown;
  marks = g.marks ∙ f.marks;
}

-- no row at all
pub fills_none : (a : State) → IsAltering balance_schema a → FillsDerived a a
fills_none a altering = record {
  numbered = λ n. n;
  version = refl;
  entries = record { directory = refl; clocks = refl; accounts = refl; transfers = refl };
  inside = record {
    schema = refl;
    shown = record {
      was_open = altering.is_open;
      is_open = altering.is_open;
      now_is = refl;
      committed_is = refl;
      mode = altering.making.mode;
    };
    marks = refl;
  };
}

-- some rows, and then more
pub fills_then : (a b c : State) → FillsDerived a b → FillsDerived b c → FillsDerived a c
fills_then a b c f g = record {
  numbered = λ n. g.numbered (f.numbered n);
  version = g.version ∙ f.version;
  entries = entries_then a.now.trees b.now.trees c.now.trees f.entries g.entries;
  inside = inside_then a b c f.inside g.inside;
}

-- and it goes on
pub still_altering : (a b : State) → IsAltering balance_schema a → FillsDerived a b → IsAltering balance_schema b
still_altering a b altering f = record {
  making = record { schema_is = f.inside.schema ∙ altering.making.schema_is; mode = f.inside.shown.mode };
  is_open = f.inside.shown.is_open;
}

-- all tables of a schema but that of one tree keep their rows
abbrev Others : ℕ → List Table → Trees → Trees → Type 0
Others tree tables a b = AllByRecursion (λ t. t.tree ≢ tree → b t.tree ≡ a t.tree) tables

others_of : (tree : ℕ) (schema : Schema) (a b : State) → a.now.schema ≡ schema → OthersStay tree a b
    → Others tree schema.tables a.now.trees b.now.trees
others_of tree schema a b is stay = subst (λ (s : Schema). Others tree s.tables a.now.trees b.now.trees) is stay

-- rows of a tenant were put into one of the three tables
module _ {rows : ℤ → Trees → List Row} {tree : ℕ} {tenant : ℤ} {added : List Row} where
  fills_one : (a b : State) → 8 < tree → IsAltering balance_schema a → AddsRows rows tree tenant added a b
      → FillsDerived a b
  fills_one a b own altering adds =
      let stay = others_of tree balance_schema a b altering.making.schema_is adds.tables in
      record {
        numbered = λ n. record {
          balances = in_order 11 stay.1.1.1.1.1.0 n.balances;
          statuses = in_order 13 stay.1.1.1.1.1.1.0 n.statuses;
          history = in_order 15 stay.1.1.1.1.1.1.1.0 n.history;
        };
        version = stay.0 (λ e. omega (arith, own, e));
        entries = record {
          directory = stay.1.0 (λ e. omega (arith, own, e));
          clocks = stay.1.1.0 (λ e. omega (arith, own, e));
          accounts = stay.1.1.1.0 (λ e. omega (arith, own, e));
          transfers = stay.1.1.1.1.0 (λ e. omega (arith, own, e));
        };
        inside = adds.inside;
      }
    where
      in_order : (t : ℕ) → (t ≢ tree → b.now.trees t ≡ a.now.trees t) → IsNumbered (a.now.trees t)
          → IsNumbered (b.now.trees t)
      in_order t same n = elim (eqb_tells t tree) [
        | inl one ↦
            subst (λ k. IsNumbered (a.now.trees k) → IsNumbered (b.now.trees k)) (sym one.1) adds.numbered n
        | inr other ↦ subst IsNumbered (sym (same other.1)) n
      ]

  -- a call that does so fills it
  pub filled : {a b : State} {result : Result (Unit {0}) Unavailable}
      → LeavesWritten (AddsRows rows tree tenant added) a b result
      → (HasCleanDisk a → IsAltering balance_schema a) → 8 < tree → LeavesChanged FillsDerived a b result
  filled {a} {b} {result} wrote altering own = record {
    ok = λ clean.
        on_ok_weaker result (fills_one a b own (altering (omega (arith, wrote.follows.survives.clean, clean))))
        (wrote.ok clean);
    follows = wrote.follows;
  }

-- what a loop that fills keeps, from its beginning on
abbrev pub IsFilling : State → State → Type 0
IsFilling begun now = (HasCleanDisk now → FillsDerived begun now) × Follows begun now

pub filling_begins : (a : State) → (HasCleanDisk a → IsAltering balance_schema a) → IsFilling a a
filling_begins a altering = (λ clean. fills_none a (altering clean), follows_itself a)

pub filling_lasts :
    (a b : State) → (HasCleanDisk a → IsAltering balance_schema a) → IsFilling a b →
    HasCleanDisk b → IsAltering balance_schema b
filling_lasts a b altering filling clean =
    still_altering a b (altering (omega (arith, filling.1.survives.clean, clean))) (filling.0 clean)

pub filling_goes_on :
    (a b c : State) → IsFilling a b → (HasCleanDisk c → FillsDerived b c) → Follows b c →
    IsFilling a c
filling_goes_on a b c filling fills follows = (
  λ clean.
      fills_then a b c (filling.0 (omega (arith, follows.survives.clean, clean))) (fills clean),
  follows_then a b c filling.1 follows,
)

no_rows : (rows : List Row) → rows ≡ [] → IsNumbered rows
no_rows rows none = subst IsNumbered (sym none) (record { rise = tt; whole = tt })

-- these tables keep their rows
abbrev KeepRows : List Table → Trees → Trees → Type 0
KeepRows tables a b = AllByRecursion (λ t. b t.tree ≡ a t.tree) tables

entries_kept : (more : List Table) (a b : Trees) → KeepRows (drop 1 list_schema.tables ++ more) a b → KeepsEntries a b
entries_kept more a b keep =
    record { directory = keep.0; clocks = keep.1.0; accounts = keep.1.1.0; transfers = keep.1.1.1.0 }

-- the tables are made, and then filled
pub derived_made : (a b c : State) → MakesTables list_schema balance_schema (drop 5 balance_schema.tables) a b → FillsDerived b c → MakesDerived a c
derived_made a b c made fills = record {
  numbered = fills.numbered (record {
    balances = no_rows (b.now.trees 11) made.empty.0;
    statuses = no_rows (b.now.trees 13) made.empty.1.0;
    history = no_rows (b.now.trees 15) made.empty.1.1.0;
  });
  schema = fills.inside.schema ∙ made.schema;
  version = fills.version ∙ made.others.0;
  entries = entries_then a.now.trees b.now.trees c.now.trees
      (entries_kept [] a.now.trees b.now.trees made.others.1) fills.entries;
  shown = shows_then a b c made.shown fills.inside.shown;
  marks = fills.inside.marks ∙ made.marks;
}

-- tables of other trees keep their rows
keep_others : (tree : ℕ) (tables : List Table) (a b : Trees) → list_any (λ t. t.tree == tree) tables ≡ false
    → Others tree tables a b → KeepRows tables a b
keep_others tree [] a b none keep = tt
keep_others tree (t ∷ tables) a b none keep = elim (eqb_tells t.tree tree) [
  | inl one ↦ absurd (let some = rw one.0 at none in cc)
  | inr other ↦ (keep.0 other.1, keep_others tree tables a b (rw other.0 at none) keep.1)
]

-- and so they do twice
keep_then : (tables more : List Table) (a b c : Trees) → KeepRows tables a b → KeepRows (tables ++ more) b c
    → KeepRows tables a c
keep_then [] more a b c first second = tt
keep_then (t ∷ tables) more a b c first second =
    (second.0 ∙ first.0, keep_then tables more a b c first.1 second.1)

-- their rowids rise as before, and so it is with more tables
still_numbered : (tables more : List Table) (a b : Trees) → KeepRows tables a b
    → AllByRecursion (λ t. IsNumbered (a t.tree)) tables → AllByRecursion (λ t. IsNumbered (b t.tree)) more
    → AllByRecursion (λ t. IsNumbered (b t.tree)) (tables ++ more)
still_numbered [] more a b keep were are = are
still_numbered (t ∷ tables) more a b keep were are =
    (subst IsNumbered (sym keep.0) were.0, still_numbered tables more a b keep.1 were.1 are)

numbered_before : (a : State) → CanSetVersion a → AllByRecursion (λ t. IsNumbered (a.now.trees t.tree)) balance_schema.tables
numbered_before a has =
    subst (λ (s : Schema). AllByRecursion (λ (t : Table). IsNumbered (a.now.trees t.tree)) s.tables)
    has.altering.making.schema_is has.numbered

-- the last table is made, and then the version set
pub current_made : (a b c : State) → CanSetVersion a → Makes balance_schema failed_table a b → SetsVersion current_version b c
    → MakesCurrent a c
current_made a b c has made sets =
    let same : b.now.trees 0 ≡ a.now.trees 0 = made.others.0 in
    let set = sets.one has.version.row (ap (map (cells_from 2 1)) same ∙ has.version.only) (subst IsNumbered (sym same) has.version.numbered) in
    let later = keep_others 0 (drop 1 ledger_schema.tables) b.now.trees c.now.trees refl
    (others_of 0 ledger_schema b c made.schema set.tables).1 in
    let keep = keep_then (drop 1 balance_schema.tables) (drop 8 ledger_schema.tables) a.now.trees b.now.trees c.now.trees
    made.others.1 later in
    let failed = later.1.1.1.1.1.1.1.0 ∙ made.empty in
    record {
      schema = sets.inside.schema ∙ made.schema;
      sound = sets.sound;
      version = set.version_is;
      numbered = (
        set.numbered,
        still_numbered (drop 1 balance_schema.tables) (drop 8 ledger_schema.tables) a.now.trees c.now.trees keep
            (numbered_before a has).1 (no_rows (c.now.trees 17) failed, tt),
      );
      failed = failed;
      entries = entries_kept (drop 5 balance_schema.tables) a.now.trees c.now.trees keep;
      shown = shows_then a b c made.shown sets.inside.shown;
      marks = sets.inside.marks ∙ made.marks;
    }

-- the version of the balance schema is set
pub balanced_made : (a b : State) → CanSetVersion a → SetsVersion (pos 2) a b → MakesBalanced a b
balanced_made a b has sets =
    let set = sets.one has.version.row has.version.only has.version.numbered in
    let keep = keep_others 0 (drop 1 balance_schema.tables) a.now.trees b.now.trees refl
    (others_of 0 balance_schema a b has.altering.making.schema_is set.tables).1 in
    record {
      schema = sets.inside.schema ∙ has.altering.making.schema_is;
      version = set.version_is;
      numbered = (
        set.numbered,
        still_numbered (drop 1 balance_schema.tables) [] a.now.trees b.now.trees keep (numbered_before a has).1 tt,
      );
      entries = entries_kept (drop 5 balance_schema.tables) a.now.trees b.now.trees keep;
      shown = sets.inside.shown;
      marks = sets.inside.marks;
    }
