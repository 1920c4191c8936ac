-- A walk over the directory, and the tables that it needs.
use Rattle.std.proofs.Common.{◌≡◌, ℕ, ◌+◌, ◌<◌, List, [], ◌∷◌, ◌++◌, take, drop, length, get_or, sym, ap, ◌∙◌}
use Rattle.std.specs.List.{AllZip}
use Rattle.std.proofs.lemmas.List.{take_more}
use Rattle.std.proofs.lemmas.Slice.Zip.{all_zipped_more}
use Rattle.sqlite_schema.specs.declared.schema.Schema.{Schema}
use Rattle.sqlite.specs.State.{State}
use Rattle.ledger_sql.specs.Effects.{StartsAs, IsLedger}
use Rattle.ledger_sql.specs.Schema.{after_tenant, list_schema, ledger_schema}
use Rattle.stored_ledgers.specs.Resting.{HoldsHere}
use Rattle.openings.specs.Whole.{CanBeRead}
use Rattle.openings.specs.Tables.{HasTables}

-- the next pair of two lists, place by place
pub zipped_on : {X Y : Type 0} (R : X → Y → Type 0) (xs : List X) (ys more : List Y) (i : ℕ) (x : X) (y : Y)
    → i < length xs → x ≡ get_or xs i x → more ≡ ys ++ y ∷ [] → AllZip R (take i xs) ys → R x y
    → AllZip R (take (i + 1) xs) more
zipped_on {X} R xs ys more i x y below at grown those is =
    rw (take_more xs i x below ∙ ap (λ (r : X). take i xs ++ r ∷ []) (sym at), grown)
    (all_zipped_more R (take i xs) ys x y those is)

-- a ledger has the tables of every version
pub has_tables : (version : ℕ) (schema : Schema) → IsLedger schema → HasTables version schema
has_tables version schema ledger = record {
  lists = (drop 5 ledger_schema.tables ++ ledger.more, ledger.tables);
  derived = λ from. (drop 8 ledger_schema.tables ++ ledger.more, ledger.tables);
  failed = λ from. (ledger.more, ledger.tables);
}

-- and the directory
pub starts_with_directory : (version : ℕ) (schema : Schema) → HasTables version schema
    → StartsAs after_tenant.tables schema
starts_with_directory version schema has = (drop 2 list_schema.tables ++ has.lists.0, has.lists.1)

-- so a connection that holds ledgers can be read
pub can_be_read : (version : ℕ) (s : State) → HoldsHere s → CanBeRead version s
can_be_read version s holds clean =
    let now = holds clean in (now.0, now.1, has_tables version s.now.schema now.2.schema)
