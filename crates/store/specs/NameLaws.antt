-- Whoever has a digest has a machine.
use Rattle.std.proofs.Common.{◌≡◌, ◌≢◌, ℕ, ℤ, Bool, true, false, cond, IsTrue, Option, Some, None, option_map}
use Rattle.std.proofs.Common.{List, [], ◌∷◌, map, filter, refl}
use Rattle.std.specs.List.{AllByRecursion}
use Rattle.sqlite_value.specs.declared.value.Value.{Value}
use Rattle.sqlite_value.specs.declared.value.Value.TheVariants.{Null, Int, Real, Text, Blob}
use Rattle.sqlite_value.specs.Order.{Row, column}
use Rattle.sqlite_trees.specs.Tree.{rowid}
use Rattle.sqlite_trees.specs.View.{is_int}
use Rattle.sqlite.specs.Effect.{Database}
use Rattle.ledger_sql.specs.Schema.{tenant_tree}
use Rattle.ledger_sql.specs.TableRows.{is_blob, cells_from}
use Rattle.stored_tables.specs.MachineOf.{machine_of}
use Rattle.stored_ledgers.specs.Directory.{with_digest, number_in, first_number, number_of, tenants_in}
use Rattle.stored_ledgers.specs.Ledger.{HoldsLedgers}

has_number : (value : Value) → IsTrue (is_int value) → number_in value ≢ None
has_number Null is none = absurd (cc)
has_number (Int number) is none = cc
has_number (Real number) is none = absurd (cc)
has_number (Text bytes) is none = absurd (cc)
has_number (Blob bytes) is none = absurd (cc)

abbrev entry : Row → Row
entry row = column row 0 ∷ cells_from 2 2 row

-- each row of the directory has a number
first_has_number :
    (p : Row → Bool) (rows : List Row) → AllByRecursion (λ r. IsTrue (is_int (rowid r))) rows →
    filter p (map entry rows) ≢ [] → first_number (filter p (map entry rows)) ≢ None
first_has_number p [] all some = absurd (some refl)
first_has_number p (row ∷ rows) all some =
    let rest = filter p (map entry rows) in
    elim (p (entry row)) as (λ b. cond b (entry row ∷ rest) rest ≢ []
    → first_number (cond b (entry row ∷ rest) rest) ≢ None) [
      | true ↦ λ there. has_number (column row 0) all.0
      | false ↦ λ there. first_has_number p rows all.1 there
    ] some

no_number :
    {X : Type 0} (f : ℤ → X) (found : Option ℤ) → option_map f found ≡ None → found ≡ None
no_number f None none = refl
no_number f (Some number) none = absurd (cc)

-- whoever has the digest has a machine
pub held :
    (digest : List ℕ) (db : Database) → HoldsLedgers db → with_digest digest db.trees ≢ [] →
    tenants_in db.trees digest ≢ None
unfolding number_of
held digest db ledgers there none =
    first_has_number (λ row. is_blob digest (column row 2)) (db.trees tenant_tree)
    ledgers.numbered.1.0.whole there
    (no_number (λ number. machine_of number db.trees) (number_of digest db.trees) none)
