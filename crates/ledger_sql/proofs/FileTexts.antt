-- What the INSERTs with a rowid of their own add.
use Rattle.std.proofs.Common.{◌≡◌, ℕ, ℤ, pos, List, [], ◌∷◌, refl}
use Rattle.sqlite_value.specs.declared.value.Value.TheVariants.{Null, Int, Text, Blob}
use Rattle.sqlite_value.specs.Order.{Row, column}
use Rattle.sqlite_rules.specs.Edit.{next_rowid}
use Rattle.sqlite.specs.State.{State, HasCleanDisk}
use Rattle.ledger_sql.specs.Effects.{AddsRows, AddsFileRow}
use Rattle.ledger_sql.specs.Schema.{schema_table, tenant_table, clock_table}
use Rattle.ledger_sql.specs.TableRows.{cells_from, version_rows, directory_rows, clock_rows}
use Rattle.ledger_sql.specs.Values.{version_values, directory_values, clock_values}
use Rattle.ledger_sql.proofs.AddLemmas.{IsInserting, cast_null, cast_whole}
use Rattle.ledger_sql.proofs.InsertTexts.{version_terms, tenant_terms, clock_terms}
use Rattle.ledger_sql.proofs.OneRowLemmas.{adds_own, adds_file_row, put_writes}
use Rattle.ledger_sql.proofs.WriteLemmas.{WritesBy}

abbrev version_row : List Row → Row
version_row rows = Int (next_rowid rows) ∷ Null ∷ Int (pos 3) ∷ []

pub version_added : (sql : List ℕ) (old new : State) → (HasCleanDisk old → IsInserting sql 0 version_terms 3 0 schema_table old) → WritesBy sql [] (AddsFileRow version_rows 0 (version_values (pos 3))) old new
version_added sql old new inserting =
    put_writes sql 0 version_terms 3 0 schema_table [] [] refl (Null ∷ Null ∷ Int (pos 3) ∷ []) (Null ∷ Null ∷ Int (pos 3) ∷ []) refl (λ i. cast_null i ∷ cast_null i ∷ cast_whole (pos 3) i ∷ []) version_row (λ rows. refl) old new
    inserting _ (λ put. adds_file_row 0 (version_row (old.now.trees 0)) old new put refl (cells_from 2 1) (version_values (pos 3)) refl) (λ a. a.inside)

pub tenant_added : (number : ℤ) (name digest : List ℕ) (sql : List ℕ) (params : Row) → params ≡ directory_values number name digest → (old new : State) → (HasCleanDisk old → IsInserting sql 1 tenant_terms 4 1 tenant_table old)
    → WritesBy sql params (AddsFileRow directory_rows 1 (directory_values number name digest)) old new
tenant_added number name digest sql params same old new inserting =
    let row : Row = Int number ∷ Null ∷ Text name ∷ Blob digest ∷ [] in
    put_writes sql 1 tenant_terms 4 1 tenant_table (directory_values number name digest) params same row row refl (λ i. cast_whole number i ∷ cast_null i ∷ Text name ∷ Blob digest ∷ []) (λ _. row) (λ rows. refl) old new
    inserting _ (λ put. adds_file_row 1 row old new put refl (λ row. column row 0 ∷ cells_from 2 2 row) (directory_values number name digest) refl) (λ a. a.inside)

pub clock_added : (tenant clock : ℤ) (sql : List ℕ) (params : Row) → params ≡ Int tenant ∷ clock_values clock → (old new : State) → (HasCleanDisk old → IsInserting sql 2 clock_terms 3 4 clock_table old)
    → WritesBy sql params (AddsRows clock_rows 4 tenant (clock_values clock ∷ [])) old new
clock_added tenant clock sql params same old new inserting =
    let row : Row = Int tenant ∷ Null ∷ Int clock ∷ [] in
    put_writes sql 2 clock_terms 3 4 clock_table (Int tenant ∷ clock_values clock) params same row row refl (λ i. cast_whole tenant i ∷ cast_null i ∷ cast_whole clock i ∷ []) (λ _. row) (λ rows. refl) old new
    inserting _ (λ put. adds_own 4 row old new put refl tenant 0 1 (clock_values clock) refl refl) (λ a. a.inside)
