-- What the UPDATEs mean over the current schema, and what they replace.
use Rattle.std.proofs.Common.{◌≡◌, ℕ, suc, ℤ, List, [], ◌∷◌, ◌+◌, ◌==◌, codes, true, ◌&&◌, refl, sym, ap, ◌∙◌}
use Rattle.std.specs.List.{list_any, list_all}
use Rattle.std.proofs.lemmas.Bool.Decides.{Decides-int_eq}
use Rattle.sqlite_rules.specs.Cast.{cast_all}
use Rattle.sqlite_value.specs.declared.value.Value.TheVariants.{Null, Int, Blob}
use Rattle.sqlite_value.specs.Order.{Row, column}
use Rattle.sqlite_sql.specs.Term.{lit, col, eval_all, holds}
use Rattle.sqlite_schema.specs.declared.schema.Schema.{Schema}
use Rattle.sqlite_schema.specs.declared.schema.Table.{Table}
use Rattle.sqlite_tied.specs.Compute.{everything}
use Rattle.sqlite.specs.Listing.{understood}
use Rattle.sqlite.specs.State.{State, HasCleanDisk}
use Rattle.ledger_sql.specs.Effects.{IsInside, SetsOne}
use Rattle.ledger_sql.specs.Schema.{ledger_schema, clock_table, balance_table, status_table}
use Rattle.ledger_sql.specs.TableRows.{is_int, is_own, cells_from, rows_in, clock_rows, has_id}
use Rattle.ledger_sql.specs.Values.{clock_values}
use Rattle.ledger_sql.proofs.AddLemmas.{AreTaken, cast_null, cast_whole}
use Rattle.ledger_sql.proofs.AnswerLemmas.{equals, equals_int, equals_blob}
use Rattle.ledger_sql.proofs.EntryTexts.{columns_at}
use Rattle.ledger_sql.proofs.KeyLemmas.{is_param, and_true}
use Rattle.ledger_sql.proofs.OverTables.{IsBefore, over_ledger}
use Rattle.ledger_sql.proofs.SetLemmas.{IsUpdateText, set_writes}
use Rattle.ledger_sql.proofs.WriteLemmas.{WritesBy}

-- the text sets a tenant's row that has this id, to so many values behind the tenant's number
abbrev pub IsRowUpdate : ℕ → ℕ → ℕ → Table → List ℕ → Schema → Type 0
IsRowUpdate at many tree t sql s = IsUpdateText sql s at (is_param 1 0 ∷ is_param 2 1 ∷ []) (columns_at 0 0 (many + 1)) tree t

-- the texts that replace a row of a ledger
pub record UpdateTexts : Type 0 where
  pub balance : IsBefore ledger_schema.tables (IsRowUpdate 5 5 11 balance_table (codes "UPDATE balance SET tenant = ?1, account = ?2, dp = ?3, dd = ?4, cp = ?5, cc = ?6 WHERE tenant = ?1 AND account = ?2"))
  pub status : IsBefore ledger_schema.tables (IsRowUpdate 6 3 13 status_table (codes "UPDATE status SET tenant = ?1, transfer = ?2, state = ?3, due = ?4 WHERE tenant = ?1 AND transfer = ?2"))
  pub clock : IsBefore ledger_schema.tables (λ s. IsUpdateText (codes "UPDATE clock SET clock = ?2 WHERE tenant = ?1") s 2 (is_param 0 0 ∷ []) (lit Null ∷ col 0 1 ∷ []) 4 clock_table)

pub setting : UpdateTexts
unfolding understood everything
setting = record {
  balance = λ _ _ _. record { is = refl; plain = (refl, refl); listed = refl };
  status = λ _ _ _. record { is = refl; plain = (refl, refl); listed = refl };
  clock = λ _ _ _. record { is = refl; plain = (refl, refl); listed = refl };
}

-- the contract of a function that sets the row with an id, the first of its values
module _ (sql : List ℕ) (at width tree : ℕ) (t : Table) (means : IsBefore ledger_schema.tables (IsRowUpdate at (suc width) tree t sql)) (ours : list_any (λ u. u.tree == tree) ledger_schema.tables ≡ true)
    (tenant : ℤ) (id : List ℕ) (values : Row) (first : column values 0 ≡ Blob id) (sets : (r : Row) → eval_all (columns_at 0 0 (suc width + 1)) ((Int tenant ∷ values) ∷ r ∷ []) ≡ Int tenant ∷ values)
    (taken : AreTaken t.columns tenant (suc width) (values ∷ [])) (params : Row) (same : params ≡ Int tenant ∷ values) (old new : State) where
  finds_id : (r : Row) → list_all (holds ((Int tenant ∷ values) ∷ r ∷ [])) (is_param 1 0 ∷ is_param 2 1 ∷ []) ≡ (is_own tenant r && has_id id (cells_from 2 (suc width) r))
  finds_id r =
      (λ i. equals_int (column r 1) tenant i && (equals (column r 2) (first i) && true))
      ∙ ap (λ b. is_own tenant r && b) (and_true (equals (column r 2) (Blob id)) ∙ equals_blob (column r 2) id)

  pub row_set : (HasCleanDisk old → IsInside old) → WritesBy sql params (SetsOne (rows_in tree (suc width)) tree tenant (has_id id) values) old new
  row_set = set_writes sql at (is_param 1 0 ∷ is_param 2 1 ∷ []) (columns_at 0 0 (suc width + 1)) tree t (over_ledger (IsRowUpdate at (suc width) tree t sql) means) ours tenant 1 (suc width) (has_id id) values (Int tenant ∷ values) (Int tenant ∷ values) params same finds_id sets taken.0.0 taken.0.1 (λ r id is own. refl) old new

module _ (sql : List ℕ) (means : IsBefore ledger_schema.tables (λ s. IsUpdateText sql s 2 (is_param 0 0 ∷ []) (lit Null ∷ col 0 1 ∷ []) 4 clock_table)) (tenant clock : ℤ) (params : Row) (same : params ≡ Int tenant ∷ clock_values clock) (old new : State) where
  clock_passes : (r : Row) → list_all (holds ((Int tenant ∷ clock_values clock) ∷ r ∷ [])) (is_param 0 0 ∷ []) ≡ (is_int tenant (column r 0) && true)
  clock_passes r i = equals_int (column r 0) tenant i && true

  clock_keeps : (r : Row) (id : ℤ) → column r 0 ≡ Int id → is_int tenant (column r 0) ≡ true → Int id ≡ Int tenant
  clock_keeps r id is own = ap Int ((Decides-int_eq id tenant).0 (sym (ap (is_int tenant) is) ∙ own))

  clock_casts : cast_all clock_table.columns (Null ∷ Int clock ∷ []) ≡ Null ∷ Int clock ∷ []
  clock_casts i = cast_null i ∷ cast_whole clock i ∷ []

  pub clock_set : (HasCleanDisk old → IsInside old) → WritesBy sql params (SetsOne clock_rows 4 tenant (λ _. true) (clock_values clock)) old new
  clock_set =
      set_writes sql 2 (is_param 0 0 ∷ []) (lit Null ∷ col 0 1 ∷ []) 4 clock_table (over_ledger (λ s. IsUpdateText sql s 2 (is_param 0 0 ∷ []) (lit Null ∷ col 0 1 ∷ []) 4 clock_table) means) refl tenant 0 1 (λ _. true) (clock_values clock) (Null ∷ clock_values clock)
      (Int tenant ∷ clock_values clock) params same clock_passes (λ r. refl) clock_casts (λ id. refl) clock_keeps old new
