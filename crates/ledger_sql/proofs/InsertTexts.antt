-- What the INSERTs mean over the current schema and into a file of the balance schema, and what they add.
use Rattle.std.proofs.Common.{◌≡◌, ℕ, ℤ, pos, List, [], ◌∷◌, ◌++◌, ◌+◌, ◌/◌, length, codes, refl}
use Rattle.sqlite_value.specs.declared.value.Value.TheVariants.{Null, Int, Blob}
use Rattle.sqlite_value.specs.Order.{Row}
use Rattle.sqlite_sql.specs.Term.{Term, lit, col}
use Rattle.sqlite_schema.specs.declared.schema.Schema.{Schema}
use Rattle.sqlite_schema.specs.declared.schema.Table.{Table}
use Rattle.sqlite_rules.specs.Cast.{cast_all}
use Rattle.sqlite_tied.specs.Compute.{everything}
use Rattle.sqlite.specs.Listing.{understood}
use Rattle.sqlite.specs.Effect.{value_rows}
use Rattle.sqlite.specs.State.{State, HasCleanDisk}
use Rattle.rows.specs.declared.account_cells.AccountCells.{AccountCells}
use Rattle.rows.specs.declared.transfer_cells.TransferCells.{TransferCells}
use Rattle.rows.specs.declared.balance_cells.BalanceCells.{BalanceCells}
use Rattle.rows.specs.declared.status_cells.StatusCells.{StatusCells}
use Rattle.rows.specs.declared.history_cells.HistoryCells.{HistoryCells}
use Rattle.ledger_sql.specs.Effects.{AddsRows}
use Rattle.ledger_sql.specs.Schema.{balance_schema, ledger_schema, schema_table, tenant_table, clock_table, account_table, transfer_table, balance_table, status_table, history_table, failed_table}
use Rattle.ledger_sql.specs.TableRows.{cells_from, rows_in, history_rows}
use Rattle.ledger_sql.specs.Values.{account_values, transfer_values, balance_values, status_values, history_values, id_values}
use Rattle.ledger_sql.proofs.AddLemmas.{IsInsertText, IsInserting, AreTaken, cast_whole, add_writes}
use Rattle.ledger_sql.proofs.EntryTexts.{columns_at}
use Rattle.ledger_sql.proofs.OverTables.{IsBefore}
use Rattle.ledger_sql.proofs.WriteLemmas.{WritesBy}

-- the values of one row of a tenant: its number, and so many more
abbrev pub own_terms : ℕ → List Term
own_terms many = lit Null ∷ columns_at 0 0 (many + 1)

-- those of two rows of a history
abbrev pub history_terms : List Term
history_terms = own_terms 6 ++ lit Null ∷ col 0 0 ∷ columns_at 0 7 6

-- those of a row with a rowid of its own
abbrev pub version_terms : List Term
version_terms = lit Null ∷ lit Null ∷ lit (Int (pos 3)) ∷ []

abbrev pub tenant_terms : List Term
tenant_terms = col 0 0 ∷ lit Null ∷ col 0 1 ∷ col 0 2 ∷ []

abbrev pub clock_terms : List Term
clock_terms = col 0 0 ∷ lit Null ∷ col 0 1 ∷ []

abbrev pub IsRowText : ℕ → ℕ → ℕ → Table → List ℕ → Schema → Type 0
IsRowText at many tree t sql s = IsInsertText sql s at (own_terms many) (many + 2) tree t

-- the texts that insert rows: into a ledger, or where the tables of the balance schema come first
pub record InsertTexts : Type 0 where
  pub version : IsBefore ledger_schema.tables (λ s. IsInsertText (codes "INSERT INTO schema (version) VALUES (3)") s 0 version_terms 3 0 schema_table)
  pub tenant : IsBefore ledger_schema.tables (λ s. IsInsertText (codes "INSERT INTO tenant (no, name, digest) VALUES (?1, ?2, ?3)") s 1 tenant_terms 4 1 tenant_table)
  pub clock : IsBefore ledger_schema.tables (λ s. IsInsertText (codes "INSERT INTO clock (tenant, clock) VALUES (?1, ?2)") s 2 clock_terms 3 4 clock_table)
  pub account : IsBefore ledger_schema.tables (IsRowText 3 8 5 account_table (codes "INSERT INTO account (tenant, id, user_data_128, user_data_64, user_data_32, ledger, code, flags, timestamp) VALUES (?1, ?2, ?3, ?4, ?5, ?6, ?7, ?8, ?9)"))
  pub transfer : IsBefore ledger_schema.tables (IsRowText 4 14 8 transfer_table (codes "INSERT INTO transfer (tenant, id, debit, credit, amount, pending_id, user_data_128, user_data_64, user_data_32, timeout, ledger, code, flags, timestamp, at_clock) VALUES (?1, ?2, ?3, ?4, ?5, ?6, ?7, ?8, ?9, ?10, ?11, ?12, ?13, ?14, ?15)"))
  pub balance : IsBefore balance_schema.tables (IsRowText 5 5 11 balance_table (codes "INSERT INTO balance (tenant, account, dp, dd, cp, cc) VALUES (?1, ?2, ?3, ?4, ?5, ?6)"))
  pub status : IsBefore balance_schema.tables (IsRowText 6 3 13 status_table (codes "INSERT INTO status (tenant, transfer, state, due) VALUES (?1, ?2, ?3, ?4)"))
  pub history : IsBefore balance_schema.tables (IsRowText 7 6 15 history_table (codes "INSERT INTO history (tenant, account, timestamp, dp, dd, cp, cc) VALUES (?1, ?2, ?3, ?4, ?5, ?6, ?7)"))
  pub failed : IsBefore ledger_schema.tables (IsRowText 8 1 17 failed_table (codes "INSERT INTO failed (tenant, id) VALUES (?1, ?2)"))
  pub histories : IsBefore ledger_schema.tables (λ s. IsInsertText (codes "INSERT INTO history (tenant, account, timestamp, dp, dd, cp, cc) VALUES (?1, ?2, ?3, ?4, ?5, ?6, ?7), (?1, ?8, ?9, ?10, ?11, ?12, ?13)") s 7 history_terms 8 15 history_table)

pub inserting : InsertTexts
unfolding understood everything
inserting = record {
  version = λ _ _ _. record { is = refl; plain = (refl, refl); listed = refl };
  tenant = λ _ _ _. record { is = refl; plain = (refl, refl); listed = refl };
  clock = λ _ _ _. record { is = refl; plain = (refl, refl); listed = refl };
  account = λ _ _ _. record { is = refl; plain = (refl, refl); listed = refl };
  transfer = λ _ _ _. record { is = refl; plain = (refl, refl); listed = refl };
  balance = λ _ _ _. record { is = refl; plain = (refl, refl); listed = refl };
  status = λ _ _ _. record { is = refl; plain = (refl, refl); listed = refl };
  history = λ _ _ _. record { is = refl; plain = (refl, refl); listed = refl };
  failed = λ _ _ _. record { is = refl; plain = (refl, refl); listed = refl };
  histories = λ _ _ _. record { is = refl; plain = (refl, refl); listed = refl };
}

-- the contract of a function that adds one row of a tenant
pub row_writes : (sql : List ℕ) (at many tree : ℕ) (t : Table) (tenant : ℤ) (values : Row) → value_rows (Int tenant ∷ values) (many + 2) (length (own_terms many) / (many + 2)) (own_terms many) ≡ (Null ∷ Int tenant ∷ values) ∷ []
    → AreTaken t.columns tenant many (values ∷ []) → (params : Row) → params ≡ Int tenant ∷ values → (old new : State) → (HasCleanDisk old → IsInserting sql at (own_terms many) (many + 2) tree t old)
    → WritesBy sql params (AddsRows (rows_in tree many) tree tenant (values ∷ [])) old new
row_writes sql at many tree t tenant values gives taken params same = add_writes sql at (own_terms many) (many + 2) tree t tenant many (values ∷ []) (Int tenant ∷ values) params same gives taken

pub account_taken : (tenant : ℤ) (a : AccountCells) → AreTaken account_table.columns tenant 8 (account_values a ∷ [])
account_taken tenant a = (((λ i. cast_whole tenant i ∷ Blob a.id ∷ Blob a.user_data_128 ∷ Blob a.user_data_64 ∷ cast_whole a.user_data_32 i ∷ cast_whole a.ledger i ∷ cast_whole a.code i ∷ cast_whole a.flags i ∷ cast_whole a.timestamp i ∷ []), λ id. refl), tt)

pub transfer_taken : (tenant : ℤ) (a : TransferCells) → AreTaken transfer_table.columns tenant 14 (transfer_values a ∷ [])
transfer_taken tenant a = (((λ i. cast_whole tenant i ∷ Blob a.id ∷ Blob a.debit ∷ Blob a.credit ∷ Blob a.amount ∷ Blob a.pending_id ∷ Blob a.user_data_128 ∷ Blob a.user_data_64 ∷ cast_whole a.user_data_32 i ∷ cast_whole a.timeout i ∷ cast_whole a.ledger i ∷ cast_whole a.code i ∷ cast_whole a.flags i ∷ cast_whole a.timestamp i ∷ cast_whole a.at_clock i ∷ []), λ id. refl), tt)

pub balance_taken : (tenant : ℤ) (a : BalanceCells) → AreTaken balance_table.columns tenant 5 (balance_values a ∷ [])
balance_taken tenant a = (((λ i. cast_whole tenant i ∷ Blob a.account ∷ Blob a.dp ∷ Blob a.dd ∷ Blob a.cp ∷ Blob a.cc ∷ []), λ id. refl), tt)

pub status_taken : (tenant : ℤ) (a : StatusCells) → AreTaken status_table.columns tenant 3 (status_values a ∷ [])
status_taken tenant a = (((λ i. cast_whole tenant i ∷ Blob a.transfer ∷ cast_whole a.state i ∷ cast_whole a.due i ∷ []), λ id. refl), tt)

pub history_taken : (tenant : ℤ) (a : HistoryCells) → ((cast_all history_table.columns (Int tenant ∷ history_values a) ≡ Int tenant ∷ history_values a) × ((id : ℤ) → cells_from 2 6 (Int id ∷ Int tenant ∷ history_values a) ≡ history_values a))
history_taken tenant a = ((λ i. cast_whole tenant i ∷ Blob a.account ∷ cast_whole a.timestamp i ∷ Blob a.dp ∷ Blob a.dd ∷ Blob a.cp ∷ Blob a.cc ∷ []), λ id. refl)

pub history_added : (tenant : ℤ) (debit credit : HistoryCells) (sql : List ℕ) (params : Row) → params ≡ Int tenant ∷ (history_values debit ++ history_values credit) → (old new : State) → (HasCleanDisk old → IsInserting sql 7 history_terms 8 15 history_table old)
    → WritesBy sql params (AddsRows history_rows 15 tenant (history_values debit ∷ history_values credit ∷ [])) old new
history_added tenant debit credit sql params same =
    add_writes sql 7 history_terms 8 15 history_table tenant 6 (history_values debit ∷ history_values credit ∷ []) (Int tenant ∷ (history_values debit ++ history_values credit)) params same refl
    (history_taken tenant debit, (history_taken tenant credit, tt))

pub failed_taken : (tenant : ℤ) (id : List ℕ) → AreTaken failed_table.columns tenant 1 (id_values id ∷ [])
failed_taken tenant id = (((λ i. cast_whole tenant i ∷ Blob id ∷ []), λ id. refl), tt)
