-- What the texts mean that read a tenant's rows of a table, whatever tables lie behind those that they
-- need.
use Rattle.std.proofs.Common.{ℕ, List, [], ◌∷◌, codes, refl}
use Rattle.sqlite_value.specs.declared.keys.Key.{Key}
use Rattle.sqlite_schema.specs.declared.schema.Schema.{Schema}
use Rattle.sqlite_sql.specs.Term.{Term}
use Rattle.sqlite_tied.specs.Compute.{everything}
use Rattle.sqlite.specs.Listing.{understood}
use Rattle.ledger_sql.specs.Schema.{list_schema, balance_schema, ledger_schema}
use Rattle.ledger_sql.specs.Queries.{IsReading}
use Rattle.ledger_sql.proofs.AnswerLemmas.{IsPlainText}
use Rattle.ledger_sql.proofs.KeyLemmas.{is_param, columns_from}
use Rattle.ledger_sql.proofs.SelectTexts.{account_reading, transfer_reading}
use Rattle.ledger_sql.proofs.WholeTexts.{by_place}
use Rattle.ledger_sql.proofs.ReadingTexts.{IsQuery}

-- a text that reads the rows whose tenant, a column at a place, is the parameter: so many columns from
-- the second on
abbrev pub IsOwn : ℕ → ℕ → ℕ → List (Term × Key) → List ℕ → Schema → Type 0
IsOwn tree place width order text s = IsPlainText text s tree (is_param place 0 ∷ []) (columns_from 2 width) order

-- the texts that read a tenant's rows
pub record OwnTexts : Type 0 where
  pub clocks : IsQuery list_schema.tables (IsOwn 4 0 1 []) (codes "SELECT clock FROM clock WHERE tenant = ?1")
  pub accounts : IsQuery list_schema.tables (IsOwn 5 1 8 (by_place 2 ∷ [])) (account_reading (codes " ORDER BY id"))
  pub transfers : IsQuery list_schema.tables (IsOwn 8 1 14 (by_place 2 ∷ [])) (transfer_reading (codes " ORDER BY id"))
  pub balances : IsQuery balance_schema.tables (IsOwn 11 1 5 (by_place 2 ∷ [])) (codes "SELECT account, dp, dd, cp, cc FROM balance WHERE tenant = ?1 ORDER BY account")
  pub statuses : IsQuery balance_schema.tables (IsOwn 13 1 3 (by_place 2 ∷ [])) (codes "SELECT transfer, state, due FROM status WHERE tenant = ?1 ORDER BY transfer")
  pub history : IsQuery balance_schema.tables (IsOwn 15 1 6 (by_place 2 ∷ by_place 3 ∷ [])) (codes "SELECT account, timestamp, dp, dd, cp, cc FROM history WHERE tenant = ?1 ORDER BY account, timestamp")
  pub failed : IsQuery ledger_schema.tables (IsOwn 17 1 1 (by_place 2 ∷ [])) (codes "SELECT id FROM failed WHERE tenant = ?1 ORDER BY id")

pub listing : OwnTexts
unfolding understood everything IsReading
listing = record {
  clocks = record { reads = (tt, refl); over = λ _ _ _. record { names = _; is = refl; plain = (refl, refl); unlisted = refl } };
  accounts = record { reads = (tt, refl); over = λ _ _ _. record { names = _; is = refl; plain = (refl, refl); unlisted = refl } };
  transfers = record { reads = (tt, refl); over = λ _ _ _. record { names = _; is = refl; plain = (refl, refl); unlisted = refl } };
  balances = record { reads = (tt, refl); over = λ _ _ _. record { names = _; is = refl; plain = (refl, refl); unlisted = refl } };
  statuses = record { reads = (tt, refl); over = λ _ _ _. record { names = _; is = refl; plain = (refl, refl); unlisted = refl } };
  history = record { reads = (tt, refl); over = λ _ _ _. record { names = _; is = refl; plain = (refl, refl); unlisted = refl } };
  failed = record { reads = (tt, refl); over = λ _ _ _. record { names = _; is = refl; plain = (refl, refl); unlisted = refl } };
}
