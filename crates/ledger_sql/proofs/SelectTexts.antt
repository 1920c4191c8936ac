-- What the queries mean over the current schema, whatever tables of strangers lie behind ours.
use Rattle.std.proofs.Common.{ℕ, List, [], ◌∷◌, ◌++◌, codes, refl}
use Rattle.sqlite_schema.specs.declared.schema.Schema.{Schema}
use Rattle.sqlite_tied.specs.Compute.{everything}
use Rattle.sqlite.specs.Listing.{understood}
use Rattle.ledger_sql.specs.Schema.{ledger_schema}
use Rattle.ledger_sql.specs.Queries.{IsReading}
use Rattle.ledger_sql.proofs.AnswerLemmas.{IsPlainText}
use Rattle.sqlite_sql.specs.Term.{Term, col}
use Rattle.ledger_sql.proofs.KeyLemmas.{is_param, columns_from}
use Rattle.ledger_sql.proofs.ReadingTexts.{IsQuery}

-- the texts that read a tenant's accounts, and its transfers, by what they ask more
abbrev pub account_reading : List ℕ → List ℕ
account_reading more = codes "SELECT id, user_data_128, user_data_64, user_data_32, ledger, code, flags, timestamp FROM account WHERE tenant = ?1" ++ more

abbrev pub transfer_reading : List ℕ → List ℕ
transfer_reading more = codes "SELECT id, debit, credit, amount, pending_id, user_data_128, user_data_64, user_data_32, timeout, ledger, code, flags, timestamp, at_clock FROM transfer WHERE tenant = ?1" ++ more

-- a text that finds a row of a table by its tenant and its id
abbrev pub IsPoint : ℕ → ℕ → List ℕ → Schema → Type 0
IsPoint tree width text s = IsPlainText text s tree (is_param 1 0 ∷ is_param 2 1 ∷ []) (columns_from 2 width) []

-- a text that finds a row of a table by the value at a place
abbrev pub IsLookUp : ℕ → ℕ → List Term → List ℕ → Schema → Type 0
IsLookUp tree place shown text s = IsPlainText text s tree (is_param place 0 ∷ []) shown []

-- the texts that find a row
pub record FindTexts : Type 0 where
  pub account : IsQuery ledger_schema.tables (IsPoint 5 8) (account_reading (codes " AND id = ?2"))
  pub transfer : IsQuery ledger_schema.tables (IsPoint 8 14) (transfer_reading (codes " AND id = ?2"))
  pub balance : IsQuery ledger_schema.tables (IsPoint 11 5) (codes "SELECT account, dp, dd, cp, cc FROM balance WHERE tenant = ?1 AND account = ?2")
  pub status : IsQuery ledger_schema.tables (IsPoint 13 3) (codes "SELECT transfer, state, due FROM status WHERE tenant = ?1 AND transfer = ?2")
  pub failed : IsQuery ledger_schema.tables (IsPoint 17 1) (codes "SELECT id FROM failed WHERE tenant = ?1 AND id = ?2")
  pub clock : IsQuery ledger_schema.tables (IsLookUp 4 0 (col 1 2 ∷ [])) (codes "SELECT clock FROM clock WHERE tenant = ?1")
  pub tenant : IsQuery ledger_schema.tables (IsLookUp 1 3 (col 1 0 ∷ [])) (codes "SELECT no FROM tenant WHERE digest = ?1")
  pub name : IsQuery ledger_schema.tables (IsLookUp 1 2 (col 1 0 ∷ columns_from 2 2)) (codes "SELECT no, name, digest FROM tenant WHERE name = ?1")
  pub number : IsQuery ledger_schema.tables (IsLookUp 1 0 (col 1 0 ∷ columns_from 2 2)) (codes "SELECT no, name, digest FROM tenant WHERE no = ?1")

pub finding : FindTexts
unfolding understood everything IsReading
finding = record {
  account = record { reads = (tt, refl); over = λ _ _ _. record { names = _; is = refl; plain = (refl, refl); unlisted = refl } };
  transfer = record { reads = (tt, refl); over = λ _ _ _. record { names = _; is = refl; plain = (refl, refl); unlisted = refl } };
  balance = record { reads = (tt, refl); over = λ _ _ _. record { names = _; is = refl; plain = (refl, refl); unlisted = refl } };
  status = record { reads = (tt, refl); over = λ _ _ _. record { names = _; is = refl; plain = (refl, refl); unlisted = refl } };
  failed = record { reads = (tt, refl); over = λ _ _ _. record { names = _; is = refl; plain = (refl, refl); unlisted = refl } };
  clock = record { reads = (tt, refl); over = λ _ _ _. record { names = _; is = refl; plain = (refl, refl); unlisted = refl } };
  tenant = record { reads = (tt, refl); over = λ _ _ _. record { names = _; is = refl; plain = (refl, refl); unlisted = refl } };
  name = record { reads = (tt, refl); over = λ _ _ _. record { names = _; is = refl; plain = (refl, refl); unlisted = refl } };
  number = record { reads = (tt, refl); over = λ _ _ _. record { names = _; is = refl; plain = (refl, refl); unlisted = refl } };
}
