-- A tenant's seal: one digest that speaks of all its accounts and transfers.
use Rattle.std.specs.Prelude.{◌≡◌, ◌≢◌, ℕ, List, [], ◌∷◌, ◌++◌, replicate}
use Rattle.std.specs.List.{concat}
use Rattle.std.specs.Int.{w16, w32, w64, to_be_bytes}
use Rattle.sha2.specs.Sha256.{sha256}
use Rattle.amount.specs.Column.{column_of}
use Rattle.records.specs.declared.account.Account.{Account}
use Rattle.records.specs.declared.transfer.Transfer.{Transfer}
use Rattle.seals.specs.declared.record.Record.{Record}
use Rattle.seals.specs.declared.record.Record.TheVariants as one

-- the columns of an account behind its kind, which is 1, each with the greatest digit first
abbrev pub account_columns : Account → List (List ℕ)
account_columns a =
    (1 ∷ []) ∷ column_of a.id ∷ column_of a.user_data_128 ∷ to_be_bytes w64 a.user_data_64
    ∷ to_be_bytes w32 a.user_data_32 ∷ to_be_bytes w32 a.ledger ∷ to_be_bytes w16 a.code
    ∷ to_be_bytes w16 a.flags.0 ∷ to_be_bytes w64 a.timestamp ∷ []

-- those of a transfer, whose kind is 2
abbrev pub transfer_columns : Transfer → List (List ℕ)
transfer_columns t =
    (2 ∷ []) ∷ column_of t.id ∷ column_of t.debit_account_id ∷ column_of t.credit_account_id
    ∷ column_of t.amount ∷ column_of t.pending_id ∷ column_of t.user_data_128
    ∷ to_be_bytes w64 t.user_data_64 ∷ to_be_bytes w32 t.user_data_32
    ∷ to_be_bytes w32 t.timeout ∷ to_be_bytes w32 t.ledger ∷ to_be_bytes w16 t.code
    ∷ to_be_bytes w16 t.flags.0 ∷ to_be_bytes w64 t.timestamp ∷ to_be_bytes w64 t.at ∷ []

-- a record's columns, one after the other
unfoldable pub text_of : Record → List ℕ
text_of (one.Account a) = concat (account_columns a)
text_of (one.Transfer t) = concat (transfer_columns t)

-- the seal of a new tenant
abbrev pub first_seal : List ℕ
first_seal = replicate 32 0

-- the seal after one record more
abbrev pub next_seal : List ℕ → Record → List ℕ
next_seal seal newest = sha256 (seal ++ text_of newest)

-- the seal of these records, the oldest first, behind those of an earlier seal
unfoldable pub seal_from : List ℕ → List Record → List ℕ
seal_from seal [] = seal
seal_from seal (oldest ∷ later) = seal_from (next_seal seal oldest) later

-- two texts with one digest
pub record Collision : Type 0 where
  pub one : List ℕ
  pub other : List ℕ
  pub differ : one ≢ other
  pub same : sha256 one ≡ sha256 other
