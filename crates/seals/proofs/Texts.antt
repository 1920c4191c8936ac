-- No two records share a text.
use Rattle.std.proofs.Common.{◌≡◌, ◌≢◌, ℕ, ◌<◌, ◌^◌, List, [], ◌∷◌, take, drop, get_or, nat_eq, sym, ap, ◌∙◌, w16, w32, w64}
use Rattle.std.specs.Int.{to_be_bytes, from_be_bytes}
use Rattle.std.proofs.lemmas.Nat.{from_be_bytes-to_be_bytes_2, from_be_bytes-to_be_bytes_4, from_be_bytes-to_be_bytes_8}
use Rattle.std.proofs.lemmas.Bool.{true≢false}
use Rattle.amount.specs.Column.{column_of, IsOneToOne}
use Rattle.records.specs.declared.account.Account.{Account}
use Rattle.records.specs.declared.transfer.Transfer.{Transfer}
use Rattle.records.specs.Widths.{IsAccountInWidth, IsTransferInWidth}
use Rattle.seals.specs.declared.record.Record.{Record}
use Rattle.seals.specs.declared.record.Record.TheVariants as one
use Rattle.seals.specs.Seals.{text_of}

same16 : (a b : ℕ) → a < 2 ^ 16 → b < 2 ^ 16 → to_be_bytes w16 a ≡ to_be_bytes w16 b → a ≡ b
same16 a b p q e = sym (from_be_bytes-to_be_bytes_2 a p) ∙ ap (from_be_bytes w16) e ∙ from_be_bytes-to_be_bytes_2 b q

same32 : (a b : ℕ) → a < 2 ^ 32 → b < 2 ^ 32 → to_be_bytes w32 a ≡ to_be_bytes w32 b → a ≡ b
same32 a b p q e = sym (from_be_bytes-to_be_bytes_4 a p) ∙ ap (from_be_bytes w32) e ∙ from_be_bytes-to_be_bytes_4 b q

same64 : (a b : ℕ) → a < 2 ^ 64 → b < 2 ^ 64 → to_be_bytes w64 a ≡ to_be_bytes w64 b → a ≡ b
same64 a b p q e = sym (from_be_bytes-to_be_bytes_8 a p) ∙ ap (from_be_bytes w64) e ∙ from_be_bytes-to_be_bytes_8 b q

-- some bytes of a text
abbrev piece : ℕ → ℕ → List ℕ → List ℕ
piece from many text = take many (drop from text)

account_text : IsOneToOne → (a b : Account) → IsAccountInWidth a → IsAccountInWidth b → text_of (one.Account a) ≡ text_of (one.Account b) → a ≡ b
unfolding text_of column_of
account_text unlike a b v w e =
    let id = unlike a.id b.id v.id w.id (ap (piece 1 16) e) in
    let u128 = unlike a.user_data_128 b.user_data_128 v.user_data_128 w.user_data_128 (ap (piece 17 16) e) in
    let u64 = same64 a.user_data_64 b.user_data_64 v.user_data_64 w.user_data_64 (ap (piece 33 8) e) in
    let u32 = same32 a.user_data_32 b.user_data_32 v.user_data_32 w.user_data_32 (ap (piece 41 4) e) in
    let ledger = same32 a.ledger b.ledger v.ledger w.ledger (ap (piece 45 4) e) in
    let code = same16 a.code b.code v.code w.code (ap (piece 49 2) e) in
    let flags = same16 a.flags.0 b.flags.0 v.flags w.flags (ap (piece 51 2) e) in
    let time = same64 a.timestamp b.timestamp v.timestamp w.timestamp (ap (piece 53 8) e) in
    λ i. record {
      id = id i;
      user_data_128 = u128 i;
      user_data_64 = u64 i;
      user_data_32 = u32 i;
      ledger = ledger i;
      code = code i;
      flags = record { 0 = flags i };
      timestamp = time i;
    }

transfer_text : IsOneToOne → (a b : Transfer) → IsTransferInWidth a → IsTransferInWidth b → text_of (one.Transfer a) ≡ text_of (one.Transfer b) → a ≡ b
unfolding text_of column_of
transfer_text unlike a b v w e =
    let id = unlike a.id b.id v.id w.id (ap (piece 1 16) e) in
    let debit = unlike a.debit_account_id b.debit_account_id v.debit_account_id w.debit_account_id (ap (piece 17 16) e) in
    let credit = unlike a.credit_account_id b.credit_account_id v.credit_account_id w.credit_account_id (ap (piece 33 16) e) in
    let amount = unlike a.amount b.amount v.amount w.amount (ap (piece 49 16) e) in
    let pending = unlike a.pending_id b.pending_id v.pending_id w.pending_id (ap (piece 65 16) e) in
    let u128 = unlike a.user_data_128 b.user_data_128 v.user_data_128 w.user_data_128 (ap (piece 81 16) e) in
    let u64 = same64 a.user_data_64 b.user_data_64 v.user_data_64 w.user_data_64 (ap (piece 97 8) e) in
    let u32 = same32 a.user_data_32 b.user_data_32 v.user_data_32 w.user_data_32 (ap (piece 105 4) e) in
    let timeout = same32 a.timeout b.timeout v.timeout w.timeout (ap (piece 109 4) e) in
    let ledger = same32 a.ledger b.ledger v.ledger w.ledger (ap (piece 113 4) e) in
    let code = same16 a.code b.code v.code w.code (ap (piece 117 2) e) in
    let flags = same16 a.flags.0 b.flags.0 v.flags w.flags (ap (piece 119 2) e) in
    let time = same64 a.timestamp b.timestamp v.timestamp w.timestamp (ap (piece 121 8) e) in
    let at = same64 a.at b.at v.at w.at (ap (piece 129 8) e) in
    λ i. record {
      id = id i;
      debit_account_id = debit i;
      credit_account_id = credit i;
      amount = amount i;
      pending_id = pending i;
      user_data_128 = u128 i;
      user_data_64 = u64 i;
      user_data_32 = u32 i;
      timeout = timeout i;
      ledger = ledger i;
      code = code i;
      flags = record { 0 = flags i };
      timestamp = time i;
      at = at i;
    }

other_kind : (a : Account) (t : Transfer) → text_of (one.Account a) ≢ text_of (one.Transfer t)
unfolding text_of column_of
other_kind a t e = true≢false (ap (λ text. nat_eq (get_or text 0 0) 1) e)

-- each field of a record is within its width
abbrev pub IsInWidth : Record → Type 0
IsInWidth (one.Account a) = IsAccountInWidth a
IsInWidth (one.Transfer t) = IsTransferInWidth t

pub same_record : IsOneToOne → (r s : Record) → IsInWidth r → IsInWidth s → text_of r ≡ text_of s → r ≡ s
same_record unlike (one.Account a) (one.Account b) v w e = ap one.Account (account_text unlike a b v w e)
same_record unlike (one.Transfer a) (one.Transfer b) v w e = ap one.Transfer (transfer_text unlike a b v w e)
same_record unlike (one.Account a) (one.Transfer t) v w e = absurd (other_kind a t e)
same_record unlike (one.Transfer t) (one.Account a) v w e = absurd (other_kind a t (sym e))
