-- No two history rows have one account and one timestamp.
use Rattle.std.proofs.Common.{◌≡◌, ◌<◌, ◌+◌, ◌*◌, ◌/◌, ◌%◌, ◌^◌, ℕ, Bool, true, false, ◌&&◌, eqb, cond, inl, inr, refl, sym, ap, ◌∙◌, arith}
use Rattle.std.specs.List.{filter}
use Rattle.std.proofs.lemmas.Bool.{cases_Bool, both_ways, and_from, eqb-true, eq-eqb, ne_eqb}
use Rattle.std.proofs.lemmas.List.Elements.{All-weaker}
use Rattle.records.specs.Machine.{Machine}
use Rattle.records.specs.declared.transfer.Transfer.{Transfer}
use Rattle.records.specs.Valid.{IsValid}
use Rattle.engine.proofs.ValidMachineLemmas.{IsEntrySound, sound}
use Rattle.rows.specs.declared.history_row.HistoryRow.{HistoryRow}
use Rattle.rows.specs.Prescribed.{history_rows}
use Rattle.rows.specs.Tables.{HasDistinctKeys, history_key}
use Rattle.rows.specs.Widths.{IsStorableHistory}
use Rattle.rows.proofs.Counts.{count_filter}
use Rattle.rows.proofs.Settled.{sum_same_in}
use Rattle.rows.proofs.AnyOrder.{distinct_ascending}
use Rattle.rows.proofs.Permuted.{distinct_keys}
use Rattle.rows.proofs.Histories.{account_history_ascends}
use Rattle.rows.proofs.Fits.{history_rows_fit}

-- a key by its two parts
same_parts : (account timestamp key : ℕ) → timestamp < 2 ^ 64 → account * 2 ^ 64 + timestamp ≡ key → (account ≡ key / 2 ^ 64) × (timestamp ≡ key % 2 ^ 64)
same_parts account timestamp key fits is = (omega arith, omega arith)

same_key : (account timestamp key : ℕ) → account ≡ key / 2 ^ 64 → timestamp ≡ key % 2 ^ 64 → account * 2 ^ 64 + timestamp ≡ key
same_key account timestamp key a t = omega arith

and_parts : (a b : Bool) → (a && b) ≡ true → (a ≡ true) × (b ≡ true)
and_parts true b h = (refl, h)
and_parts false b h = absurd (both_ways false refl h)

by_parts : (account timestamp key : ℕ) → timestamp < 2 ^ 64 → eqb (account * 2 ^ 64 + timestamp) key ≡ (eqb account (key / 2 ^ 64) && eqb timestamp (key % 2 ^ 64))
by_parts account timestamp key fits = elim (cases_Bool (eqb account (key / 2 ^ 64) && eqb timestamp (key % 2 ^ 64))) [
  | inl both ↦
      let parts = and_parts (eqb account (key / 2 ^ 64)) (eqb timestamp (key % 2 ^ 64)) both in
      eq-eqb (account * 2 ^ 64 + timestamp) key (same_key account timestamp key (eqb-true account (key / 2 ^ 64) parts.0) (eqb-true timestamp (key % 2 ^ 64) parts.1)) ∙ sym both
  | inr not ↦
      ne_eqb (account * 2 ^ 64 + timestamp) key (λ is.
      let parts = same_parts account timestamp key fits is in
      both_ways _ not (and_from (eqb account (key / 2 ^ 64)) (eqb timestamp (key % 2 ^ 64)) (eq-eqb account (key / 2 ^ 64) parts.0) (eq-eqb timestamp (key % 2 ^ 64) parts.1)))
      ∙ sym not
]

-- the rows with a key are the rows of its account with its timestamp
pub history_distinct : (m : Machine) → IsValid m → HasDistinctKeys history_key (history_rows m)
history_distinct m valid key =
    let rows = history_rows m in
    let account = key / 2 ^ 64 in
    let timestamp = key % 2 ^ 64 in
    let count = λ (p : HistoryRow → Bool) (row : HistoryRow). cond {A = ℕ} (p row) 1 0 in
    let by_key = λ (row : HistoryRow). eqb (history_key row) key in
    let by_both = λ (row : HistoryRow). eqb row.account account && eqb row.timestamp timestamp in
    let same = sum_same_in (count by_key) (count by_both) rows (All-weaker IsStorableHistory (λ row. count by_key row ≡ count by_both row) (λ row h. ap (λ (b : Bool). cond {A = ℕ} b 1 0) (by_parts row.account row.timestamp key (omega (arith, h.timestamp)))) rows (history_rows_fit m valid)) in
    let own = account_history_ascends m account valid (All-weaker (IsEntrySound m.accounts m.transfers) (λ (t : Transfer). eqb t.debit_account_id t.credit_account_id ≡ false) (λ t h. h.differ) m.transfers (sound m valid).entries) in
    let once = distinct_keys (λ (row : HistoryRow). row.timestamp) (filter (λ (row : HistoryRow). eqb row.account account) rows) (distinct_ascending (λ (row : HistoryRow). row.timestamp) _ own) timestamp in
    omega (arith, same, count_filter (λ (row : HistoryRow). eqb row.account account) (λ row. eqb row.timestamp timestamp) rows, once)
