-- All rows of a statement.
use Rattle.std.proofs.Common.{◌≡◌, ◌∙◌, ℕ, ◌≤◌, true, List, map, filter, ap, arith}
use Rattle.std.proofs.lemmas.Bool.Decides.{nat_tests}
use Rattle.std.proofs.lemmas.List.Elements.{All-weaker}
use Rattle.std.proofs.lemmas.Simd.{map-map}
use Rattle.records.specs.Machine.{Machine}
use Rattle.records.specs.Queries.{is_within}
use Rattle.records.specs.Reads.{Entry, entries_of, is_entry_of, statement_of}
use Rattle.records.specs.Step.{max_clock}
use Rattle.records.specs.Valid.{IsValid}
use Rattle.chain.specs.AccountEntries.{account_entries, account_entry, entry_time, row_of}
use Rattle.chain.specs.Pages.{IsRecord}
use Rattle.chain.specs.Records.{entry_records}
use Rattle.chain.specs.declared.account_entry.AccountEntry.{AccountEntry}
use Rattle.chain.proofs.PageSpans.{keeps_all}
use Rattle.parts.specs.Parts.{rows_left, span_of, whole_rest}

in_all : (digest : List ℕ) (account time : ℕ) → time ≤ max_clock → is_within (span_of (whole_rest digest account)) time ≡ true
in_all digest account time fits = grind (arith, nat_tests)

pub whole_rows :
    (m : Machine) (digest : List ℕ) (account : ℕ) → IsValid m →
    rows_left m (whole_rest digest account) ≡ statement_of m account
whole_rows m digest account valid =
    let entries = account_entries m account in
    let within = λ (entry : AccountEntry). is_within (span_of (whole_rest digest account)) (entry_time entry) in
    let all = All-weaker (IsRecord entry_time (λ e. Unit {0})) (λ (entry : AccountEntry). within entry ≡ true)
    (λ entry is. in_all digest account (entry_time entry) is.bounded) entries (entry_records m valid account).each in
    ap (map (row_of account)) (keeps_all entry_time within entries all)
    ∙ map-map (row_of account) (account_entry account) (filter (λ (entry : Entry). is_entry_of account entry.transfer) (entries_of m))
