use Rattle.std.proofs.Common.{◌≡◌, ◌++◌, [], map, filter}
use Rattle.records.specs.Reads.{entries_after, is_entry_of}
use Rattle.chain.specs.AccountEntries.{account_entry}
use Rattle.plain.proofs.EntryRows.{rows_from}
use Rattle.plain.proofs.entries.account_rows.Given as goal

-- The rows so far and those of the entries that are left are all rows.
abbrev pub invariant-loop-place : goal.invariant-loop-place
invariant-loop-place l =
    l.rows.items
    ++ rows_from (account_entry l.account) (λ entry. is_entry_of l.account entry.transfer) l.place
    l.entries
    ≡ map (account_entry l.account)
    (filter (λ entry. is_entry_of l.account entry.transfer) (entries_after [] l.entries))
