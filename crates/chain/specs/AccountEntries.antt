-- An account's entries, each with the account's balances after it.
use Rattle.std.specs.Prelude.{ℕ, ◌^◌, ◌-◌, nat_lt, if◌then◌else◌, Option, Some, None, List, length, map}
use Rattle.std.specs.Prelude.{filter}
use Rattle.records.specs.declared.balances.BalanceAt.{BalanceAt}
use Rattle.records.specs.declared.filter.AccountFilter.{AccountFilter}
use Rattle.records.specs.declared.filter.Order.{Order}
use Rattle.records.specs.declared.query.PageFilter.{PageFilter}
use Rattle.records.specs.declared.query.Span.{Span}
use Rattle.records.specs.declared.statement_row.StatementRow.{StatementRow}
use Rattle.records.specs.Flags.{has_bit}
use Rattle.records.specs.Machine.{Machine}
use Rattle.records.specs.Queries.{within}
use Rattle.records.specs.Reads.{Entry, entries_of, balance_after, is_entry_of, asks_side}
use Rattle.records.specs.Reads.{side_of, kind_of}
use Rattle.chain.specs.declared.account_entry.AccountEntry.{AccountEntry}
use Rattle.chain.specs.Pages.{behind_last, span_behind}

-- an entry with the account's balances after it
abbrev pub account_entry : ℕ → Entry → AccountEntry
account_entry account entry =
    record { transfer = entry.transfer; balances = balance_after account entry }

-- when an entry was accepted
abbrev pub entry_time : AccountEntry → ℕ
entry_time entry = entry.transfer.timestamp

-- the account's entries, oldest first
abbrev pub account_entries : Machine → ℕ → List AccountEntry
account_entries m account =
    map (account_entry account)
    (filter (λ entry. is_entry_of account entry.transfer) (entries_of m))

-- those in a span of time
abbrev pub account_entries_within : Machine → ℕ → Span → List AccountEntry
account_entries_within m account span = within entry_time span (account_entries m account)

-- the balances after an entry
abbrev pub balance_of : AccountEntry → BalanceAt
balance_of entry = record { timestamp = entry_time entry; balances = entry.balances }

-- the line of an account's statement
abbrev pub row_of : ℕ → AccountEntry → StatementRow
row_of account entry = record {
  timestamp = entry_time entry;
  transfer_id = entry.transfer.id;
  side = side_of account entry.transfer;
  kind = kind_of entry.transfer.flags;
  amount = entry.transfer.amount;
  balances = entry.balances;
}

-- an entry, if a filter asks for it by its side
abbrev pub asked_entry : AccountFilter → AccountEntry → Option AccountEntry
asked_entry asked entry = if asks_side asked entry.transfer then Some entry else None

-- the page that a filter asks for
abbrev pub page_asked : AccountFilter → PageFilter
page_asked asked = record {
  timestamp_min = asked.timestamp_min;
  timestamp_max = asked.timestamp_max;
  limit = asked.limit;
  flags = record { 0 = if has_bit asked.flags.0 2 then 1 else 0 };
}

-- the span of a statement's first piece
abbrev pub first_piece : Order → Span
first_piece order = record { first = 0; last = 2 ^ 64 - 1; order = order; most = 500 }

-- the span of the piece behind one with these entries, if more may lie behind it
abbrev pub piece_behind : Span → List AccountEntry → Option Span
piece_behind span entries =
    if nat_lt (length entries) span.most then None
    else Some (span_behind span (behind_last entry_time span.order 0 entries))
