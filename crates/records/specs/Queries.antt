-- What a tenant can ask for without naming an account: pages of its records by what they are
-- marked with, and what has become of its holds.
use Rattle.std.specs.Prelude.{ℕ, ◌+◌, ◌-◌, ◌^◌, Bool, ◌&&◌, ◌||◌, ◌==◌, nat_le, if◌then◌else◌}
use Rattle.std.specs.Prelude.{Option, Some, None, is_some, List, length, filter, take}
use Rattle.std.specs.Option.{option_map, option_and_then}
use Rattle.std.specs.List.{filter_map, last_or}
use Rattle.records.specs.declared.account.Account.{Account}
use Rattle.records.specs.declared.transfer.Transfer.{Transfer}
use Rattle.records.specs.declared.facts.AccountWithBalances.{AccountWithBalances}
use Rattle.records.specs.declared.facts.PendingState.{PendingState}
use Rattle.records.specs.declared.filter.Order.{Order}
use Rattle.records.specs.declared.filter.Order.TheVariants.{Oldest, Newest}
use Rattle.records.specs.declared.query.PageFilter.{PageFilter}
use Rattle.records.specs.declared.query.QueryFilter.{QueryFilter}
use Rattle.records.specs.declared.query.Span.{Span}
use Rattle.records.specs.declared.query.Tags.{Tags}
use Rattle.records.specs.declared.hold.Hold.{Hold}
use Rattle.records.specs.Due.{due_of}
use Rattle.records.specs.Facts.{with_balances, state_in}
use Rattle.records.specs.Fate.{is_open}
use Rattle.records.specs.Flags.{has_bit}
use Rattle.records.specs.Machine.{Machine, transfer_with}
use Rattle.records.specs.Reads.{in_order}

-- whether a time is in a span; both ends are inclusive
abbrev pub is_within : Span → ℕ → Bool
is_within span time = nat_le span.first time && nat_le time span.last

-- the records in a span of time, in its order, at most so many
abbrev pub within : {A : Type 0} → (A → ℕ) → Span → List A → List A
within time span records =
    take span.most (in_order span.order (filter (λ it. is_within span (time it)) records))

-- the accounts in a span of time
abbrev pub accounts_within : Machine → Span → List Account
accounts_within m span = within (λ account. account.timestamp) span m.accounts

-- the transfers in a span of time
abbrev pub transfers_within : Machine → Span → List Transfer
transfers_within m span = within (λ transfer. transfer.timestamp) span m.transfers

-- the order of a page: bit 0 turns it
abbrev pub page_order : PageFilter → Order
page_order asked = if has_bit asked.flags.0 0 then Newest else Oldest

-- the greatest time that is asked for: 0 is no bound
abbrev pub last_time : ℕ → ℕ
last_time bound = if bound == 0 then 2 ^ 64 - 1 else bound

-- the most records that a page looks at, those that it shows among them
abbrev pub most_looked_at : ℕ
most_looked_at = 2000

-- the span in which a page looks
abbrev pub page_span : PageFilter → Span
page_span asked = record {
  first = asked.timestamp_min;
  last = last_time asked.timestamp_max;
  order = page_order asked;
  most = most_looked_at;
}

-- what a page shows, and the time with which to ask for the next one, or 0 where there is none
pub record Page (A : Type 0) : Type 0 where
  pub entries : List A
  pub next : ℕ

-- the time directly behind another one, in this order
abbrev pub time_behind : Order → ℕ → ℕ
time_behind Oldest time = time + 1
time_behind Newest time = time - 1

-- the time behind a record, or 0 behind none
abbrev pub time_behind_record : {A : Type 0} → (A → ℕ) → Order → Option A → ℕ
time_behind_record time order None = 0
time_behind_record time order (Some it) = time_behind order (time it)

-- the records that a page shows, of those that it looks at: the first that there is something to
-- show of, up to its limit
abbrev pub chosen : {A B : Type 0} → (A → Option B) → PageFilter → List A → List A
chosen shown asked looked = take asked.limit (filter (λ it. is_some (shown it)) looked)

-- where a page ended: at the last record that it shows, where the limit ended it; at the last that
-- it looked at, where it may look at no more; else at the end of all records
abbrev pub next_behind : {A : Type 0} → (A → ℕ) → PageFilter → List A → List A → ℕ
next_behind time asked chosen looked =
    if length chosen == asked.limit
    then time_behind_record time (page_order asked) (last_or None chosen)
    else if length looked == most_looked_at
    then time_behind_record time (page_order asked) (last_or None looked)
    else 0

-- the page of what it looks at
abbrev pub page_over :
    {A B : Type 0} → (A → ℕ) → (A → Option B) → PageFilter → List A → Page B
page_over time shown asked looked = record {
  entries = filter_map shown (chosen shown asked looked);
  next = next_behind time asked (chosen shown asked looked) looked;
}

-- the page of some records, oldest first, that a filter asks for
abbrev pub page_in : {A B : Type 0} → (A → ℕ) → (A → Option B) → PageFilter → List A → Page B
page_in time shown asked records =
    page_over time shown asked (within time (page_span asked) records)

-- what an account can be asked for by
abbrev pub account_tags : Account → Tags
account_tags account = record {
  user_data_128 = account.user_data_128;
  user_data_64 = account.user_data_64;
  user_data_32 = account.user_data_32;
  ledger = account.ledger;
  code = account.code;
}

-- what a transfer can be asked for by
abbrev pub transfer_tags : Transfer → Tags
transfer_tags transfer = record {
  user_data_128 = transfer.user_data_128;
  user_data_64 = transfer.user_data_64;
  user_data_32 = transfer.user_data_32;
  ledger = transfer.ledger;
  code = transfer.code;
}

-- whether a value is asked for; 0 asks for any
abbrev pub asks_value : ℕ → ℕ → Bool
asks_value asked value = (asked == 0) || (asked == value)

-- whether a record with these tags is asked for: each of them has to be
abbrev pub asks_tags : Tags → Tags → Bool
asks_tags asked tags =
    asks_value asked.user_data_128 tags.user_data_128
    && (asks_value asked.user_data_64 tags.user_data_64
    && (asks_value asked.user_data_32 tags.user_data_32
    && (asks_value asked.ledger tags.ledger && asks_value asked.code tags.code)))

-- an account with its balances, if it is asked for
abbrev pub asked_account : Machine → Tags → Account → Option AccountWithBalances
asked_account m asked account =
    if asks_tags asked (account_tags account) then Some (with_balances m account) else None

-- a transfer, if it is asked for
abbrev pub asked_transfer : Tags → Transfer → Option Transfer
asked_transfer asked transfer =
    if asks_tags asked (transfer_tags transfer) then Some transfer else None

-- the accounts that a query asks for
abbrev pub queried_accounts : Machine → QueryFilter → Page AccountWithBalances
queried_accounts m asked =
    page_in (λ account. account.timestamp) (asked_account m asked.tags) asked.page m.accounts

-- the transfers that a query asks for
abbrev pub queried_transfers : Machine → QueryFilter → Page Transfer
queried_transfers m asked =
    page_in (λ transfer. transfer.timestamp) (asked_transfer asked.tags) asked.page m.transfers

-- a due time as it is shown: 0 is never
abbrev pub shown_due : Option ℕ → ℕ
shown_due None = 0
shown_due (Some due) = due

-- a pending transfer with its state
abbrev pub hold_with : Transfer → PendingState → Hold
hold_with transfer state = record {
  id = transfer.id;
  timestamp = transfer.timestamp;
  due = shown_due (due_of transfer);
  state = state;
}

-- what has become of a transfer, if it is a pending one
abbrev pub hold_of : Machine → Transfer → Option Hold
hold_of m transfer = option_map (hold_with transfer) (state_in m transfer)

-- what has become of the transfer with this id, if it is a pending one
abbrev pub hold_in : Machine → ℕ → Option Hold
hold_in m id = option_and_then (hold_of m) (transfer_with id m.transfers)

-- the holds with these ids, in the order asked; an id asked twice is answered twice
abbrev pub found_holds : Machine → List ℕ → List Hold
found_holds m ids = filter_map (hold_in m) ids

-- a hold, if it is open
abbrev pub if_open : Hold → Option Hold
if_open hold = if is_open hold.state then Some hold else None

-- the holds of a machine that are open at its clock
abbrev pub open_holds : Machine → PageFilter → Page Hold
open_holds m asked =
    page_in (λ transfer. transfer.timestamp) (λ it. option_and_then if_open (hold_of m it)) asked
    m.transfers
