-- The JSON of replies. Keys stand in byte order.
use Rattle.std.specs.Prelude.{ℕ, nat_lt, List, [], ◌∷◌, ◌++◌, codes, length, map}
use Rattle.std.specs.Prelude.{Option, None, Some, if◌then◌else◌}
use Rattle.std.specs.Option.{option_map_or}
use Rattle.serde_json.specs.Data.{Data, number, unsigned, string, boolean, array, object, Members}
use Rattle.serde_json.specs.Data.{member, no_members}
use Rattle.serde_json.specs.View.{items_of}
use Rattle.amount.specs.Decimal.{decimal_of}
use Rattle.records.specs.declared.account_result.AccountResult.{AccountResult}
use Rattle.records.specs.declared.balances.BalanceAt.{BalanceAt}
use Rattle.records.specs.declared.facts.AccountWithBalances.{AccountWithBalances}
use Rattle.records.specs.declared.facts.PendingState.{PendingState}
use Rattle.records.specs.declared.facts.PendingState.TheVariants.{Open, Posted, Voided, Expired}
use Rattle.records.specs.declared.hold.Hold.{Hold}
use Rattle.records.specs.declared.reply.EventResult.{EventResult}
use Rattle.records.specs.declared.transfer.Transfer.{Transfer}
use Rattle.records.specs.declared.transfer_result.TransferResult.{TransferResult}
use Rattle.wire.specs.declared.body_fault.BodyFault.{BodyFault}
use Rattle.wire.specs.declared.members.Member.{Member}
use Rattle.wire.specs.declared.members.Told.{Told}
use Rattle.wire.specs.declared.members.Told.TheVariants.{Whole, U64, U128, Text, Flag}
use Rattle.wire.specs.declared.outcome.Entries.{Entries}
use Rattle.wire.specs.declared.outcome.Entries.TheVariants.{Accounts, Transfers, OpenHolds}
use Rattle.wire.specs.Wants.{want_text}
use Rattle.records.specs.AccountResultNames as account
use Rattle.records.specs.TransferResultNames as transfer

-- a number of 64 or 128 bits is a string of its decimal
abbrev pub wide_data : ℕ → Data
wide_data n = string (decimal_of n)

-- a smaller number is a JSON number
abbrev pub whole_data : ℕ → Data
whole_data n = number (unsigned n)

-- what a member tells
abbrev pub told_data : Told → Data
told_data (Whole n) = whole_data n
told_data (U64 n) = wide_data n
told_data (U128 n) = wide_data n
told_data (Text text) = string text.now
told_data (Flag flag) = boolean flag

-- a member by its name
abbrev pub member_of : Member → List ℕ × Data
member_of m = (m.name.now, told_data m.value)

-- a list of what each value shows
abbrev pub list_data : {A : Type 0} → (A → Data) → List A → Data
list_data shows values = array (items_of (map shows values))

-- members in this order
abbrev pub members_with : List (List ℕ × Data) → Members
members_with [] = no_members
members_with (m ∷ ms) = member m.0 m.1 (members_with ms)

-- the object that has them
abbrev pub object_with : List (List ℕ × Data) → Data
object_with ms = object (members_with ms)

-- the result of one event, by its number and its name
abbrev pub result_members : {R : Type 0} → (R → ℕ) → (R → List ℕ) → EventResult R
    → List (List ℕ × Data)
result_members number_of name_of event =
    (codes "number", whole_data (number_of event.result))
    ∷ (codes "result", string (name_of event.result))
    ∷ (codes "timestamp", wide_data event.timestamp)
    ∷ []

abbrev pub result_data : {R : Type 0} → (R → ℕ) → (R → List ℕ) → EventResult R → Data
result_data number_of name_of event = object_with (result_members number_of name_of event)

-- the result of an account event
abbrev pub account_result_data : EventResult AccountResult → Data
account_result_data event = result_data account.number_of account.name_of event

-- the result of a transfer event
abbrev pub transfer_result_data : EventResult TransferResult → Data
transfer_result_data event = result_data transfer.number_of transfer.name_of event

-- an account with its balances
abbrev pub account_members : AccountWithBalances → List (List ℕ × Data)
account_members found =
    (codes "code", whole_data found.account.code)
    ∷ (codes "credits_pending", wide_data found.balances.credits.pending)
    ∷ (codes "credits_posted", wide_data found.balances.credits.posted)
    ∷ (codes "debits_pending", wide_data found.balances.debits.pending)
    ∷ (codes "debits_posted", wide_data found.balances.debits.posted)
    ∷ (codes "flags", whole_data found.account.flags.0)
    ∷ (codes "id", wide_data found.account.id)
    ∷ (codes "ledger", whole_data found.account.ledger)
    ∷ (codes "timestamp", wide_data found.account.timestamp)
    ∷ (codes "user_data_128", wide_data found.account.user_data_128)
    ∷ (codes "user_data_32", whole_data found.account.user_data_32)
    ∷ (codes "user_data_64", wide_data found.account.user_data_64)
    ∷ []

abbrev pub account_data : AccountWithBalances → Data
account_data found = object_with (account_members found)

-- a transfer; the clock of its batch is never shown
abbrev pub transfer_members : Transfer → List (List ℕ × Data)
transfer_members entry =
    (codes "amount", wide_data entry.amount)
    ∷ (codes "code", whole_data entry.code)
    ∷ (codes "credit_account_id", wide_data entry.credit_account_id)
    ∷ (codes "debit_account_id", wide_data entry.debit_account_id)
    ∷ (codes "flags", whole_data entry.flags.0)
    ∷ (codes "id", wide_data entry.id)
    ∷ (codes "ledger", whole_data entry.ledger)
    ∷ (codes "pending_id", wide_data entry.pending_id)
    ∷ (codes "timeout", whole_data entry.timeout)
    ∷ (codes "timestamp", wide_data entry.timestamp)
    ∷ (codes "user_data_128", wide_data entry.user_data_128)
    ∷ (codes "user_data_32", whole_data entry.user_data_32)
    ∷ (codes "user_data_64", wide_data entry.user_data_64)
    ∷ []

abbrev pub transfer_data : Transfer → Data
transfer_data entry = object_with (transfer_members entry)

-- the balances after an entry, with the entry's timestamp
abbrev pub balance_members : BalanceAt → List (List ℕ × Data)
balance_members row =
    (codes "credits_pending", wide_data row.balances.credits.pending)
    ∷ (codes "credits_posted", wide_data row.balances.credits.posted)
    ∷ (codes "debits_pending", wide_data row.balances.debits.pending)
    ∷ (codes "debits_posted", wide_data row.balances.debits.posted)
    ∷ (codes "timestamp", wide_data row.timestamp)
    ∷ []

abbrev pub balance_data : BalanceAt → Data
balance_data row = object_with (balance_members row)

-- the name of what has become of a pending transfer
abbrev pub state_name : PendingState → List ℕ
state_name Open = codes "open"
state_name Posted = codes "posted"
state_name Voided = codes "voided"
state_name Expired = codes "expired"

-- a hold
abbrev pub hold_data : Hold → Data
hold_data hold = object_with (
    (codes "due", wide_data hold.due)
    ∷ (codes "id", wide_data hold.id)
    ∷ (codes "state", string (state_name hold.state))
    ∷ [])

-- a hold with the time at which it was accepted
abbrev pub timed_hold_data : Hold → Data
timed_hold_data hold = object_with (
    (codes "due", wide_data hold.due)
    ∷ (codes "id", wide_data hold.id)
    ∷ (codes "state", string (state_name hold.state))
    ∷ (codes "timestamp", wide_data hold.timestamp)
    ∷ [])

-- a clock and a list under a name that comes after `clock`
abbrev pub clock_and_list : {A : Type 0} → (A → Data) → ℕ → List ℕ → List A → Data
clock_and_list shows clock name values =
    object_with ((codes "clock", wide_data clock) ∷ (name, list_data shows values) ∷ [])

-- the same under a name that comes before it
abbrev pub list_and_clock : {A : Type 0} → (A → Data) → ℕ → List ℕ → List A → Data
list_and_clock shows clock name values =
    object_with ((name, list_data shows values) ∷ (codes "clock", wide_data clock) ∷ [])

-- a clock, the time with which the next page is asked for, and a list under a name that comes after
-- `next`
abbrev pub next_and_list : {A : Type 0} → (A → Data) → ℕ → ℕ → List ℕ → List A → Data
next_and_list shows clock next name values =
    object_with (
    (codes "clock", wide_data clock)
    ∷ (codes "next", wide_data next)
    ∷ (name, list_data shows values)
    ∷ [])

-- the same under a name that comes before `clock`
abbrev pub list_and_next : {A : Type 0} → (A → Data) → ℕ → ℕ → List ℕ → List A → Data
list_and_next shows clock next name values =
    object_with (
    (name, list_data shows values)
    ∷ (codes "clock", wide_data clock)
    ∷ (codes "next", wide_data next)
    ∷ [])

-- the clock after a batch of accounts, and the results of its events in their order
abbrev pub account_batch_data : ℕ → List (EventResult AccountResult) → Data
account_batch_data clock results =
    clock_and_list account_result_data clock (codes "results") results

-- the same of a batch of transfers
abbrev pub transfer_batch_data : ℕ → List (EventResult TransferResult) → Data
transfer_batch_data clock results =
    clock_and_list transfer_result_data clock (codes "results") results

-- the accounts that a lookup finds
abbrev pub accounts_data : ℕ → List AccountWithBalances → Data
accounts_data clock accounts = list_and_clock account_data clock (codes "accounts") accounts

-- the transfers that a lookup or a history finds
abbrev pub transfers_data : ℕ → List Transfer → Data
transfers_data clock transfers = clock_and_list transfer_data clock (codes "transfers") transfers

-- the balances of a history
abbrev pub balances_data : ℕ → List BalanceAt → Data
balances_data clock balances = list_and_clock balance_data clock (codes "balances") balances

-- the holds that a lookup finds
abbrev pub holds_data : ℕ → List Hold → Data
holds_data clock holds = clock_and_list hold_data clock (codes "pending") holds

-- a page of what a query finds
abbrev pub page_data : ℕ → ℕ → Entries → Data
page_data clock next (Accounts accounts) =
    list_and_next account_data clock next (codes "accounts") accounts
page_data clock next (Transfers transfers) =
    next_and_list transfer_data clock next (codes "transfers") transfers
page_data clock next (OpenHolds holds) =
    next_and_list timed_hold_data clock next (codes "pending") holds

-- how many events a good body has
abbrev pub linted_data : ℕ → Data
linted_data events = object_with ((codes "events", whole_data events) ∷ [])

-- a refusal by its name
abbrev pub refusal_data : List ℕ → Data
refusal_data name = object_with ((codes "error", string name) ∷ [])

-- the event or id, counted from 1, if the fault has one
abbrev pub event_members : Option ℕ → List (List ℕ × Data)
event_members event = option_map_or (λ number. (codes "event", whole_data number) ∷ []) event []

-- the field, if the fault has one whose name has at most 64 bytes
abbrev pub field_members : Option (List ℕ) → List (List ℕ × Data)
field_members None = []
field_members (Some name) =
    if nat_lt 64 (length name) then [] else (codes "field", string name) ∷ []

-- a refusal of a body by its name, with where it is, and what is wanted there
abbrev pub fault_data : List ℕ → BodyFault → Data
fault_data name fault =
    object_with (
    (codes "error", string name)
    ∷ event_members fault.event
    ++ field_members fault.field
    ++ (codes "want", string (want_text fault.wanted)) ∷ [])
