-- The entries of a piece of a statement, as a body.
use Rattle.std.specs.Prelude.{◌≡◌, ◌^◌, ℕ, List, [], ◌∷◌, codes, decimal, Option, Some, option_map}
use Rattle.std.specs.Prelude.{option_and_then}
use Rattle.serde_json.specs.Data.{Data, string, Items, no_items, item}
use Rattle.serde_json.specs.Find.{as_array, get}
use Rattle.records.specs.declared.balances.Balances.{Balances}
use Rattle.records.specs.declared.balances.Sums.{Sums}
use Rattle.records.specs.declared.transfer.Transfer.{Transfer}
use Rattle.chain.specs.declared.account_entry.AccountEntry.{AccountEntry}
use Rattle.wire.specs.Body.{json_of}
use Rattle.wire.specs.Fields.{given}
use Rattle.wire.specs.Reply.{list_data, object_with}
use Rattle.control.specs.Numbers.{number_at}
use Rattle.control.specs.declared.entries.Entries.{Entries}

-- all that an entry has, each number as a text
abbrev pub entry_members : AccountEntry → List (List ℕ × Data)
entry_members entry =
    (codes "id", string (decimal entry.transfer.id))
    ∷ (codes "debit_account_id", string (decimal entry.transfer.debit_account_id))
    ∷ (codes "credit_account_id", string (decimal entry.transfer.credit_account_id))
    ∷ (codes "amount", string (decimal entry.transfer.amount))
    ∷ (codes "pending_id", string (decimal entry.transfer.pending_id))
    ∷ (codes "user_data_128", string (decimal entry.transfer.user_data_128))
    ∷ (codes "user_data_64", string (decimal entry.transfer.user_data_64))
    ∷ (codes "user_data_32", string (decimal entry.transfer.user_data_32))
    ∷ (codes "timeout", string (decimal entry.transfer.timeout))
    ∷ (codes "ledger", string (decimal entry.transfer.ledger))
    ∷ (codes "code", string (decimal entry.transfer.code))
    ∷ (codes "flags", string (decimal entry.transfer.flags.0))
    ∷ (codes "timestamp", string (decimal entry.transfer.timestamp))
    ∷ (codes "at", string (decimal entry.transfer.at))
    ∷ (codes "debits_pending", string (decimal entry.balances.debits.pending))
    ∷ (codes "debits_posted", string (decimal entry.balances.debits.posted))
    ∷ (codes "credits_pending", string (decimal entry.balances.credits.pending))
    ∷ (codes "credits_posted", string (decimal entry.balances.credits.posted))
    ∷ []

unfoldable pub entry_data : AccountEntry → Data
entry_data entry = object_with (entry_members entry)

-- the clock, and the entries in their order
abbrev pub entries_data : ℕ → List AccountEntry → Data
entries_data clock entries = object_with (
    (codes "clock", string (decimal clock))
    ∷ (codes "entries", list_data entry_data entries)
    ∷ [])

-- the transfer that these members tell, if each of them is good
unfoldable pub transfer_in : Data → Option Transfer
transfer_in d =
    given (number_at (2 ^ 128) (codes "id") d) (λ id.
    given (number_at (2 ^ 128) (codes "debit_account_id") d) (λ debit_account_id.
    given (number_at (2 ^ 128) (codes "credit_account_id") d) (λ credit_account_id.
    given (number_at (2 ^ 128) (codes "amount") d) (λ amount.
    given (number_at (2 ^ 128) (codes "pending_id") d) (λ pending_id.
    given (number_at (2 ^ 128) (codes "user_data_128") d) (λ user_data_128.
    given (number_at (2 ^ 64) (codes "user_data_64") d) (λ user_data_64.
    given (number_at (2 ^ 32) (codes "user_data_32") d) (λ user_data_32.
    given (number_at (2 ^ 32) (codes "timeout") d) (λ timeout.
    given (number_at (2 ^ 32) (codes "ledger") d) (λ ledger.
    given (number_at (2 ^ 16) (codes "code") d) (λ code.
    given (number_at (2 ^ 16) (codes "flags") d) (λ flags.
    given (number_at (2 ^ 64) (codes "timestamp") d) (λ timestamp.
    given (number_at (2 ^ 64) (codes "at") d) (λ at.
    Some (record {
      id = id;
      debit_account_id = debit_account_id;
      credit_account_id = credit_account_id;
      amount = amount;
      pending_id = pending_id;
      user_data_128 = user_data_128;
      user_data_64 = user_data_64;
      user_data_32 = user_data_32;
      timeout = timeout;
      ledger = ledger;
      code = code;
      flags = record { 0 = flags };
      timestamp = timestamp;
      at = at;
    })))))))))))))))

-- the sums that the members of these two names tell
unfoldable pub sums_in : List ℕ → List ℕ → Data → Option Sums
sums_in pending_name posted_name d =
    given (number_at (2 ^ 128) pending_name d) (λ pending.
    given (number_at (2 ^ 128) posted_name d) (λ posted.
    Some (record { pending = pending; posted = posted })))

-- the balances that an object tells
abbrev pub balances_in : Data → Option Balances
balances_in d =
    given (sums_in (codes "debits_pending") (codes "debits_posted") d) (λ debits.
    given (sums_in (codes "credits_pending") (codes "credits_posted") d) (λ credits.
    Some (record { debits = debits; credits = credits })))

-- the entry that an object tells
abbrev pub entry_in : Data → Option AccountEntry
entry_in d =
    given (transfer_in d) (λ transfer.
    given (balances_in d) (λ balances.
    Some (record { transfer = transfer; balances = balances })))

-- the entries that a list tells
abbrev pub entries_of : Items → Option (List AccountEntry)
entries_of no_items = Some []
entries_of (item d ds) =
    option_and_then (λ entry. option_map (λ more. entry ∷ more) (entries_of ds)) (entry_in d)

-- the entries of an object
abbrev pub listed_in : Data → Option (List AccountEntry)
listed_in d = option_and_then entries_of (option_and_then as_array (get (codes "entries") d))

-- a body tells these entries, and this clock
abbrev pub AreEntriesTold : List ℕ → Entries → Type 0
AreEntriesTold body told =
    (d : Data) × (json_of body ≡ Some d) × (number_at (2 ^ 64) (codes "clock") d ≡ Some told.clock)
    × (listed_in d ≡ Some told.entries.items)
