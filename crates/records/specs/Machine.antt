-- The plain machine: all that one tenant's ledger is.
use Rattle.std.specs.Prelude.{ℕ, ◌^◌, ◌-◌, Bool, nat_lt, ◌==◌}
use Rattle.std.specs.Prelude.{List, [], ◌∷◌, Option, if◌then◌else◌}
use Rattle.std.specs.List.{find, list_any}
use Rattle.records.specs.declared.account.Account.{Account}
use Rattle.records.specs.declared.transfer.Transfer.{Transfer}

-- the accounts and transfers that were accepted, each in order of timestamp, the clock, and the ids
-- of transfers that failed for good, ascending and each once, so that equal sets are equal lists
pub record Machine : Type 0 where
  pub accounts : List Account
  pub transfers : List Transfer
  pub clock : ℕ
  pub failed : List ℕ

-- a new tenant
abbrev pub new_machine : Machine
new_machine = record { accounts = []; transfers = []; clock = 0; failed = [] }

-- the greatest number of 128 bits
abbrev pub max_amount : ℕ
max_amount = 2 ^ 128 - 1

-- the account with this id
abbrev pub account_with : ℕ → List Account → Option Account
account_with id accounts = find (λ account. account.id == id) accounts

-- the transfer with this id
abbrev pub transfer_with : ℕ → List Transfer → Option Transfer
transfer_with id transfers = find (λ transfer. transfer.id == id) transfers

-- whether the id is one of these
abbrev pub has_id : ℕ → List ℕ → Bool
has_id id ids = list_any (λ other. other == id) ids

-- ascending ids with one more, each once
abbrev pub with_id : ℕ → List ℕ → List ℕ
with_id id [] = id ∷ []
with_id id (other ∷ ids) =
    if nat_lt id other then id ∷ other ∷ ids
    else if id == other then other ∷ ids
    else other ∷ with_id id ids

-- the machine with one more failed id
abbrev pub with_failed : Machine → ℕ → Machine
with_failed m id = record m { failed = with_id id m.failed }
