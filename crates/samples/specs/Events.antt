-- Accounts and transfers in the fewest words: what a word does not name is 0.
use Rattle.std.specs.Prelude.{ℕ}
use Rattle.records.specs.declared.account.Account.{Account}
use Rattle.records.specs.declared.account.AccountEvent.{AccountEvent}
use Rattle.records.specs.declared.transfer.Transfer.{Transfer}
use Rattle.records.specs.declared.transfer.TransferEvent.{TransferEvent}
use Rattle.records.specs.declared.balances.Balances.{Balances}
use Rattle.records.specs.StoredRecord.{stored_account}

-- an account of ledger 7 and code 10 with these flags
abbrev pub account : ℕ → ℕ → AccountEvent
account id flags = record {
  id = id;
  debits_pending = 0;
  debits_posted = 0;
  credits_pending = 0;
  credits_posted = 0;
  user_data_128 = 0;
  user_data_64 = 0;
  user_data_32 = 0;
  ledger = 7;
  code = 10;
  flags = record { 0 = flags };
  timestamp = 0;
}

-- that account, opened at this timestamp
abbrev pub opened_account : ℕ → ℕ → ℕ → Account
opened_account id flags timestamp = stored_account (account id flags) timestamp

-- a transfer of ledger 7 and code 1 from a debit account to a credit account
abbrev pub transfer : ℕ → ℕ → ℕ → ℕ → TransferEvent
transfer id debit credit amount = record {
  id = id;
  debit_account_id = debit;
  credit_account_id = credit;
  amount = amount;
  pending_id = 0;
  user_data_128 = 0;
  user_data_64 = 0;
  user_data_32 = 0;
  timeout = 0;
  ledger = 7;
  code = 1;
  flags = record { 0 = 0 };
  timestamp = 0;
}

-- an event with these flags in place of its own
abbrev pub with : ℕ → TransferEvent → TransferEvent
with flags event = record event { flags = record { 0 = flags } }

-- a post of a pending transfer
abbrev pub post : ℕ → ℕ → ℕ → TransferEvent
post id pending amount =
    with 4 (record (transfer id 0 0 amount) { pending_id = pending; ledger = 0; code = 0 })

-- a void of a pending transfer
abbrev pub void : ℕ → ℕ → ℕ → TransferEvent
void id pending amount = with 8 (post id pending amount)

-- a transfer with these flags from account 1 to account 2, as it is stored
abbrev pub accepted_transfer : ℕ → ℕ → ℕ → ℕ → ℕ → ℕ → Transfer
accepted_transfer id pending amount flags timestamp at = record {
  id = id;
  debit_account_id = 1;
  credit_account_id = 2;
  amount = amount;
  pending_id = pending;
  user_data_128 = 0;
  user_data_64 = 0;
  user_data_32 = 0;
  timeout = 0;
  ledger = 7;
  code = 1;
  flags = record { 0 = flags };
  timestamp = timestamp;
  at = at;
}

-- balances of these sums: of debits pending and posted, and of credits
abbrev pub balances : ℕ → ℕ → ℕ → ℕ → Balances
balances debits_pending debits_posted credits_pending credits_posted = record {
  debits = record { pending = debits_pending; posted = debits_posted };
  credits = record { pending = credits_pending; posted = credits_posted };
}
