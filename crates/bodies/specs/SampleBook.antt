-- The book that the program answers from when it is given no command.
use Rattle.std.specs.Prelude.{ℕ, [], ◌∷◌}
use Rattle.records.specs.declared.account.Account.{Account}
use Rattle.records.specs.declared.account.AccountEvent.{AccountEvent}
use Rattle.records.specs.Machine.{Machine}

-- the request to open an account of ledger 7 and code 10 with no flags
abbrev pub account_event : ℕ → AccountEvent
account_event id = record {
  id = id;
  debits_pending = 0;
  debits_posted = 0;
  credits_pending = 0;
  credits_posted = 0;
  user_data_128 = 0;
  user_data_64 = 0;
  user_data_32 = 0;
  ledger = 7;
  code = 10;
  flags = record { 0 = 0 };
  timestamp = 0;
}

-- that account
abbrev pub account : ℕ → ℕ → Account
account id timestamp = record {
  id = id;
  user_data_128 = 0;
  user_data_64 = 0;
  user_data_32 = 0;
  ledger = 7;
  code = 10;
  flags = record { 0 = 0 };
  timestamp = timestamp;
}

-- a tenant with accounts 1 and 2 and no transfers
abbrev pub opened : Machine
opened = record {
  accounts = account 1 1 ∷ account 2 2 ∷ [];
  transfers = [];
  clock = 2;
  failed = [];
}
