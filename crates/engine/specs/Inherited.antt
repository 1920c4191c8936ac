-- What a post or void takes from its pending transfer.
use Rattle.records.specs.declared.transfer.Transfer.{Transfer}
use Rattle.records.specs.StoredRecord.{given_or}

-- a record, with the pending transfer's accounts, user data, ledger and code where it left them 0
abbrev pub inherited_record : Transfer → Transfer → Transfer
inherited_record pending given = record given {
  debit_account_id = given_or pending.debit_account_id given.debit_account_id;
  credit_account_id = given_or pending.credit_account_id given.credit_account_id;
  user_data_128 = given_or pending.user_data_128 given.user_data_128;
  user_data_64 = given_or pending.user_data_64 given.user_data_64;
  user_data_32 = given_or pending.user_data_32 given.user_data_32;
  ledger = given_or pending.ledger given.ledger;
  code = given_or pending.code given.code;
}
