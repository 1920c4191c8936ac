-- Validity entry by entry, computed on worked machines.
use Rattle.std.specs.Prelude.{◌≡◌, ◌≢◌, ◌<◌, ◌≤◌, ◌+◌, ◌^◌, [], ◌∷◌, Some, All, AllPairs, refl}
use Rattle.std.proofs.Common.{arith}
use Rattle.std.proofs.lemmas.List.Elements.{All-nil, All-cons}
use Rattle.std.proofs.lemmas.List.Kept.{AllPairs-cons}
use Rattle.records.specs.declared.account.Account.{Account}
use Rattle.records.specs.declared.transfer.Transfer.{Transfer}
use Rattle.records.specs.declared.transfer_result.TransferResult.TheVariants as answer
use Rattle.records.specs.Machine.{Machine, max_amount}
use Rattle.records.specs.Facts.{facts_of}
use Rattle.records.specs.AccountVerdict.{account_verdict}
use Rattle.records.specs.TransferVerdict.{transfer_verdict}
use Rattle.records.specs.StoredRecord.{stored_account, stored_transfer}
use Rattle.records.specs.Step.{account_verdict_in, transfer_verdict_in}
use Rattle.records.specs.Valid.{event_of_transfer, IsNextFailed}
use Rattle.records.specs.Widths.{IsAccountInWidth, IsTransferInWidth}
use Rattle.records.specs.EntryByEntry.{entries_before, IsAccountGiven, IsTransferGiven, IsValidEntryByEntry}
use Rattle.records.proofs.Samples.{account_event}

-- two accounts, a pending transfer of 100 between them and a post of 40, in two batches

abbrev payer : Account
payer = stored_account (account_event 1 0) 1

abbrev payee : Account
payee = stored_account (account_event 2 0) 2

abbrev reserved : Transfer
reserved = record { id = 100; debit_account_id = 1; credit_account_id = 2; amount = 100; pending_id = 0; user_data_128 = 0; user_data_64 = 0; user_data_32 = 0; timeout = 1; ledger = 7; code = 1; flags = record { 0 = 2 }; timestamp = 3; at = 4 }

-- of the post 0 is left of the accounts, the ledger and the code, which are stored nonetheless
abbrev posted : Transfer
posted = record { id = 101; debit_account_id = 1; credit_account_id = 2; amount = 40; pending_id = 100; user_data_128 = 0; user_data_64 = 0; user_data_32 = 0; timeout = 0; ledger = 7; code = 1; flags = record { 0 = 4 }; timestamp = 50; at = 50 }

abbrev posted_machine : Machine
posted_machine = record { accounts = payer ∷ payee ∷ []; transfers = reserved ∷ posted ∷ []; clock = 60; failed = 102 ∷ 105 ∷ [] }

each_account : (P : Account → Type 0) → P payer → P payee → All P (payer ∷ payee ∷ [])
each_account P a b = All-cons P payer (payee ∷ []) a (All-cons P payee [] b (All-nil P))

each_transfer : (P : Transfer → Type 0) → P reserved → P posted → All P (reserved ∷ posted ∷ [])
each_transfer P a b = All-cons P reserved (posted ∷ []) a (All-cons P posted [] b (All-nil P))

-- one pair alone
two : {A : Type 0} (R : A → A → Type 0) (x y : A) → R x y → AllPairs R (x ∷ y ∷ [])
two R x y h = AllPairs-cons R x (y ∷ []) (All-cons (R x) y [] h (All-nil (R x))) (AllPairs-cons R y [] (All-nil (R y)) (λ i j d less within. absurd (omega arith)))

account_in_width : (a : Account) → a.id < 3 → a.user_data_128 ≡ 0 → a.user_data_64 ≡ 0 → a.user_data_32 ≡ 0 → a.ledger ≡ 7 → a.code ≡ 10 → a.flags.0 ≡ 0 → a.timestamp < 3 → IsAccountInWidth a
account_in_width a id u v w ledger code flags timestamp = record { id = omega arith; user_data_128 = omega arith; user_data_64 = omega arith; user_data_32 = omega arith; ledger = omega arith; code = omega arith; flags = omega arith; timestamp = omega arith }

posted_machine_is_valid : IsValidEntryByEntry posted_machine
unfolding facts_of account_verdict transfer_verdict account_verdict_in transfer_verdict_in
posted_machine_is_valid = record {
  widths = record {
    accounts = each_account IsAccountInWidth (account_in_width payer (omega arith) refl refl refl refl refl refl (omega arith)) (account_in_width payee (omega arith) refl refl refl refl refl refl (omega arith));
    transfers = each_transfer IsTransferInWidth (record { id = omega arith; debit_account_id = omega arith; credit_account_id = omega arith; amount = omega arith; pending_id = omega arith; user_data_128 = omega arith; user_data_64 = omega arith; user_data_32 = omega arith; timeout = omega arith; ledger = omega arith; code = omega arith; flags = omega arith; timestamp = omega arith; at = omega arith }) (record { id = omega arith; debit_account_id = omega arith; credit_account_id = omega arith; amount = omega arith; pending_id = omega arith; user_data_128 = omega arith; user_data_64 = omega arith; user_data_32 = omega arith; timeout = omega arith; ledger = omega arith; code = omega arith; flags = omega arith; timestamp = omega arith; at = omega arith });
  };
  timestamps = record {
    positive_accounts = each_account (λ a. 0 < a.timestamp) (omega arith) (omega arith);
    positive_transfers = each_transfer (λ t. 0 < t.timestamp) (omega arith) (omega arith);
    accounts_rise = two (λ x y. x.timestamp < y.timestamp) payer payee (omega arith);
    transfers_rise = two (λ x y. x.timestamp < y.timestamp) reserved posted (omega arith);
    apart = each_account (λ a. All (λ t. a.timestamp ≢ t.timestamp) posted_machine.transfers) (each_transfer (λ t. 1 ≢ t.timestamp) (λ h. omega arith) (λ h. omega arith)) (each_transfer (λ t. 2 ≢ t.timestamp) (λ h. omega arith) (λ h. omega arith));
  };
  batches = record { from = each_transfer (λ t. t.timestamp ≤ t.at) (omega arith) (omega arith); short = each_transfer (λ t. t.at < t.timestamp + 1000) (omega arith) (omega arith); never_fall = two (λ x y. x.at ≤ y.at) reserved posted (omega arith) };
  clock = record { accounts = each_account (λ a. a.timestamp ≤ 60) (omega arith) (omega arith); transfers = each_transfer (λ t. t.timestamp ≤ 60) (omega arith) (omega arith); batches = each_transfer (λ t. t.at ≤ 60) (omega arith) (omega arith); bounded = omega arith };
  failed = record { ascend = two (λ x y. x < y) 102 105 (omega arith); apart = All-cons (IsNextFailed posted_machine) 102 (105 ∷ []) (record { positive = omega arith; below_max = omega arith; unknown = refl }) (All-cons (IsNextFailed posted_machine) 105 [] (record { positive = omega arith; below_max = omega arith; unknown = refl }) (All-nil (IsNextFailed posted_machine))) };
  accounts = each_account (IsAccountGiven posted_machine) (record { accepted = refl }) (record { accepted = refl });
  transfers = each_transfer (IsTransferGiven posted_machine) (record { accepted = refl; stored = refl }) (record { accepted = refl; stored = refl });
}

-- a post kept as it was sent, with the greatest number for all, is not what its fields give: the amount is

abbrev posted_whole : Transfer
posted_whole = record posted { amount = max_amount }

abbrev posted_whole_machine : Machine
posted_whole_machine = record posted_machine { transfers = reserved ∷ posted_whole ∷ [] }

posted_whole_is_lowered : (stored_transfer (facts_of (entries_before posted_whole_machine 50 50) (event_of_transfer posted_whole)) (event_of_transfer posted_whole) 50 50).amount ≡ 100
unfolding facts_of
posted_whole_is_lowered = refl

-- a post at the due time comes too late, wherever its timestamp stands

abbrev posted_late : Transfer
posted_late = record posted { timestamp = 10 ^ 9 + 2; at = 10 ^ 9 + 3 }

abbrev posted_late_machine : Machine
posted_late_machine = record posted_machine { transfers = reserved ∷ posted_late ∷ []; clock = 10 ^ 9 + 3 }

posted_late_is_refused : transfer_verdict_in (entries_before posted_late_machine (10 ^ 9 + 2) (10 ^ 9 + 3)) (event_of_transfer posted_late) ≡ Some answer.PendingTransferExpired
unfolding facts_of transfer_verdict transfer_verdict_in
posted_late_is_refused = refl

-- a transfer of an earlier timestamp than its account's

abbrev opened_late_machine : Machine
opened_late_machine = record posted_machine { accounts = payer ∷ record payee { timestamp = 5 } ∷ [] }

opened_late_is_refused : transfer_verdict_in (entries_before opened_late_machine 3 4) (event_of_transfer reserved) ≡ Some answer.CreditAccountNotFound
unfolding facts_of transfer_verdict transfer_verdict_in
opened_late_is_refused = refl
