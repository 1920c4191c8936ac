-- The worked examples of the model, computed by the definitions themselves.
use Rattle.std.specs.Prelude.{◌≡◌, ◌^◌, List, [], ◌∷◌, Some, None, refl}
use Rattle.records.specs.declared.account.AccountEvent.{AccountEvent}
use Rattle.records.specs.declared.transfer.TransferEvent.{TransferEvent}
use Rattle.records.specs.Machine.{Machine, new_machine, max_amount}
use Rattle.records.specs.Facts.{facts_of}
use Rattle.records.specs.AccountVerdict.{account_verdict}
use Rattle.records.specs.TransferVerdict.{transfer_verdict}
use Rattle.records.specs.Chains.{chains_of, trial_of, chain_results, after_chain, chains_results, after_chains}
use Rattle.records.specs.Step.{account_verdict_in, after_account, transfer_verdict_in, after_transfer, step_outcome, step_machine}
use Rattle.records.proofs.Samples.{single, pending, post, void, transfer_event, account_event, told_transfers, told_accounts, after_transfers, after_accounts, balances, sums, stored_amount, base_batch, base}

-- accounts 1 to 4 have timestamps 1 to 4, and the clock is 4
pub the_base : told_accounts new_machine base_batch 0 ≡ Some (4, (0, 1) ∷ (0, 2) ∷ (0, 3) ∷ (0, 4) ∷ [])
unfolding facts_of account_verdict transfer_verdict account_verdict_in after_account transfer_verdict_in after_transfer chains_of trial_of chain_results after_chain chains_results after_chains step_outcome step_machine
the_base = refl

-- the clock never turns back

abbrev clock_never_turns_back_settled : Machine
clock_never_turns_back_settled = after_transfers new_machine [] 1000

abbrev clock_never_turns_back_accounts : List AccountEvent
clock_never_turns_back_accounts = account_event 1 0 ∷ account_event 2 0 ∷ []

abbrev clock_never_turns_back_opened : Machine
clock_never_turns_back_opened = after_accounts clock_never_turns_back_settled clock_never_turns_back_accounts 1000

pub clock_never_turns_back :
    (told_transfers new_machine [] 1000 ≡ Some (1000, []))
    × (told_accounts clock_never_turns_back_settled clock_never_turns_back_accounts 1000 ≡ Some (1002, (0, 1001) ∷ (0, 1002) ∷ []))
    × (told_transfers clock_never_turns_back_opened (single 100 1 2 10 ∷ []) 5 ≡ Some (1003, (0, 1003) ∷ []))
unfolding facts_of account_verdict transfer_verdict account_verdict_in after_account transfer_verdict_in after_transfer chains_of trial_of chain_results after_chain chains_results after_chains step_outcome step_machine
clock_never_turns_back = (refl, refl, refl)

-- a post of less than the whole releases the rest

abbrev pub posted_in_part_batch : List TransferEvent
posted_in_part_batch = pending 100 1 2 100 ∷ post 101 100 40 ∷ post 102 100 60 ∷ []

abbrev pub posted_in_part_after : Machine
posted_in_part_after = after_transfers base posted_in_part_batch 0

pub posted_in_part :
    (told_transfers base posted_in_part_batch 0 ≡ Some (7, (0, 5) ∷ (0, 6) ∷ (32, 7) ∷ []))
    × (balances posted_in_part_after 1 ≡ sums 0 40 0 0)
    × (balances posted_in_part_after 2 ≡ sums 0 0 0 40)
unfolding facts_of account_verdict transfer_verdict account_verdict_in after_account transfer_verdict_in after_transfer chains_of trial_of chain_results after_chain chains_results after_chains step_outcome step_machine
posted_in_part = (refl, refl, refl)

-- a post sent again

abbrev pub post_retrial_of_batch : List TransferEvent
post_retrial_of_batch = post 101 100 40 ∷ post 101 100 41 ∷ []

pub post_retrial_of : told_transfers posted_in_part_after post_retrial_of_batch 0 ≡ Some (9, (18, 8) ∷ (12, 9) ∷ [])
unfolding facts_of account_verdict transfer_verdict account_verdict_in after_account transfer_verdict_in after_transfer chains_of trial_of chain_results after_chain chains_results after_chains step_outcome step_machine
post_retrial_of = refl

-- a pending transfer with a timeout of a second, posted a nanosecond before it is due

abbrev pub posted_in_time_batch : List TransferEvent
posted_in_time_batch = record (pending 100 1 2 100) { timeout = 1 } ∷ []

abbrev posted_in_time_begun : Machine
posted_in_time_begun = after_transfers base posted_in_time_batch 0

abbrev posted_in_time_post : List TransferEvent
posted_in_time_post = post 101 100 max_amount ∷ []

abbrev pub posted_in_time_after : Machine
posted_in_time_after = after_transfers posted_in_time_begun posted_in_time_post 1000000003

pub posted_in_time :
    (told_transfers base posted_in_time_batch 0 ≡ Some (5, (0, 5) ∷ []))
    × (told_transfers posted_in_time_begun posted_in_time_post 1000000003 ≡ Some (1000000004, (0, 1000000004) ∷ []))
    × (balances posted_in_time_after 1 ≡ sums 0 100 0 0)
unfolding facts_of account_verdict transfer_verdict account_verdict_in after_account transfer_verdict_in after_transfer chains_of trial_of chain_results after_chain chains_results after_chains step_outcome step_machine
posted_in_time = (refl, refl, refl)

-- the same, posted when it is due

abbrev pub posted_too_late_after : Machine
posted_too_late_after = after_transfers posted_in_time_begun posted_in_time_post 1000000004

pub posted_too_late :
    (told_transfers posted_in_time_begun posted_in_time_post 1000000004 ≡ Some (1000000005, (34, 1000000005) ∷ []))
    × (balances posted_too_late_after 1 ≡ sums 0 0 0 0)
unfolding facts_of account_verdict transfer_verdict account_verdict_in after_account transfer_verdict_in after_transfer chains_of trial_of chain_results after_chain chains_results after_chains step_outcome step_machine
posted_too_late = (refl, refl)

-- a balancing debit takes what the account has left, and its retry differs only below the stored amount

abbrev pub balancing_and_its_retries_batch : List TransferEvent
balancing_and_its_retries_batch = single 100 1 3 50 ∷ single 101 3 2 20 ∷ transfer_event 102 3 2 max_amount 16 ∷ transfer_event 102 3 2 29 16 ∷ transfer_event 102 3 2 30 16 ∷ []

abbrev pub balancing_and_its_retries_after : Machine
balancing_and_its_retries_after = after_transfers base balancing_and_its_retries_batch 0

pub balancing_and_its_retries :
    (told_transfers base balancing_and_its_retries_batch 0 ≡ Some (9, (0, 5) ∷ (0, 6) ∷ (0, 7) ∷ (12, 8) ∷ (18, 9) ∷ []))
    × (balances balancing_and_its_retries_after 3 ≡ sums 0 50 0 50)
    × (stored_amount balancing_and_its_retries_after 102 ≡ Some 30)
unfolding facts_of account_verdict transfer_verdict account_verdict_in after_account transfer_verdict_in after_transfer chains_of trial_of chain_results after_chain chains_results after_chains step_outcome step_machine
balancing_and_its_retries = (refl, refl, refl)

-- a sum of more than 128 bits

abbrev pub sum_too_large_batch : List TransferEvent
sum_too_large_batch = single 100 1 2 max_amount ∷ single 101 1 2 1 ∷ []

pub sum_too_large : told_transfers base sum_too_large_batch 0 ≡ Some (6, (0, 5) ∷ (50, 6) ∷ [])
unfolding facts_of account_verdict transfer_verdict account_verdict_in after_account transfer_verdict_in after_transfer chains_of trial_of chain_results after_chain chains_results after_chains step_outcome step_machine
sum_too_large = refl

-- a void takes the whole pending amount back

abbrev pub voided_batch : List TransferEvent
voided_batch = pending 100 1 2 100 ∷ void 101 100 99 ∷ void 101 100 0 ∷ []

abbrev pub voided_after : Machine
voided_after = after_transfers base voided_batch 0

pub voided :
    (told_transfers base voided_batch 0 ≡ Some (7, (0, 5) ∷ (31, 6) ∷ (0, 7) ∷ []))
    × (balances voided_after 1 ≡ sums 0 0 0 0)
    × (stored_amount voided_after 101 ≡ Some 100)
unfolding facts_of account_verdict transfer_verdict account_verdict_in after_account transfer_verdict_in after_transfer chains_of trial_of chain_results after_chain chains_results after_chains step_outcome step_machine
voided = (refl, refl, refl)

-- the clock ends at 2^62

abbrev pub end_of_the_clock_batch : List TransferEvent
end_of_the_clock_batch = single 100 1 2 10 ∷ []

pub end_of_the_clock :
    (told_transfers base end_of_the_clock_batch (2 ^ 62) ≡ None)
    × (after_transfers base end_of_the_clock_batch (2 ^ 62) ≡ base)
    × (told_transfers base [] (2 ^ 62) ≡ Some (2 ^ 62, []))
unfolding facts_of account_verdict transfer_verdict account_verdict_in after_account transfer_verdict_in after_transfer chains_of trial_of chain_results after_chain chains_results after_chains step_outcome step_machine
end_of_the_clock = (refl, refl, refl)

-- pending amounts count against a limit

abbrev pub pending_counts_against_limit_batch : List TransferEvent
pending_counts_against_limit_batch = single 100 1 3 50 ∷ pending 101 3 2 50 ∷ single 102 3 2 1 ∷ []

pub pending_counts_against_limit : told_transfers base pending_counts_against_limit_batch 0 ≡ Some (7, (0, 5) ∷ (0, 6) ∷ (55, 7) ∷ [])
unfolding facts_of account_verdict transfer_verdict account_verdict_in after_account transfer_verdict_in after_transfer chains_of trial_of chain_results after_chain chains_results after_chains step_outcome step_machine
pending_counts_against_limit = refl

-- a balancing debit of an account that has nothing left

abbrev pub balancing_with_no_room_batch : List TransferEvent
balancing_with_no_room_batch = transfer_event 100 3 2 max_amount 16 ∷ []

abbrev pub balancing_with_no_room_after : Machine
balancing_with_no_room_after = after_transfers base balancing_with_no_room_batch 0

pub balancing_with_no_room :
    (told_transfers base balancing_with_no_room_batch 0 ≡ Some (5, (0, 5) ∷ []))
    × (stored_amount balancing_with_no_room_after 100 ≡ Some 0)
unfolding facts_of account_verdict transfer_verdict account_verdict_in after_account transfer_verdict_in after_transfer chains_of trial_of chain_results after_chain chains_results after_chains step_outcome step_machine
balancing_with_no_room = (refl, refl)

-- a post that names another debit account than its pending transfer

abbrev pub another_debit_account_batch : List TransferEvent
another_debit_account_batch = pending 100 1 2 5 ∷ record (post 101 100 5) { debit_account_id = 2 } ∷ []

pub another_debit_account : told_transfers base another_debit_account_batch 0 ≡ Some (6, (0, 5) ∷ (26, 6) ∷ [])
unfolding facts_of account_verdict transfer_verdict account_verdict_in after_account transfer_verdict_in after_transfer chains_of trial_of chain_results after_chain chains_results after_chains step_outcome step_machine
another_debit_account = refl

-- a reserved flag is told before the missing id

abbrev pub reserved_flag_comes_first_batch : List TransferEvent
reserved_flag_comes_first_batch = transfer_event 0 1 2 10 64 ∷ []

pub reserved_flag_comes_first : told_transfers base reserved_flag_comes_first_batch 0 ≡ Some (5, (4, 5) ∷ [])
unfolding facts_of account_verdict transfer_verdict account_verdict_in after_account transfer_verdict_in after_transfer chains_of trial_of chain_results after_chain chains_results after_chains step_outcome step_machine
reserved_flag_comes_first = refl

-- sums of pending amounts, and of pending and posted ones

abbrev pub overflow_pending_and_both_batch : List TransferEvent
overflow_pending_and_both_batch = pending 100 1 2 max_amount ∷ pending 101 1 2 1 ∷ single 102 1 2 1 ∷ pending 103 4 2 1 ∷ single 104 4 2 1 ∷ []

pub overflow_pending_and_both : told_transfers base overflow_pending_and_both_batch 0 ≡ Some (9, (0, 5) ∷ (48, 6) ∷ (52, 7) ∷ (49, 8) ∷ (53, 9) ∷ [])
unfolding facts_of account_verdict transfer_verdict account_verdict_in after_account transfer_verdict_in after_transfer chains_of trial_of chain_results after_chain chains_results after_chains step_outcome step_machine
overflow_pending_and_both = refl

-- with both balancing flags the least room counts

abbrev pub both_balancing_flags_batch : List TransferEvent
both_balancing_flags_batch = single 100 2 1 30 ∷ single 101 2 4 20 ∷ transfer_event 102 1 2 max_amount 48 ∷ transfer_event 103 1 2 max_amount 32 ∷ []

abbrev pub both_balancing_flags_after : Machine
both_balancing_flags_after = after_transfers base both_balancing_flags_batch 0

pub both_balancing_flags :
    (told_transfers base both_balancing_flags_batch 0 ≡ Some (8, (0, 5) ∷ (0, 6) ∷ (0, 7) ∷ (0, 8) ∷ []))
    × (stored_amount both_balancing_flags_after 102 ≡ Some 30)
    × (stored_amount both_balancing_flags_after 103 ≡ Some 20)
unfolding facts_of account_verdict transfer_verdict account_verdict_in after_account transfer_verdict_in after_transfer chains_of trial_of chain_results after_chain chains_results after_chains step_outcome step_machine
both_balancing_flags = (refl, refl, refl)
