-- The worked examples of the model, computed by the definitions themselves: transfers that fail for good.
use Rattle.std.specs.Prelude.{◌≡◌, List, [], ◌∷◌, Some, refl}
use Rattle.records.specs.declared.account.AccountEvent.{AccountEvent}
use Rattle.records.specs.declared.transfer.TransferEvent.{TransferEvent}
use Rattle.records.specs.Machine.{Machine, max_amount}
use Rattle.records.specs.Facts.{facts_of}
use Rattle.records.specs.AccountVerdict.{account_verdict}
use Rattle.records.specs.TransferVerdict.{transfer_verdict}
use Rattle.records.specs.Chains.{chains_of, trial_of, chain_results, after_chain, chains_results, after_chains}
use Rattle.records.specs.Step.{account_verdict_in, after_account, transfer_verdict_in, after_transfer, step_outcome, step_machine}
use Rattle.records.proofs.Samples.{single, linked, pending, post, transfer_event, account_event, told_transfers, told_accounts, after_transfers, after_accounts, base}
use Rattle.records.proofs.WorkedExamples.{pending_counts_against_limit_batch}
use Rattle.records.proofs.WorkedChains.{chain_falls_whole_batch, first_of_a_chain_fails_batch, event_behind_a_fallen_chain_batch, open_chain_that_fails_batch}

-- an id that failed once fails again, one batch after the other

abbrev from_9 : List TransferEvent
from_9 = single 100 9 2 10 ∷ []

abbrev after_missing_account : Machine
after_missing_account = after_transfers base from_9 0

abbrev account_9 : List AccountEvent
account_9 = account_event 9 0 ∷ []

abbrev after_account_9 : Machine
after_account_9 = after_accounts after_missing_account account_9 0

abbrev after_retry : Machine
after_retry = after_transfers after_account_9 from_9 0

abbrev other_id : List TransferEvent
other_id = single 101 9 2 10 ∷ []

abbrev after_other_id : Machine
after_other_id = after_transfers after_retry other_id 0

abbrev post_of_nothing_twice : List TransferEvent
post_of_nothing_twice = post 102 77 5 ∷ post 102 77 5 ∷ []

abbrev after_post_of_nothing : Machine
after_post_of_nothing = after_transfers after_other_id post_of_nothing_twice 0

abbrev chain_without_funds : List TransferEvent
chain_without_funds = linked 103 1 2 1 ∷ single 104 3 2 1 ∷ []

abbrev after_chain_without_funds : Machine
after_chain_without_funds = after_transfers after_post_of_nothing chain_without_funds 0

abbrev both_again : List TransferEvent
both_again = single 104 1 2 1 ∷ single 103 1 2 1 ∷ []

abbrev after_both_again : Machine
after_both_again = after_transfers after_chain_without_funds both_again 0

abbrev other_flags : List TransferEvent
other_flags = transfer_event 104 1 2 1 64 ∷ transfer_event 104 1 2 1 6 ∷ []

pub failed_once_fails_again :
    (told_transfers base from_9 0 ≡ Some (5, (44, 5) ∷ []))
    × (told_accounts after_missing_account account_9 0 ≡ Some (6, (0, 6) ∷ []))
    × (told_transfers after_account_9 from_9 0 ≡ Some (7, (60, 7) ∷ []))
    × (told_transfers after_retry other_id 0 ≡ Some (8, (0, 8) ∷ []))
    × (told_transfers after_other_id post_of_nothing_twice 0 ≡ Some (10, (24, 9) ∷ (60, 10) ∷ []))
    × (told_transfers after_post_of_nothing chain_without_funds 0 ≡ Some (12, (2, 11) ∷ (55, 12) ∷ []))
    × (told_transfers after_chain_without_funds both_again 0 ≡ Some (14, (60, 13) ∷ (0, 14) ∷ []))
    × (told_transfers after_both_again other_flags 0 ≡ Some (16, (4, 15) ∷ (60, 16) ∷ []))
    × ((after_transfers after_both_again other_flags 0).failed ≡ 100 ∷ 102 ∷ 104 ∷ [])
unfolding facts_of account_verdict transfer_verdict account_verdict_in after_account transfer_verdict_in after_transfer chains_of trial_of chain_results after_chain chains_results after_chains step_outcome step_machine
failed_once_fails_again = (refl, refl, refl, refl, refl, refl, refl, refl, refl)

-- what the other examples leave failed
pub failed_after_examples :
    ((after_transfers base chain_falls_whole_batch 0).failed ≡ 101 ∷ [])
    × ((after_transfers base pending_counts_against_limit_batch 0).failed ≡ 102 ∷ [])
    × ((after_transfers base first_of_a_chain_fails_batch 0).failed ≡ 100 ∷ [])
    × ((after_transfers base event_behind_a_fallen_chain_batch 0).failed ≡ 101 ∷ [])
    × ((after_transfers base open_chain_that_fails_batch 0).failed ≡ 100 ∷ [])
unfolding facts_of account_verdict transfer_verdict account_verdict_in after_account transfer_verdict_in after_transfer chains_of trial_of chain_results after_chain chains_results after_chains step_outcome step_machine
failed_after_examples = (refl, refl, refl, refl, refl)

-- a limit on the credit side: credits must not exceed debits

abbrev credit_limit_opened : Machine
credit_limit_opened = after_accounts base (account_event 5 4 ∷ []) 0

abbrev credit_limit_batch : List TransferEvent
credit_limit_batch = single 100 5 1 30 ∷ single 101 1 5 31 ∷ pending 102 1 5 30 ∷ single 103 1 5 1 ∷ []

pub credit_limit :
    (told_accounts base (account_event 5 4 ∷ []) 0 ≡ Some (5, (0, 5) ∷ []))
    × (told_transfers credit_limit_opened credit_limit_batch 0 ≡ Some (9, (0, 6) ∷ (56, 7) ∷ (0, 8) ∷ (56, 9) ∷ []))
    × ((after_transfers credit_limit_opened credit_limit_batch 0).failed ≡ 101 ∷ 103 ∷ [])
unfolding facts_of account_verdict transfer_verdict account_verdict_in after_account transfer_verdict_in after_transfer chains_of trial_of chain_results after_chain chains_results after_chains step_outcome step_machine
credit_limit = (refl, refl, refl)

-- a credited sum of more than 128 bits leaves none

abbrev credits_too_large_batch : List TransferEvent
credits_too_large_batch = single 100 1 2 max_amount ∷ single 101 4 2 1 ∷ []

pub credits_too_large :
    (told_transfers base credits_too_large_batch 0 ≡ Some (6, (0, 5) ∷ (51, 6) ∷ []))
    × ((after_transfers base credits_too_large_batch 0).failed ≡ [])
unfolding facts_of account_verdict transfer_verdict account_verdict_in after_account transfer_verdict_in after_transfer chains_of trial_of chain_results after_chain chains_results after_chains step_outcome step_machine
credits_too_large = (refl, refl)
