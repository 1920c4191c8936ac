-- The worked examples of the model, computed by the definitions themselves: chains.
use Rattle.std.specs.Prelude.{◌≡◌, List, [], ◌∷◌, Some, refl}
use Rattle.records.specs.declared.account.AccountEvent.{AccountEvent}
use Rattle.records.specs.declared.transfer.TransferEvent.{TransferEvent}
use Rattle.records.specs.Machine.{Machine, max_amount}
use Rattle.records.specs.Facts.{facts_of}
use Rattle.records.specs.AccountVerdict.{account_verdict}
use Rattle.records.specs.TransferVerdict.{transfer_verdict}
use Rattle.records.specs.Chains.{chains_of, trial_of, chain_results, after_chain, chains_results, after_chains}
use Rattle.records.specs.Step.{account_verdict_in, after_account, transfer_verdict_in, after_transfer, step_outcome, step_machine}
use Rattle.records.proofs.Samples.{single, linked, post, transfer_event, account_event, told_transfers, told_accounts, after_transfers, stored_amount, base}

-- a chain falls whole: only the clock has moved

abbrev pub chain_falls_whole_batch : List TransferEvent
chain_falls_whole_batch = linked 100 1 2 10 ∷ linked 101 3 2 10 ∷ single 102 1 4 10 ∷ []

pub chain_falls_whole :
    (told_transfers base chain_falls_whole_batch 0 ≡ Some (7, (2, 5) ∷ (55, 6) ∷ (2, 7) ∷ []))
    × (after_transfers base chain_falls_whole_batch 0 ≡ record base { clock = 7; failed = 101 ∷ [] })
unfolding facts_of account_verdict transfer_verdict account_verdict_in after_account transfer_verdict_in after_transfer chains_of trial_of chain_results after_chain chains_results after_chains step_outcome step_machine
chain_falls_whole = (refl, refl)

-- a chain that the end of the batch leaves open

abbrev pub chain_left_open_batch : List TransferEvent
chain_left_open_batch = linked 100 1 2 10 ∷ linked 101 1 2 10 ∷ []

pub chain_left_open : told_transfers base chain_left_open_batch 0 ≡ Some (6, (2, 5) ∷ (1, 6) ∷ [])
unfolding facts_of account_verdict transfer_verdict account_verdict_in after_account transfer_verdict_in after_transfer chains_of trial_of chain_results after_chain chains_results after_chains step_outcome step_machine
chain_left_open = refl

-- a pending transfer and its post in one chain, then the batch again

abbrev pub pending_and_post_in_one_chain_batch : List TransferEvent
pending_and_post_in_one_chain_batch = transfer_event 100 1 2 70 3 ∷ post 101 100 max_amount ∷ []

abbrev pub pending_and_post_in_one_chain_after : Machine
pending_and_post_in_one_chain_after = after_transfers base pending_and_post_in_one_chain_batch 0

pub pending_and_post_in_one_chain :
    (told_transfers base pending_and_post_in_one_chain_batch 0 ≡ Some (6, (0, 5) ∷ (0, 6) ∷ []))
    × (stored_amount pending_and_post_in_one_chain_after 101 ≡ Some 70)
    × (told_transfers pending_and_post_in_one_chain_after pending_and_post_in_one_chain_batch 0 ≡ Some (8, (18, 7) ∷ (2, 8) ∷ []))
unfolding facts_of account_verdict transfer_verdict account_verdict_in after_account transfer_verdict_in after_transfer chains_of trial_of chain_results after_chain chains_results after_chains step_outcome step_machine
pending_and_post_in_one_chain = (refl, refl, refl)

-- the first event of a chain fails

abbrev pub first_of_a_chain_fails_batch : List TransferEvent
first_of_a_chain_fails_batch = linked 100 1 9 1 ∷ single 101 1 9 1 ∷ []

pub first_of_a_chain_fails : told_transfers base first_of_a_chain_fails_batch 0 ≡ Some (6, (45, 5) ∷ (2, 6) ∷ [])
unfolding facts_of account_verdict transfer_verdict account_verdict_in after_account transfer_verdict_in after_transfer chains_of trial_of chain_results after_chain chains_results after_chains step_outcome step_machine
first_of_a_chain_fails = refl

-- an event behind a chain that fell

abbrev pub event_behind_a_fallen_chain_batch : List TransferEvent
event_behind_a_fallen_chain_batch = linked 100 1 2 10 ∷ single 101 1 9 10 ∷ single 102 1 2 5 ∷ []

pub event_behind_a_fallen_chain : told_transfers base event_behind_a_fallen_chain_batch 0 ≡ Some (7, (2, 5) ∷ (45, 6) ∷ (0, 7) ∷ [])
unfolding facts_of account_verdict transfer_verdict account_verdict_in after_account transfer_verdict_in after_transfer chains_of trial_of chain_results after_chain chains_results after_chains step_outcome step_machine
event_behind_a_fallen_chain = refl

-- an open chain that fails before its end

abbrev pub open_chain_that_fails_batch : List TransferEvent
open_chain_that_fails_batch = linked 100 1 9 1 ∷ linked 101 1 2 1 ∷ linked 102 1 2 1 ∷ []

pub open_chain_that_fails : told_transfers base open_chain_that_fails_batch 0 ≡ Some (7, (45, 5) ∷ (2, 6) ∷ (1, 7) ∷ [])
unfolding facts_of account_verdict transfer_verdict account_verdict_in after_account transfer_verdict_in after_transfer chains_of trial_of chain_results after_chain chains_results after_chains step_outcome step_machine
open_chain_that_fails = refl

-- accounts in a chain

abbrev pub accounts_in_a_chain_batch : List AccountEvent
accounts_in_a_chain_batch = account_event 5 1 ∷ record (account_event 6 0) { ledger = 0 } ∷ []

pub accounts_in_a_chain : told_accounts base accounts_in_a_chain_batch 0 ≡ Some (6, (2, 5) ∷ (19, 6) ∷ [])
unfolding facts_of account_verdict transfer_verdict account_verdict_in after_account transfer_verdict_in after_transfer chains_of trial_of chain_results after_chain chains_results after_chains step_outcome step_machine
accounts_in_a_chain = refl

-- an id twice in one chain

abbrev pub doubled_id_in_a_chain_batch : List TransferEvent
doubled_id_in_a_chain_batch = linked 100 1 2 1 ∷ single 100 1 2 1 ∷ []

pub doubled_id_in_a_chain : told_transfers base doubled_id_in_a_chain_batch 0 ≡ Some (6, (2, 5) ∷ (7, 6) ∷ [])
unfolding facts_of account_verdict transfer_verdict account_verdict_in after_account transfer_verdict_in after_transfer chains_of trial_of chain_results after_chain chains_results after_chains step_outcome step_machine
doubled_id_in_a_chain = refl

-- the same, both linked, before an event that is not

abbrev pub doubled_id_in_a_longer_chain_batch : List TransferEvent
doubled_id_in_a_longer_chain_batch = linked 100 1 2 1 ∷ linked 100 1 2 1 ∷ single 101 1 2 1 ∷ []

pub doubled_id_in_a_longer_chain : told_transfers base doubled_id_in_a_longer_chain_batch 0 ≡ Some (7, (2, 5) ∷ (18, 6) ∷ (2, 7) ∷ [])
unfolding facts_of account_verdict transfer_verdict account_verdict_in after_account transfer_verdict_in after_transfer chains_of trial_of chain_results after_chain chains_results after_chains step_outcome step_machine
doubled_id_in_a_longer_chain = refl
