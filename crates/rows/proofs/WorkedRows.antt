-- The rows of worked examples of the model, computed by the definitions themselves.
use Rattle.std.specs.Prelude.{[], ◌∷◌, Some, None, refl}
use Rattle.records.specs.declared.facts.PendingState.TheVariants.{Posted, Expired}
use Rattle.records.specs.Machine.{max_amount}
use Rattle.records.specs.Facts.{facts_of}
use Rattle.records.specs.AccountVerdict.{account_verdict}
use Rattle.records.specs.TransferVerdict.{transfer_verdict}
use Rattle.records.specs.Chains.{chains_of, trial_of, chain_results, after_chain, chains_results, after_chains}
use Rattle.records.specs.Step.{account_verdict_in, after_account, transfer_verdict_in, after_transfer, step_machine}
use Rattle.rows.specs.Prescribed.{rows_for}
use Rattle.rows.proofs.Samples.{HasRows, transfer_event, base, after, base_accounts, balance, status, history}
use Rattle.samples.specs.Events.{post, accepted_transfer as transfer, balances as sums}

-- the base: four accounts, and no balance yet
pub base_rows : HasRows base (record {
  clock = 4;
  accounts = base_accounts;
  transfers = [];
  balances = balance 1 (sums 0 0 0 0) ∷ balance 2 (sums 0 0 0 0) ∷ balance 3 (sums 0 0 0 0) ∷ balance 4 (sums 0 0 0 0) ∷ [];
  statuses = [];
  history = [];
  failed = [];
})
unfolding rows_for facts_of account_verdict transfer_verdict account_verdict_in after_account transfer_verdict_in after_transfer chains_of trial_of chain_results after_chain chains_results after_chains step_machine
base_rows = record { third = refl; second = refl; first = refl }

-- 40 of a pending 100 is posted, and another post is refused
pub posted_in_part_rows : HasRows (after base (transfer_event 100 1 2 100 2 ∷ post 101 100 40 ∷ post 102 100 60 ∷ []) 0) (record {
  clock = 7;
  accounts = base_accounts;
  transfers = transfer 100 0 100 2 5 7 ∷ transfer 101 100 40 4 6 7 ∷ [];
  balances = balance 1 (sums 0 40 0 0) ∷ balance 2 (sums 0 0 0 40) ∷ balance 3 (sums 0 0 0 0) ∷ balance 4 (sums 0 0 0 0) ∷ [];
  statuses = status 100 Posted None ∷ [];
  history = history 1 5 (sums 100 0 0 0) ∷ history 2 5 (sums 0 0 100 0) ∷ history 1 6 (sums 0 40 0 0) ∷ history 2 6 (sums 0 0 0 40) ∷ [];
  failed = [];
})
unfolding rows_for facts_of account_verdict transfer_verdict account_verdict_in after_account transfer_verdict_in after_transfer chains_of trial_of chain_results after_chain chains_results after_chains step_machine
posted_in_part_rows = record { third = refl; second = refl; first = refl }

-- a pending transfer has expired when it is to be posted
pub posted_too_late_rows : HasRows (after (after base (record (transfer_event 100 1 2 100 2) { timeout = 1 } ∷ []) 0) (post 101 100 max_amount ∷ []) 1000000004) (record {
  clock = 1000000005;
  accounts = base_accounts;
  transfers = record (transfer 100 0 100 2 5 5) { timeout = 1 } ∷ [];
  balances = balance 1 (sums 0 0 0 0) ∷ balance 2 (sums 0 0 0 0) ∷ balance 3 (sums 0 0 0 0) ∷ balance 4 (sums 0 0 0 0) ∷ [];
  statuses = status 100 Expired (Some 1000000005) ∷ [];
  history = history 1 5 (sums 100 0 0 0) ∷ history 2 5 (sums 0 0 100 0) ∷ [];
  failed = [];
})
unfolding rows_for facts_of account_verdict transfer_verdict account_verdict_in after_account transfer_verdict_in after_transfer chains_of trial_of chain_results after_chain chains_results after_chains step_machine
posted_too_late_rows = record { third = refl; second = refl; first = refl }

-- of a chain that falls only the clock is left, and the id that failed
pub chain_falls_whole_rows : HasRows (after base (transfer_event 100 1 2 10 1 ∷ transfer_event 101 3 2 10 1 ∷ transfer_event 102 1 4 10 0 ∷ []) 0) (record {
  clock = 7;
  accounts = base_accounts;
  transfers = [];
  balances = balance 1 (sums 0 0 0 0) ∷ balance 2 (sums 0 0 0 0) ∷ balance 3 (sums 0 0 0 0) ∷ balance 4 (sums 0 0 0 0) ∷ [];
  statuses = [];
  history = [];
  failed = 101 ∷ [];
})
unfolding rows_for facts_of account_verdict transfer_verdict account_verdict_in after_account transfer_verdict_in after_transfer chains_of trial_of chain_results after_chain chains_results after_chains step_machine
chain_falls_whole_rows = record { third = refl; second = refl; first = refl }

-- a pending transfer and its post in one chain
pub pending_and_post_in_one_chain_rows : HasRows (after base (transfer_event 100 1 2 70 3 ∷ post 101 100 max_amount ∷ []) 0) (record {
  clock = 6;
  accounts = base_accounts;
  transfers = transfer 100 0 70 3 5 6 ∷ transfer 101 100 70 4 6 6 ∷ [];
  balances = balance 1 (sums 0 70 0 0) ∷ balance 2 (sums 0 0 0 70) ∷ balance 3 (sums 0 0 0 0) ∷ balance 4 (sums 0 0 0 0) ∷ [];
  statuses = status 100 Posted None ∷ [];
  history = history 1 5 (sums 70 0 0 0) ∷ history 2 5 (sums 0 0 70 0) ∷ history 1 6 (sums 0 70 0 0) ∷ history 2 6 (sums 0 0 0 70) ∷ [];
  failed = [];
})
unfolding rows_for facts_of account_verdict transfer_verdict account_verdict_in after_account transfer_verdict_in after_transfer chains_of trial_of chain_results after_chain chains_results after_chains step_machine
pending_and_post_in_one_chain_rows = record { third = refl; second = refl; first = refl }
