-- The step of the machine that opens the accounts of the sample tenants.
use Rattle.std.proofs.Common.{◌≡◌, [], ◌∷◌, refl}
use Rattle.records.specs.Machine.{new_machine}
use Rattle.records.specs.AccountVerdict.{account_verdict}
use Rattle.records.specs.Chains.{chains_of, trial_of, chain_results, after_chain, chains_results, after_chains}
use Rattle.records.specs.Step.{account_rules, account_verdict_in, after_account, step_machine}
use Rattle.bodies.specs.SampleBook.{account_event, opened}

pub opens : step_machine account_rules new_machine (account_event 1 ∷ account_event 2 ∷ []) 0 ≡ opened
unfolding account_verdict account_verdict_in after_account chains_of trial_of chain_results after_chain chains_results after_chains step_machine
opens = refl
