-- The worked examples of the model, computed by the definitions themselves: lookups, histories, balances after entries
-- and statements.
use Rattle.std.specs.Prelude.{◌≡◌, ℕ, List, [], ◌∷◌, map, refl}
use Rattle.records.specs.declared.transfer.Transfer.{Transfer}
use Rattle.records.specs.declared.balances.BalanceAt.{BalanceAt}
use Rattle.records.specs.declared.balances.Balances.{Balances}
use Rattle.records.specs.declared.filter.AccountFilter.{AccountFilter}
use Rattle.records.specs.declared.filter.Order.TheVariants.{Oldest, Newest}
use Rattle.records.specs.declared.side.Side.{Side}
use Rattle.records.specs.declared.side.Side.TheVariants.{Debit}
use Rattle.records.specs.declared.statement_row.Kind.{Kind}
use Rattle.records.specs.declared.statement_row.Kind.TheVariants.{Single, Pending, Post}
use Rattle.records.specs.declared.statement_row.StatementRow.{StatementRow}
use Rattle.records.specs.Machine.{Machine}
use Rattle.records.specs.Facts.{facts_of}
use Rattle.records.specs.AccountVerdict.{account_verdict}
use Rattle.records.specs.TransferVerdict.{transfer_verdict}
use Rattle.records.specs.Chains.{chains_of, trial_of, chain_results, after_chain, chains_results, after_chains}
use Rattle.records.specs.Step.{account_verdict_in, after_account, transfer_verdict_in, after_transfer, step_outcome, step_machine}
use Rattle.records.specs.Reads.{found_accounts, found_transfers, history_answer, history_balances_answer, statement_answer}
use Rattle.records.specs.Reads.{AccountAnswer, NoAccount, NoHistory, Found}
use Rattle.records.proofs.Samples.{single, after_transfers, sums}
use Rattle.records.proofs.WorkedExamples.{posted_in_part_after, posted_too_late_after, balancing_and_its_retries_after}

-- the ids of transfers, in order
abbrev transfer_ids : List Transfer → List ℕ
transfer_ids transfers = map (λ t. t.id) transfers

-- an answer, seen from its ids
abbrev answered_ids : AccountAnswer (List Transfer) → AccountAnswer (List ℕ)
answered_ids NoAccount = NoAccount
answered_ids NoHistory = NoHistory
answered_ids (Found transfers) = Found (transfer_ids transfers)

-- a filter of all times
abbrev asked : ℕ → ℕ → ℕ → AccountFilter
asked account flags limit = record { account_id = account; timestamp_min = 0; timestamp_max = 0; limit = limit; flags = record { 0 = flags } }

-- debits_pending, debits_posted, credits_pending and credits_posted after the entry with this timestamp
abbrev after_entry : ℕ → ℕ → ℕ → ℕ → ℕ → BalanceAt
after_entry timestamp dp dd cp cc = record { timestamp = timestamp; balances = sums dp dd cp cc }

-- a line of a statement
abbrev line : ℕ → ℕ → Side → Kind → ℕ → Balances → StatementRow
line timestamp id side kind amount balances = record { timestamp = timestamp; transfer_id = id; side = side; kind = kind; amount = amount; balances = balances }

-- what is not there is left out, and an id asked twice is answered twice
pub looked_up :
    (map (λ a. a.account.id) (found_accounts posted_in_part_after (2 ∷ 9 ∷ 1 ∷ 2 ∷ [])) ≡ 2 ∷ 1 ∷ 2 ∷ [])
    × (map (λ a. a.balances) (found_accounts posted_in_part_after (2 ∷ 9 ∷ 1 ∷ 2 ∷ [])) ≡ sums 0 0 0 40 ∷ sums 0 40 0 0 ∷ sums 0 0 0 40 ∷ [])
    × (transfer_ids (found_transfers posted_in_part_after (101 ∷ 9 ∷ 100 ∷ [])) ≡ 101 ∷ 100 ∷ [])
unfolding facts_of account_verdict transfer_verdict account_verdict_in after_account transfer_verdict_in after_transfer chains_of trial_of chain_results after_chain chains_results after_chains step_outcome step_machine
looked_up = (refl, refl, refl)

-- the newest two of account 3, and its balances after each of its entries
pub history_of_account_3 :
    (answered_ids (history_answer balancing_and_its_retries_after (asked 3 7 2)) ≡ Found (102 ∷ 101 ∷ []))
    × (history_balances_answer balancing_and_its_retries_after (asked 3 3 10) ≡ Found (after_entry 5 0 0 0 50 ∷ after_entry 6 0 20 0 50 ∷ after_entry 7 0 50 0 50 ∷ []))
unfolding facts_of account_verdict transfer_verdict account_verdict_in after_account transfer_verdict_in after_transfer chains_of trial_of chain_results after_chain chains_results after_chains step_outcome step_machine
history_of_account_3 = (refl, refl)

-- account 1 keeps no history, and there is no account 9
pub no_history_and_no_account :
    (answered_ids (history_answer balancing_and_its_retries_after (asked 1 3 10)) ≡ Found (100 ∷ []))
    × (history_balances_answer balancing_and_its_retries_after (asked 1 3 10) ≡ NoHistory)
    × (history_balances_answer balancing_and_its_retries_after (asked 9 3 10) ≡ NoAccount)
    × (history_answer balancing_and_its_retries_after (asked 9 3 10) ≡ NoAccount)
    × (statement_answer balancing_and_its_retries_after 9 Oldest ≡ NoAccount)
unfolding facts_of account_verdict transfer_verdict account_verdict_in after_account transfer_verdict_in after_transfer chains_of trial_of chain_results after_chain chains_results after_chains step_outcome step_machine
no_history_and_no_account = (refl, refl, refl, refl, refl)

-- statements of account 1: after a part is posted, oldest and newest first
abbrev part_pending : StatementRow
part_pending = line 5 100 Debit Pending 100 (sums 100 0 0 0)

abbrev part_post : StatementRow
part_post = line 6 101 Debit Post 40 (sums 0 40 0 0)

pub statement_after_a_part :
    (statement_answer posted_in_part_after 1 Oldest ≡ Found (part_pending ∷ part_post ∷ []))
    × (statement_answer posted_in_part_after 1 Newest ≡ Found (part_post ∷ part_pending ∷ []))
unfolding facts_of account_verdict transfer_verdict account_verdict_in after_account transfer_verdict_in after_transfer chains_of trial_of chain_results after_chain chains_results after_chains step_outcome step_machine
statement_after_a_part = (refl, refl)

-- and after a pending transfer has expired
abbrev expired_after : Machine
expired_after = after_transfers posted_too_late_after (single 102 1 2 10 ∷ []) 0

pub statement_after_an_expiry : statement_answer expired_after 1 Oldest ≡ Found (line 5 100 Debit Pending 100 (sums 100 0 0 0) ∷ line 1000000006 102 Debit Single 10 (sums 0 10 0 0) ∷ [])
unfolding facts_of account_verdict transfer_verdict account_verdict_in after_account transfer_verdict_in after_transfer chains_of trial_of chain_results after_chain chains_results after_chains step_outcome step_machine
statement_after_an_expiry = refl
