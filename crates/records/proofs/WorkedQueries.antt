-- Worked examples of queries, computed by the definitions themselves: pages of transfers and accounts, a rare tag, bounds,
-- and open holds.
use Rattle.std.specs.Prelude.{◌≡◌, ℕ, List, [], ◌∷◌, map, refl}
use Rattle.records.specs.declared.transfer.Transfer.{Transfer}
use Rattle.records.specs.declared.transfer.TransferEvent.{TransferEvent}
use Rattle.records.specs.declared.facts.AccountWithBalances.{AccountWithBalances}
use Rattle.records.specs.declared.hold.Hold.{Hold}
use Rattle.records.specs.declared.facts.PendingState.TheVariants.{Open, Posted}
use Rattle.records.specs.declared.query.PageFilter.{PageFilter}
use Rattle.records.specs.declared.query.QueryFilter.{QueryFilter}
use Rattle.records.specs.declared.query.Tags.{Tags}
use Rattle.records.specs.Machine.{Machine}
use Rattle.records.specs.Facts.{facts_of}
use Rattle.records.specs.AccountVerdict.{account_verdict}
use Rattle.records.specs.TransferVerdict.{transfer_verdict}
use Rattle.records.specs.Chains.{chains_of, trial_of, chain_results, after_chain, chains_results, after_chains}
use Rattle.records.specs.Step.{account_verdict_in, after_account, transfer_verdict_in, after_transfer, step_outcome, step_machine}
use Rattle.records.specs.Queries.{Page, queried_accounts, queried_transfers, open_holds, found_holds}
use Rattle.records.proofs.Samples.{single, pending, post, after_transfers, base}

-- 100 and 103 are pending, and 102 is for invoice 4711; the timestamps are 5 to 9
abbrev five_transfers : List TransferEvent
five_transfers = pending 100 1 2 100 ∷ single 101 1 2 5 ∷ record (single 102 1 2 6) { user_data_64 = 4711 } ∷ pending 103 2 1 7 ∷ single 104 1 2 8 ∷ []

abbrev five_after : Machine
five_after = after_transfers base five_transfers 0

-- a page of all times within two bounds
abbrev page : ℕ → ℕ → ℕ → ℕ → PageFilter
page min max limit flags = record { timestamp_min = min; timestamp_max = max; limit = limit; flags = record { 0 = flags } }

abbrev any : Tags
any = record { user_data_128 = 0; user_data_64 = 0; user_data_32 = 0; ledger = 0; code = 0 }

abbrev all_of : PageFilter → QueryFilter
all_of asked = record { tags = any; page = asked }

abbrev invoice : PageFilter → QueryFilter
invoice asked = record { tags = record any { user_data_64 = 4711 }; page = asked }

-- pages, seen from ids
abbrev ids_of : Page Transfer → Page ℕ
ids_of seen = record { entries = map (λ t. t.id) seen.entries; next = seen.next }

abbrev account_ids : Page AccountWithBalances → Page ℕ
account_ids seen = record { entries = map (λ a. a.account.id) seen.entries; next = seen.next }

abbrev hold_ids : Page Hold → Page ℕ
hold_ids seen = record { entries = map (λ h. h.id) seen.entries; next = seen.next }

abbrev shows : List ℕ → ℕ → Page ℕ
shows ids next = record { entries = ids; next = next }

-- a page, the next and the last one, which is not full
pub three_pages :
    (ids_of (queried_transfers five_after (all_of (page 0 0 2 0))) ≡ shows (100 ∷ 101 ∷ []) 7)
    × (ids_of (queried_transfers five_after (all_of (page 7 0 2 0))) ≡ shows (102 ∷ 103 ∷ []) 9)
    × (ids_of (queried_transfers five_after (all_of (page 9 0 2 0))) ≡ shows (104 ∷ []) 0)
unfolding facts_of account_verdict transfer_verdict account_verdict_in after_account transfer_verdict_in after_transfer chains_of trial_of chain_results after_chain chains_results after_chains step_outcome step_machine
three_pages = (refl, refl, refl)

-- the newest first; what the oldest account leaves to ask for is nothing
pub newest_first :
    (ids_of (queried_transfers five_after (all_of (page 0 0 2 1))) ≡ shows (104 ∷ 103 ∷ []) 7)
    × (ids_of (queried_transfers five_after (all_of (page 0 7 2 1))) ≡ shows (102 ∷ 101 ∷ []) 5)
    × (ids_of (queried_transfers five_after (all_of (page 0 5 2 1))) ≡ shows (100 ∷ []) 0)
    × (account_ids (queried_accounts five_after (all_of (page 0 0 4 1))) ≡ shows (4 ∷ 3 ∷ 2 ∷ 1 ∷ []) 0)
unfolding facts_of account_verdict transfer_verdict account_verdict_in after_account transfer_verdict_in after_transfer chains_of trial_of chain_results after_chain chains_results after_chains step_outcome step_machine
newest_first = (refl, refl, refl, refl)

-- a page that is just full has a next one, which may be empty; a minimum above the maximum asks for nothing
pub at_the_bounds :
    (ids_of (queried_transfers five_after (all_of (page 0 0 5 0))) ≡ shows (100 ∷ 101 ∷ 102 ∷ 103 ∷ 104 ∷ []) 10)
    × (ids_of (queried_transfers five_after (all_of (page 10 0 5 0))) ≡ shows [] 0)
    × (ids_of (queried_transfers five_after (all_of (page 6 8 5 0))) ≡ shows (101 ∷ 102 ∷ 103 ∷ []) 0)
    × (ids_of (queried_transfers five_after (all_of (page 8 7 5 0))) ≡ shows [] 0)
unfolding facts_of account_verdict transfer_verdict account_verdict_in after_account transfer_verdict_in after_transfer chains_of trial_of chain_results after_chain chains_results after_chains step_outcome step_machine
at_the_bounds = (refl, refl, refl, refl)

-- what was paid for an invoice
pub a_rare_tag :
    (ids_of (queried_transfers five_after (invoice (page 0 0 2 0))) ≡ shows (102 ∷ []) 0)
    × (ids_of (queried_transfers five_after (invoice (page 0 0 1 0))) ≡ shows (102 ∷ []) 8)
    × (account_ids (queried_accounts five_after (invoice (page 0 0 2 0))) ≡ shows [] 0)
unfolding facts_of account_verdict transfer_verdict account_verdict_in after_account transfer_verdict_in after_transfer chains_of trial_of chain_results after_chain chains_results after_chains step_outcome step_machine
a_rare_tag = (refl, refl, refl)

-- open holds, before and after one is posted
abbrev posted_after : Machine
posted_after = after_transfers five_after (post 105 100 40 ∷ []) 0

abbrev hold_100 : Hold
hold_100 = record { id = 100; timestamp = 5; due = 0; state = Posted }

abbrev hold_103 : Hold
hold_103 = record { id = 103; timestamp = 8; due = 0; state = Open }

pub holds :
    (hold_ids (open_holds five_after (page 0 0 10 0)) ≡ shows (100 ∷ 103 ∷ []) 0)
    × (hold_ids (open_holds posted_after (page 0 0 10 0)) ≡ shows (103 ∷ []) 0)
    × (found_holds posted_after (103 ∷ 101 ∷ 9 ∷ 100 ∷ 103 ∷ []) ≡ hold_103 ∷ hold_100 ∷ hold_103 ∷ [])
unfolding facts_of account_verdict transfer_verdict account_verdict_in after_account transfer_verdict_in after_transfer chains_of trial_of chain_results after_chain chains_results after_chains step_outcome step_machine
holds = (refl, refl, refl)
