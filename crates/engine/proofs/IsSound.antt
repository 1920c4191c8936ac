-- What holds in every valid machine, in a form that each step of it keeps.
use Rattle.std.proofs.Common.{◌≡◌, ◌≤◌, ℕ, true, false, eqb, List, [], Some, None, refl, arith}
use Rattle.std.specs.List.{list_any, count_by, All}
use Rattle.std.proofs.lemmas.List.Elements.{All-nil}
use Rattle.records.specs.declared.account.Account.{Account}
use Rattle.records.specs.declared.side.Side.{Side}
use Rattle.records.specs.declared.transfer.Transfer.{Transfer}
use Rattle.records.specs.Flags.{is_pending, is_post_or_void}
use Rattle.records.specs.Sides.{other_side, account_on, limits_side}
use Rattle.records.specs.Machine.{Machine, new_machine, max_amount, account_with, transfer_with, with_failed}
use Rattle.records.specs.Due.{is_due}
use Rattle.records.specs.Fate.{posts, voids}
use Rattle.records.specs.Step.{at_clock}
use Rattle.records.specs.Valid.{IsNextFailed}
use Rattle.engine.specs.Promises.{ends, IsAscending, IsFailedId}
use Rattle.engine.proofs.FindByIdLemmas.{AreDistinct}
use Rattle.engine.proofs.FailedIdsLemmas.{all_with_id, ascending_with_id}
use Rattle.engine.proofs.SideSumLemmas.{posted_in, total_in, pending_total_falls}

-- the pending transfer of a post or void stands in the list, and was open when it was ended
pub record EndsPending (transfers : List Transfer) (e : Transfer) : Type 0 where
  pub pending : Transfer
  pub found : transfer_with e.pending_id transfers ≡ Some pending
  pub pends : is_pending pending.flags ≡ true
  pub account : (side : Side) → account_on side e ≡ account_on side pending
  pub ledger : e.ledger ≡ pending.ledger
  pub fits : e.amount ≤ pending.amount
  pub in_time : is_due e.at pending ≡ false

-- the accounts of an entry are there, differ and have its ledger
pub record IsEntrySound (accounts : List Account) (transfers : List Transfer) (e : Transfer) : Type 0 where
  pub amount : e.amount ≤ max_amount
  pub account : Side → Account
  pub is_account : (side : Side) → account_with (account_on side e) accounts ≡ Some (account side)
  pub ledger : (side : Side) → (account side).ledger ≡ e.ledger
  pub differ : eqb e.debit_account_id e.credit_account_id ≡ false
  pub single : is_post_or_void e.flags ≡ true → is_pending e.flags ≡ false
  pub ended : is_post_or_void e.flags ≡ true → EndsPending transfers e

-- ids are unique and not failed, what is ended stands in the list and is ended once, sums fit and limits are kept
pub record IsSound (m : Machine) : Type 0 where
  pub accounts : AreDistinct (λ (a : Account). a.id) m.accounts
  pub transfers : AreDistinct (λ (t : Transfer). t.id) m.transfers
  pub entries : All (IsEntrySound m.accounts m.transfers) m.transfers
  pub unnamed : (id : ℕ) → transfer_with id m.transfers ≡ None → (list_any (posts id) m.transfers ≡ false) × (list_any (voids id) m.transfers ≡ false)
  pub once : (id : ℕ) → count_by (ends id) m.transfers ≤ 1
  pub sums : (side : Side) (id : ℕ) → total_in side m id ≤ max_amount
  pub limits : (side : Side) (id : ℕ) (a : Account) → account_with id m.accounts ≡ Some a → limits_side side a.flags ≡ true → total_in side m id ≤ posted_in (other_side side) m id
  pub ascending : IsAscending m.failed
  pub failed : All (IsFailedId m.transfers) m.failed

pub sound_new : IsSound new_machine
sound_new = record {
  accounts = tt;
  transfers = tt;
  entries = All-nil (IsEntrySound [] []);
  unnamed = λ id h. (refl, refl);
  once = λ id. omega arith;
  sums = λ side id. omega arith;
  limits = λ side id a h l. omega arith;
  ascending = tt;
  failed = All-nil (IsFailedId []);
}

-- a later clock only lowers pending sums
pub sound_later : (m : Machine) (clock : ℕ) → IsSound m → m.clock ≤ clock → IsSound (at_clock m clock)
sound_later m clock s le =
    let falls = λ (side : Side) (id : ℕ). pending_total_falls m.transfers m.clock clock side id le in
    record {
      accounts = s.accounts;
      transfers = s.transfers;
      entries = s.entries;
      unnamed = s.unnamed;
      once = s.once;
      sums = λ side id. omega (arith, s.sums side id, falls side id);
      limits = λ side id a found limited. omega (arith, s.limits side id a found limited, falls side id);
      ascending = s.ascending;
      failed = s.failed;
    }

-- a failed id changes no list and no sum
pub sound_failed : (m : Machine) (id : ℕ) → IsSound m → IsNextFailed m id → IsSound (with_failed m id)
sound_failed m id s next = record {
  accounts = s.accounts;
  transfers = s.transfers;
  entries = s.entries;
  unnamed = s.unnamed;
  once = s.once;
  sums = s.sums;
  limits = s.limits;
  ascending = ascending_with_id id m.failed s.ascending;
  failed = all_with_id (IsFailedId m.transfers) id m.failed (record { positive = next.positive; below_max = next.below_max; unknown = next.unknown }) s.failed;
}
