-- What is known of the lists of a valid machine. This module is exported on purpose, to the crates
-- that prove more of such lists: `rows`, `running` and `stored_tables`.
use Rattle.std.proofs.Common.{◌≡◌, ◌≤◌, ◌<◌, ◌+◌, ℕ, List, [], ◌∷◌, ◌++◌, None, arith}
use Rattle.std.specs.List.{All}
use Rattle.std.proofs.lemmas.List.Elements.{All-nil, All-head, All-tail, All-push}
use Rattle.records.specs.declared.account.Account.{Account}
use Rattle.records.specs.declared.side.Side.TheVariants.{Debit, Credit}
use Rattle.records.specs.declared.transfer.Transfer.{Transfer}
use Rattle.records.specs.Machine.{Machine, account_with}
use Rattle.records.specs.Balances.{balances_in, sums_of}
use Rattle.records.specs.Step.{max_clock}
use Rattle.records.specs.Valid.{IsValid}
use Rattle.engine.specs.Promises.{IsAscending}
pub use Rattle.engine.proofs.SoundWithAccount.{account_unknown, nothing_on}
pub use Rattle.engine.proofs.SideLemmas.{by_side}
pub use Rattle.engine.proofs.FindByIdLemmas.{with_key, AreDistinct, here_or_later, not_later, found_key, found_all, found_itself, find_push_some, find_push_none, found_push, absent_other, other_way}
pub use Rattle.engine.proofs.ListSumLemmas.{any_push, sum_same, sum_zero, one_changed}
pub use Rattle.engine.proofs.FateLemmas.{fate_by, any_push_no, ends_none, ends_other, not_due, come_later}
pub use Rattle.engine.proofs.NextTransferLemmas.{NextEntry, NextPostOrVoid, NextSingleOrPending, next_entry_of, next_post_or_void, next_single_or_pending}
pub use Rattle.engine.proofs.IsSound.{EndsPending, IsEntrySound, IsSound}
pub use Rattle.engine.proofs.SoundWithTransfer.{next_is_sound}
pub use Rattle.engine.proofs.Sound.{sound}
pub use Rattle.engine.proofs.BalancesAfterLemmas.{balances_elsewhere}
pub use Rattle.engine.proofs.EntriesOfValid.{beside_others}

-- the clock has not passed its end
pub clock_bound : (m : Machine) → IsValid m → m.clock ≤ max_clock
clock_bound m IsValid.new_tenant = omega arith
clock_bound n (IsValid.later m clock valid le fits) = fits
clock_bound n (IsValid.next_account m account valid next) = clock_bound m valid
clock_bound n (IsValid.next_transfer m entry valid next) = clock_bound m valid
clock_bound n (IsValid.next_failed m id valid next) = clock_bound m valid

-- elements in ascending order of a number
abbrev pub AreAscending : {A : Type 0} → (A → ℕ) → List A → Type 0
AreAscending number [] = Unit {0}
AreAscending number (x ∷ xs) = All (λ y. number x < number y) xs × AreAscending number xs

-- one more behind all of them
ascending_push : {A : Type 0} (number : A → ℕ) (xs : List A) (y : A) → AreAscending number xs → All (λ x. number x < number y) xs → AreAscending number (xs ++ y ∷ [])
ascending_push {A} number [] y ascending below = (All-nil (λ (x : A). number y < number x), tt)
ascending_push {A} number (x ∷ xs) y ascending below = (All-push (λ (z : A). number x < number z) xs y ascending.0 (All-head (λ (z : A). number z < number y) x xs below), ascending_push number xs y ascending.1 (All-tail (λ (z : A). number z < number y) x xs below))

-- accounts and transfers stand in order of their timestamps
pub accounts_ascend : (m : Machine) → IsValid m → AreAscending (λ (a : Account). a.timestamp) m.accounts
accounts_ascend m IsValid.new_tenant = tt
accounts_ascend n (IsValid.later m clock valid le fits) = accounts_ascend m valid
accounts_ascend n (IsValid.next_account m account valid next) = ascending_push (λ (a : Account). a.timestamp) m.accounts account (accounts_ascend m valid) next.timestamp.after_accounts
accounts_ascend n (IsValid.next_transfer m entry valid next) = accounts_ascend m valid
accounts_ascend n (IsValid.next_failed m id valid next) = accounts_ascend m valid

pub transfers_ascend : (m : Machine) → IsValid m → AreAscending (λ (t : Transfer). t.timestamp) m.transfers
transfers_ascend m IsValid.new_tenant = tt
transfers_ascend n (IsValid.later m clock valid le fits) = transfers_ascend m valid
transfers_ascend n (IsValid.next_account m account valid next) = transfers_ascend m valid
transfers_ascend n (IsValid.next_transfer m entry valid next) = ascending_push (λ (t : Transfer). t.timestamp) m.transfers entry (transfers_ascend m valid) next.timestamp.after_transfers
transfers_ascend n (IsValid.next_failed m id valid next) = transfers_ascend m valid

-- and failed ids in order
pub failed_ascend : (m : Machine) → IsValid m → IsAscending m.failed
failed_ascend m valid = (sound m valid).ascending

-- an account that is not there has no balances
part_zero : (pending posted : ℕ) → pending + posted ≡ 0 → (pending ≡ 0) × (posted ≡ 0)
part_zero pending posted h = (omega (arith, h), omega (arith, h))

pub unknown_has_none : (m : Machine) (id : ℕ) → IsSound m → account_with id m.accounts ≡ None → balances_in m id ≡ record { debits = record { pending = 0; posted = 0 }; credits = record { pending = 0; posted = 0 } }
unknown_has_none m id s none =
    let debits = sums_of Debit m.transfers m.clock id in
    let credits = sums_of Credit m.transfers m.clock id in
    let d = part_zero debits.pending debits.posted (nothing_on Debit m id s none) in
    let c = part_zero credits.pending credits.posted (nothing_on Credit m id s none) in
    λ i. record { debits = record { pending = d.0 i; posted = d.1 i }; credits = record { pending = c.0 i; posted = c.1 i } }
