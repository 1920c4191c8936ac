-- The rows of a valid machine can be read, and tell of it.
use Rattle.std.proofs.Common.{◌≡◌, ◌<◌, ◌^◌, ℕ, zero, suc, List, [], ◌∷◌, map, Option, Some, None, inl, inr, refl, sym, ap, subst}
use Rattle.std.specs.List.{All}
use Rattle.std.proofs.lemmas.List.Elements.{All-nil, All-head, All-tail}
use Rattle.std.proofs.lemmas.List.Sorted.{All-permutation}
use Rattle.records.specs.declared.facts.PendingState.{PendingState}
use Rattle.records.specs.declared.facts.PendingState.TheVariants.{Open, Posted, Voided, Expired}
use Rattle.rows.specs.Cells.{account_cells, transfer_cells, status_cells, history_cells}
use Rattle.rows.specs.SameRows.{AreSameRows}
use Rattle.rows.specs.StatusNumbers.{state_number, due_number}
use Rattle.rows.specs.TypedRows.{TypedRows, FileRows, cells_of}
use Rattle.rows.specs.Widths.{AreStorable, IsStorableAccount, IsStorableTransfer, IsStorableBalance, IsStorableStatus, IsStorableHistory}
use Rattle.audit.specs.Order.{IsBadRow}
use Rattle.audit.specs.Shapes.{IsNatural, IsAccountRow, IsTransferRow, IsStatusRow, IsHistoryRow, IsMisshapen}
use Rattle.audit.specs.Told.{TellsRows}

-- rows in another order fit a file too
pub storable : (xs ys : TypedRows) → AreSameRows xs ys → AreStorable xs → AreStorable ys
storable xs ys same fit = record {
  clock = subst (λ (n : ℕ). n < 2 ^ 63) same.clock fit.clock;
  accounts = All-permutation IsStorableAccount xs.accounts ys.accounts same.accounts fit.accounts;
  transfers = All-permutation IsStorableTransfer xs.transfers ys.transfers same.transfers fit.transfers;
  balances = All-permutation IsStorableBalance xs.balances ys.balances same.balances fit.balances;
  statuses = All-permutation IsStorableStatus xs.statuses ys.statuses same.statuses fit.statuses;
  history = All-permutation IsStorableHistory xs.history ys.history same.history fit.history;
  failed = All-permutation (λ (id : ℕ). id < 2 ^ 128) xs.failed ys.failed same.failed fit.failed;
}

-- what typed rows tell
abbrev pub told_of : TypedRows → TypedRows
told_of typed = record typed { balances = []; statuses = []; history = [] }

pub tells_typed : (typed : TypedRows) (rows : FileRows) → cells_of typed ≡ rows → AreStorable typed → TellsRows rows (told_of typed)
tells_typed typed rows cells fit = record {
  fits = record {
    clock = fit.clock;
    accounts = fit.accounts;
    transfers = fit.transfers;
    balances = All-nil IsStorableBalance;
    statuses = All-nil IsStorableStatus;
    history = All-nil IsStorableHistory;
    failed = fit.failed;
  };
  cells = λ i. record (cells i) { balances = []; statuses = []; history = [] };
}

-- where a fact holds of all rows none is bad
pub none_bad : {A B : Type 0} (f : A → B) (P : A → Type 0) (Q : B → Type 0) → ((x : A) → P x → Q (f x)) → (xs : List A) → All P xs → (place : ℕ) → IsBadRow Q (map f xs) place → ⊥
none_bad f P Q step [] all place bad = bad
none_bad f P Q step (x ∷ xs) all zero bad = bad (step x (All-head P x xs all))
none_bad f P Q step (x ∷ xs) all (suc place) bad = none_bad f P Q step xs (All-tail P x xs all) place bad

none_bad_of : {A B : Type 0} (f : A → B) (P : A → Type 0) (Q : B → Type 0) → ((x : A) → P x → Q (f x)) → (xs : List A) (ys : List B) → map f xs ≡ ys → All P xs → (place : ℕ) → IsBadRow Q ys place → ⊥
none_bad_of f P Q step xs ys same all place bad = none_bad f P Q step xs all place (subst (λ zs. IsBadRow Q zs place) (sym same) bad)

state_natural : (state : PendingState) → IsNatural (state_number state)
state_natural Open = (0, refl)
state_natural Posted = (1, refl)
state_natural Voided = (2, refl)
state_natural Expired = (3, refl)

due_natural : (due : Option ℕ) → IsNatural (due_number due)
due_natural None = (0, refl)
due_natural (Some due) = (due, refl)

pub well_shaped : (typed : TypedRows) (rows : FileRows) → cells_of typed ≡ rows → AreStorable typed → (place : ℕ) → IsMisshapen rows place → ⊥
well_shaped typed rows cells fit place (inl wrong) = wrong.1 (typed.clock, ap (λ (r : FileRows). r.clocks) (sym cells))
well_shaped typed rows cells fit place (inr (inl (inl bad))) =
    none_bad_of account_cells IsStorableAccount IsAccountRow (λ a fits. (a, fits, refl)) typed.accounts rows.accounts (ap (λ (r : FileRows). r.accounts) cells) fit.accounts place bad
well_shaped typed rows cells fit place (inr (inl (inr bad))) =
    none_bad_of transfer_cells IsStorableTransfer IsTransferRow (λ t fits. (t, fits, refl)) typed.transfers rows.transfers (ap (λ (r : FileRows). r.transfers) cells) fit.transfers place bad
well_shaped typed rows cells fit place (inr (inr (inl bad))) =
    none_bad_of status_cells IsStorableStatus IsStatusRow (λ s fits. (state_natural s.state, due_natural s.due)) typed.statuses rows.statuses (ap (λ (r : FileRows). r.statuses) cells) fit.statuses place bad
well_shaped typed rows cells fit place (inr (inr (inr bad))) =
    none_bad_of history_cells IsStorableHistory IsHistoryRow (λ h fits. (h.timestamp, refl)) typed.history rows.history (ap (λ (r : FileRows). r.history) cells) fit.history place bad
