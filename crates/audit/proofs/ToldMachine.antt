-- The machine that the entries lead to has just these entries.
use Rattle.std.proofs.Common.{◌≡◌, ◌≤◌, ℕ, Bool, true, false, leb, cond, ◌&&◌, List, [], ◌∷◌, ◌++◌, append-nil, append_assoc, map, refl, sym, ap, ◌∙◌, subst, arith}
use Rattle.std.specs.List.Sorted.{IsPermutation}
use Rattle.std.proofs.lemmas.Bool.Decides.{nat_tests}
use Rattle.std.proofs.lemmas.List.Sorted.{IsPermutation-refl, IsPermutation-sym, IsPermutation-trans, IsPermutation-append_left, IsPermutation-append_right, IsPermutation-append_comm}
use Rattle.records.specs.declared.account.Account.{Account}
use Rattle.records.specs.declared.transfer.Transfer.{Transfer}
use Rattle.records.specs.Machine.{Machine, new_machine}
use Rattle.records.specs.Step.{at_clock, max_clock}
use Rattle.rows.specs.TypedRows.{TypedRows}
use Rattle.running.specs.declared.entry.Entry.{Entry}
use Rattle.running.specs.declared.entry.Entry.TheVariants.{Opened, Moved}
use Rattle.running.specs.Entries.{time_of, CanCome, with_entry, after, machine_of}
use Rattle.audit.specs.Order.{placed, in_order}
use Rattle.audit.specs.Told.{entries_told, told_at, machine_told}

-- what is picked of each entry
abbrev picked : {A : Type 0} → (Entry → List A) → List Entry → List A
picked pick [] = []
picked pick (e ∷ es) = pick e ++ picked pick es

swapped : {A : Type 0} (us vs ws : List A) → IsPermutation (us ++ (vs ++ ws)) (vs ++ (us ++ ws))
swapped us vs ws =
    subst (λ xs. IsPermutation xs (vs ++ (us ++ ws))) (append_assoc us vs ws)
    (subst (λ ys. IsPermutation ((us ++ vs) ++ ws) ys) (append_assoc vs us ws) (IsPermutation-append_left ws (us ++ vs) (vs ++ us) (IsPermutation-append_comm us vs)))

-- in any order
picked_first : {A : Type 0} (pick : Entry → List A) (here : Bool) (e x : Entry) (xs rest : List Entry) → IsPermutation (pick e ++ picked pick xs) (picked pick rest) → IsPermutation (pick e ++ picked pick (x ∷ xs)) (picked pick (cond here (e ∷ x ∷ xs) (x ∷ rest)))
picked_first pick true e x xs rest same = IsPermutation-refl (pick e ++ (pick x ++ picked pick xs))
picked_first pick false e x xs rest same =
    IsPermutation-trans (pick e ++ (pick x ++ picked pick xs)) (pick x ++ (pick e ++ picked pick xs)) (pick x ++ picked pick rest) (swapped (pick e) (pick x) (picked pick xs))
    (IsPermutation-append_right (pick x) (pick e ++ picked pick xs) (picked pick rest) same)

picked_placed : {A : Type 0} (pick : Entry → List A) (e : Entry) (es : List Entry) → IsPermutation (pick e ++ picked pick es) (picked pick (placed time_of e es))
picked_placed pick e [] = IsPermutation-refl (pick e ++ [])
picked_placed pick e (x ∷ xs) = picked_first pick (leb (time_of e) (time_of x)) e x xs (placed time_of e xs) (picked_placed pick e xs)

picked_in_order : {A : Type 0} (pick : Entry → List A) (es : List Entry) → IsPermutation (picked pick es) (picked pick (in_order time_of es))
picked_in_order pick [] = IsPermutation-refl []
picked_in_order pick (e ∷ es) =
    IsPermutation-trans (pick e ++ picked pick es) (pick e ++ picked pick (in_order time_of es)) (picked pick (placed time_of e (in_order time_of es)))
    (IsPermutation-append_right (pick e) (picked pick es) (picked pick (in_order time_of es)) (picked_in_order pick es)) (picked_placed pick e (in_order time_of es))

-- accounts and transfers
abbrev opened : Entry → List Account
opened (Opened account) = account ∷ []
opened (Moved transfer) = []

abbrev moved : Entry → List Transfer
moved (Opened account) = []
moved (Moved transfer) = transfer ∷ []

opened_stored : (accounts : List Account) (transfers : List Transfer) → picked opened (map Opened accounts ++ map Moved transfers) ≡ accounts
opened_stored [] [] = refl
opened_stored [] (t ∷ ts) = opened_stored [] ts
opened_stored (a ∷ rest) transfers = ap (λ xs. a ∷ xs) (opened_stored rest transfers)

moved_stored : (accounts : List Account) (transfers : List Transfer) → picked moved (map Opened accounts ++ map Moved transfers) ≡ transfers
moved_stored [] [] = refl
moved_stored [] (t ∷ ts) = ap (λ xs. t ∷ xs) (moved_stored [] ts)
moved_stored (a ∷ rest) transfers = moved_stored rest transfers

accounts_after : (m : Machine) (es : List Entry) → (after m es).accounts ≡ m.accounts ++ picked opened es
accounts_after m [] = sym (append-nil m.accounts)
accounts_after m (Opened a ∷ es) = accounts_after (with_entry m (Opened a)) es ∙ append_assoc m.accounts (a ∷ []) (picked opened es)
accounts_after m (Moved t ∷ es) = accounts_after (with_entry m (Moved t)) es

transfers_after : (m : Machine) (es : List Entry) → (after m es).transfers ≡ m.transfers ++ picked moved es
transfers_after m [] = sym (append-nil m.transfers)
transfers_after m (Opened a ∷ es) = transfers_after (with_entry m (Opened a)) es
transfers_after m (Moved t ∷ es) = transfers_after (with_entry m (Moved t)) es ∙ append_assoc m.transfers (t ∷ []) (picked moved es)

-- the clock that is told, where the machine can come to it
both_true : (a b : ℕ) (c d : ℕ) → a ≤ b → c ≤ d → (leb a b && leb c d) ≡ true
both_true a b c d first second = grind (arith, nat_tests)

pub told_clock : (m : Machine) (clock : ℕ) → CanCome m clock → told_at m clock ≡ at_clock m clock
told_clock m clock can = ap (λ (b : Bool). cond b (at_clock m clock) m) (both_true m.clock clock clock max_clock can.later can.bounded)

lists_kept : (m : Machine) (here : Bool) (clock : ℕ) → ((cond here (at_clock m clock) m).accounts ≡ m.accounts) × ((cond here (at_clock m clock) m).transfers ≡ m.transfers)
lists_kept m true clock = (refl, refl)
lists_kept m false clock = (refl, refl)

-- so it has the accounts and transfers that are told
in_machine : TypedRows → Bool
in_machine told = leb (machine_of (entries_told told)).clock told.clock && leb told.clock max_clock

picked_told : {A : Type 0} (pick : Entry → List A) (told : TypedRows) (mine stored : List A) → mine ≡ picked pick (entries_told told) → picked pick (map Opened told.accounts ++ map Moved told.transfers) ≡ stored → IsPermutation mine stored
picked_told pick told mine stored has is =
    let entries = map Opened told.accounts ++ map Moved told.transfers in
    subst (λ xs. IsPermutation xs stored) (sym has)
    (IsPermutation-sym stored (picked pick (entries_told told)) (subst (λ xs. IsPermutation xs (picked pick (entries_told told))) is (picked_in_order pick entries)))

pub accounts_told : (told : TypedRows) → IsPermutation (machine_told told).accounts told.accounts
unfolding in_machine
accounts_told told =
    let kept = lists_kept (machine_of (entries_told told)) (in_machine told) told.clock in
    picked_told opened told (machine_told told).accounts told.accounts (kept.0 ∙ accounts_after new_machine (entries_told told)) (opened_stored told.accounts told.transfers)

pub transfers_told : (told : TypedRows) → IsPermutation (machine_told told).transfers told.transfers
unfolding in_machine
transfers_told told =
    let kept = lists_kept (machine_of (entries_told told)) (in_machine told) told.clock in
    picked_told moved told (machine_told told).transfers told.transfers (kept.1 ∙ transfers_after new_machine (entries_told told)) (moved_stored told.accounts told.transfers)
