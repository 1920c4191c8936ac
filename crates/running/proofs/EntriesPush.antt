-- One entry more behind others.
use Rattle.std.proofs.Common.{◌≡◌, ◌<◌, ℕ, List, [], ◌∷◌, ◌++◌, refl}
use Rattle.std.specs.List.{All}
use Rattle.std.proofs.lemmas.List.Elements.{All-nil, All-head, All-tail, All-push}
use Rattle.records.specs.Machine.{Machine}
use Rattle.rows.specs.Tables.{IsAscendingBy}
use Rattle.running.specs.declared.entry.Entry.{Entry}
use Rattle.running.specs.Entries.{IsNext, AreNext, with_entry, after}

pub after_push : (m : Machine) (entries : List Entry) (entry : Entry) → after m (entries ++ entry ∷ []) ≡ with_entry (after m entries) entry
after_push m [] entry = refl
after_push m (e ∷ es) entry = after_push (with_entry m e) es entry

pub next_push : (m : Machine) (entries : List Entry) (entry : Entry) → AreNext m entries → IsNext (after m entries) entry → AreNext m (entries ++ entry ∷ [])
next_push m [] entry before next = (next, tt)
next_push m (e ∷ es) entry before next = (before.0, next_push (with_entry m e) es entry before.1 next)

pub ascending_push : {A : Type 0} (key : A → ℕ) (xs : List A) (y : A) → IsAscendingBy key xs → All (λ x. key x < key y) xs → IsAscendingBy key (xs ++ y ∷ [])
ascending_push {A} key [] y ascending below = (All-nil (λ (x : A). key y < key x), tt)
ascending_push {A} key (x ∷ xs) y ascending below = (All-push (λ (z : A). key x < key z) xs y ascending.0 (All-head (λ (z : A). key z < key y) x xs below), ascending_push key xs y ascending.1 (All-tail (λ (z : A). key z < key y) x xs below))
