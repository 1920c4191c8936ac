-- Ids brought into ascending order are the same ids.
use Rattle.std.proofs.Common.{◌≡◌, ℕ, Bool, true, false, ◌||◌, nat_lt, ◌==◌, if◌then◌else◌, List}
use Rattle.std.proofs.Common.{[], ◌∷◌, refl, ◌∙◌, ap}
use Rattle.std.proofs.lemmas.Bool.{eqb-true}
use Rattle.records.specs.Machine.{has_id, with_id}
use Rattle.plain.specs.PlainTables.{ascending, ascending_behind}

once : (a b : Bool) → (a || b) ≡ (a || (a || b))
once true b = refl
once false b = refl

swapped : (a b c : Bool) → (a || (b || c)) ≡ (b || (a || c))
swapped true true c = refl
swapped true false c = refl
swapped false true c = refl
swapped false false c = refl

regrouped : (a b c : Bool) → ((a || b) || c) ≡ (b || (a || c))
regrouped true true c = refl
regrouped true false c = refl
regrouped false true c = refl
regrouped false false c = refl

or_false : (a : Bool) → a ≡ (a || false)
or_false true = refl
or_false false = refl

-- an id brought in before, at or behind the first one
brought_in :
    (id x other : ℕ) (ids : List ℕ) (before same : Bool) → (x == other) ≡ same →
    has_id id (with_id x ids) ≡ ((x == id) || has_id id ids) →
    has_id id (if before then x ∷ other ∷ ids else if same then other ∷ ids else other ∷ with_id x
    ids) ≡ ((x == id) || ((other == id) || has_id id ids))
brought_in id x other ids true same is later = refl
brought_in id x other ids false true is later =
    rw (eqb-true x other is) (once (other == id) (has_id id ids))
brought_in id x other ids false false is later =
    ap (λ b. (other == id) || b) later ∙ swapped (other == id) (x == id) (has_id id ids)

has_with_id : (id x : ℕ) (ids : List ℕ) → has_id id (with_id x ids) ≡ ((x == id) || has_id id ids)
has_with_id id x [] = refl
has_with_id id x (other ∷ ids) =
    brought_in id x other ids (nat_lt x other) (x == other) refl (has_with_id id x ids)

has_behind :
    (id : ℕ) (ids more : List ℕ) →
    has_id id (ascending_behind ids more) ≡ (has_id id ids || has_id id more)
has_behind id ids [] = or_false (has_id id ids)
has_behind id ids (x ∷ more) =
    has_behind id (with_id x ids) more
    ∙ ap (λ b. b || has_id id more) (has_with_id id x ids)
    ∙ regrouped (x == id) (has_id id ids) (has_id id more)

pub has_ascending : (id : ℕ) (ids : List ℕ) → has_id id (ascending ids) ≡ has_id id ids
has_ascending id ids = has_behind id [] ids
