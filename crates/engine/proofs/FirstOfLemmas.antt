-- Tables of results of which no row holds.
use Rattle.std.proofs.Common.{◌≡◌, Bool, true, false, List, [], ◌∷◌, Option, Some, None, refl, arith, cond}
use Rattle.records.specs.FirstOf.{first_of, or_else}

-- no row's condition holds
abbrev pub AllFail : {A : Type 0} → List (Bool × A) → Type 0
AllFail [] = Unit {0}
AllFail (row ∷ rows) = (row.0 ≡ false) × AllFail rows

cond_none : {A : Type 0} (b : Bool) (x : A) (rest : Option A) → cond b (Some x) rest ≡ None → (b ≡ false) × (rest ≡ None)
cond_none true x rest h = grind arith
cond_none false x rest h = (refl, h)

-- a table without an answer, row by row
pub all_fail : {A : Type 0} (rows : List (Bool × A)) → first_of rows ≡ None → AllFail rows
all_fail [] h = tt
all_fail (row ∷ rows) h = let c = cond_none row.0 row.1 (first_of rows) h in (c.0, all_fail rows c.1)

-- a table whose rows all fail has no answer
pub none_from_all_fail : {A : Type 0} (rows : List (Bool × A)) → AllFail rows → first_of rows ≡ None
none_from_all_fail [] h = refl
none_from_all_fail (row ∷ rows) h = rw h.0 (none_from_all_fail rows h.1)

-- two tables without an answer
pub or_else-none : {A : Type 0} (first next : Option A) → or_else first next ≡ None → (first ≡ None) × (next ≡ None)
or_else-none None next h = (refl, h)
or_else-none (Some x) next h = grind arith

-- nor have two tables without one
pub or_else-from_none : {A : Type 0} (first next : Option A) → first ≡ None → next ≡ None → or_else first next ≡ None
or_else-from_none first next f n = rw f n
