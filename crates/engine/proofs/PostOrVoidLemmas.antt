-- What a post or void takes from its pending transfer, and that it takes the same when it is sent with that.
use Rattle.std.proofs.Common.{◌≡◌, ◌≤◌, ℕ, Bool, true, false, not, ◌&&◌, eqb, ltb, cond, refl, arith}
use Rattle.std.proofs.lemmas.Bool.Decides.{nat_tests}
use Rattle.records.specs.StoredRecord.{given_or}
use Rattle.records.specs.TransferVerdict.{is_given_otherwise}

-- the amounts that a post or void asks for and moves, by its two flags
abbrev pub asked : ℕ → Bool → ℕ → ℕ → ℕ
asked limit post pending amount = cond post (cond (eqb amount limit) pending amount) amount

abbrev pub ended : ℕ → Bool → Bool → ℕ → ℕ → ℕ
ended limit void post pending amount = cond void pending (asked limit post pending amount)

-- a given field, taken once and twice
pub given_same : (pending given : ℕ) → is_given_otherwise given pending ≡ false → given_or pending given ≡ pending
given_same pending given h = grind (arith, nat_tests)

pub given_twice : (pending given : ℕ) → given_or pending (given_or pending given) ≡ given_or pending given
given_twice pending given = grind (arith, nat_tests)

pub given_again : (pending given : ℕ) → is_given_otherwise given pending ≡ false → is_given_otherwise (given_or pending given) pending ≡ false
given_again pending given h = grind (arith, nat_tests)

-- an amount, taken once and twice
pub asked_twice : (limit : ℕ) (post : Bool) (pending amount : ℕ) → pending ≤ limit → ltb pending (asked limit post pending amount) ≡ false → asked limit post pending (asked limit post pending amount) ≡ asked limit post pending amount
asked_twice limit true pending amount fits h = grind (arith, nat_tests)
asked_twice limit false pending amount fits h = refl

pub ended_twice : (limit : ℕ) (void post : Bool) (pending amount : ℕ) → pending ≤ limit → ltb pending (asked limit post pending amount) ≡ false → ended limit void post pending (ended limit void post pending amount) ≡ ended limit void post pending amount
ended_twice limit true post pending amount fits h = refl
ended_twice limit false post pending amount fits h = asked_twice limit post pending amount fits h

asked_whole : (limit : ℕ) (post : Bool) (pending : ℕ) → asked limit post pending pending ≡ pending
asked_whole limit true pending = grind (arith, nat_tests)
asked_whole limit false pending = refl

-- the amount moved is at most the pending amount
pub ended_fits : (limit : ℕ) (void post : Bool) (pending amount : ℕ) → ltb pending (asked limit post pending amount) ≡ false → ended limit void post pending amount ≤ pending
ended_fits limit void post pending amount h = grind (arith, nat_tests)

-- sent again, it is not too much
pub ended_again : (limit : ℕ) (void post : Bool) (pending amount : ℕ) → pending ≤ limit → ltb pending (asked limit post pending amount) ≡ false → ltb pending (asked limit post pending (ended limit void post pending amount)) ≡ false
ended_again limit true post pending amount fits h = rw (asked_whole limit post pending) (grind (arith, nat_tests))
ended_again limit false post pending amount fits h = rw (asked_twice limit post pending amount fits h) h

-- and a void takes the whole pending amount
pub void_whole : (limit : ℕ) (void post : Bool) (pending amount : ℕ) → (void && not (eqb (ended limit void post pending amount) 0) && ltb (ended limit void post pending amount) pending) ≡ false
void_whole limit true post pending amount = grind (arith, nat_tests)
void_whole limit false post pending amount = refl
