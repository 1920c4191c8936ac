-- A word on an `Either`.
use Rattle.either.specs.declared.Either.{Either}
use Rattle.either.specs.declared.Either.TheVariants.{Left, Right}

-- what holds at each side holds of all
abbrev pub by_side : {L R : Type 0} (P : Either L R → Type 0) → ((x : L) → P (Left x)) →
    ((y : R) → P (Right y)) → (e : Either L R) → P e
by_side P f g (Left x) = f x
by_side P f g (Right y) = g y
