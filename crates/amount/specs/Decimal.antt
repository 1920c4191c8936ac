-- The decimal text of an amount.
use Rattle.std.specs.Prelude.{ℕ, ◌≡◌, ◌<◌, ◌⊎◌, List, length, slice_index}
use Rattle.std.specs.Fmt.{decimal}

-- the ASCII codes of a number's digits to base 10: `0` alone, or no zero in front
abbrev pub decimal_of : ℕ → List ℕ
decimal_of n = decimal n

-- a text begins with what a number does without: a `+`, or a `0` in front of more
abbrev pub HasIdleFront : List ℕ → Type 0
HasIdleFront text = (slice_index text 0 ≡ 43) ⊎ ((slice_index text 0 ≡ 48) × (1 < length text))
