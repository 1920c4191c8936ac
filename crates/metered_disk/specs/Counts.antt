-- What a meter counts.
use Rattle.std.specs.Prelude.{◌-◌, ◌^◌, ℕ, min}

-- a count, which stays at the greatest number that it can be
abbrev pub up_to_most : ℕ → ℕ
up_to_most count = min count (2 ^ 64 - 1)
