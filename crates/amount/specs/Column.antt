-- The column of an amount: the bytes under which a store keeps it.
use Rattle.std.specs.Prelude.{◌≡◌, ℕ, ◌<◌, ◌^◌, List}
use Rattle.std.specs.Cmp.Lexicographic.{slice_cmp}
use Rattle.std.specs.Ordering.{nat_cmp}
use Rattle.std.specs.Int.{w128, to_be_bytes}

-- the digits of a number to base 256, the greatest first, sixteen of them
unfoldable pub column_of : ℕ → List ℕ
column_of n = to_be_bytes w128 n

-- no two amounts share a column
abbrev pub IsOneToOne : Type 0
IsOneToOne = (a b : ℕ) → a < 2 ^ 128 → b < 2 ^ 128 → column_of a ≡ column_of b → a ≡ b

-- columns in the order of their bytes are amounts in their order
abbrev pub KeepsOrder : Type 0
KeepsOrder =
    (a b : ℕ)
    → a < 2 ^ 128
    → b < 2 ^ 128
    → slice_cmp nat_cmp (column_of a) (column_of b) ≡ nat_cmp a b
