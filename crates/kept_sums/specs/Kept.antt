-- What stands in a file of FILE-sums.
use Rattle.std.specs.Prelude.{◌≡◌, ◌≤◌, ℕ, List, length, take, Option, Some}
use Rattle.file_sums.specs.Sums.{Knows}
use Rattle.file_sums.specs.declared.record.Record.{Record}
use Rattle.file_sums.specs.declared.sums.Sums.{Sums}

-- the first `len` bytes are whole, with these records; the newest stands first
pub record HasRecords (all : List ℕ) (sums : Sums) (len : ℕ) (records : List Record) : Type 0 where
  pub long : len ≤ length all
  pub knows : Knows sums records (take len all)

-- so it is of a file whose bytes are known
abbrev pub Keeps : Option (List ℕ) → Sums → ℕ → List Record → Type 0
Keeps bytes sums len records = (all : List ℕ) → bytes ≡ Some all → HasRecords all sums len records
