-- The latest clock in a file.
use Rattle.std.specs.Prelude.{ℕ, ℤ, pos, negsuc, max, List, [], ◌∷◌}
use Rattle.rows.specs.declared.all_rows.AllRows.{AllRows}
use Rattle.rows.specs.declared.all_rows.TenantOfDigest.{TenantOfDigest}

-- a clock as it stands in a row, which is negative in no sound one
abbrev pub number : ℤ → ℕ
number (pos n) = n
number (negsuc n) = 0

-- the latest of a clock and of these
abbrev pub latest_in : ℕ → List ℤ → ℕ
latest_in clock [] = clock
latest_in clock (other ∷ clocks) = latest_in (max clock (number other)) clocks

-- the same of the clocks of tenants
abbrev pub latest_of : ℕ → List TenantOfDigest → ℕ
latest_of clock [] = clock
latest_of clock (tenant ∷ tenants) = latest_of (latest_in clock tenant.rows.clocks.items) tenants

-- the latest of all
abbrev pub latest_clock : AllRows → ℕ
latest_clock rows = latest_of 0 rows.tenants.items
