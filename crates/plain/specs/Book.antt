-- The tenants of a book, each known by its digest.
use Rattle.std.specs.Prelude.{◌≡◌, ◌≢◌, ℕ, Bool, List, Option, Some, IsNone}
use Rattle.std.specs.List.{find}
use Rattle.std.specs.Option.{option_map}
use Rattle.std.specs.Str.{bytes_eq}
use Rattle.records.specs.Machine.{Machine}
use Rattle.chain.specs.Tables.{State}
use Rattle.plain.specs.declared.book.Tenant.{Tenant}

-- whether the tenant is known by this digest
abbrev pub has_digest : List ℕ → Tenant → Bool
has_digest digest tenant = bytes_eq tenant.digest digest

-- what the tables of the tenant with this digest mean
abbrev pub state_with : List ℕ → List Tenant → Option State
state_with digest tenants = option_map (λ tenant. tenant.tables) (find (has_digest digest) tenants)

-- the machine of the tenant with this digest
abbrev pub machine_with : List ℕ → List Tenant → Option Machine
machine_with digest tenants = option_map (λ state. state.now) (state_with digest tenants)

-- a tenant with the same digest and the same machine
pub record IsCopy (tenant copy : Tenant) : Type 0 where
  pub digest : copy.digest ≡ tenant.digest
  pub machine : copy.tables.now ≡ tenant.tables.now

-- a tenant has come, or has changed its tables, and every other tenant's are as they were
pub record ChangesOne (digest : List ℕ) (state : State) (old new : List Tenant) : Type 0 where
  pub own : state_with digest new ≡ Some state
  pub others : (other : List ℕ) → other ≢ digest → state_with other new ≡ state_with other old

-- whoever was known by one digest is known by another one, and every other tenant's tables are as
-- they were
pub record IsRekeyed (was digest : List ℕ) (old new : List Tenant) : Type 0 where
  pub has : state_with digest new ≡ state_with was old
  pub gone : was ≢ digest → IsNone (state_with was new)
  pub others :
      (other : List ℕ) → other ≢ was → other ≢ digest →
      state_with other new ≡ state_with other old
