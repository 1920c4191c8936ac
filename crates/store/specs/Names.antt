-- The names of a store's tenants.
use Rattle.std.specs.Prelude.{◌≡◌, ◌≢◌, ℕ, List, [], Some, None, unwrap_or}
use Rattle.sqlite_disk.specs.declared.Disk as disk
use Rattle.chain.specs.Ledgers.{Tenants}
use Rattle.stored_ledgers.specs.Names.{Names, names_in}
use Rattle.openings.specs.OpenTables.{open_state}
use Rattle.store.specs.declared.place.Place.{Place}
use Rattle.store.specs.declared.place.Place.TheVariants as at
use Rattle.store.specs.declared.store.Store.{Store}
use Rattle.store.specs.Stores.{FindsBy}

-- each name goes together with the digest of a tenant, and each tenant's digest with one name
pub record AreNamed (names : Names) (tenants : Tenants) : Type 0 where
  pub there : (name digest : List ℕ) → names name ≡ Some digest → tenants digest ≢ None
  pub all : (digest : List ℕ) → tenants digest ≢ None
      → (name : List ℕ) × (names name ≡ Some digest)
  pub one :
      (name other digest : List ℕ) → names name ≡ Some digest → names other ≡ Some digest →
      other ≡ name

module _ {D : Type 0} {g : disk.Ghosts D} where
  abbrev pub names_at : Place D g → Names
  names_at (at.Open tables) = names_in (open_state tables).now.trees
  names_at (at.Shut files) = λ name. None

  -- the digest of the tenant with each name, if there is one
  abbrev pub names_of : Store D g → Names
  names_of store = names_at store.place

  -- the digest of whoever has this name, or no bytes where nobody has it
  abbrev pub digest_named : Store D g → List ℕ → List ℕ
  digest_named store name = unwrap_or (names_of store name) []

  -- the names in a database that an opening may find
  abbrev pub FindsNames : Store D g → Names → Type 0
  FindsNames = FindsBy names_in
