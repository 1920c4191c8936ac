-- Rows before and after a migration: a tenant's, and all of a ledger.
use Rattle.std.specs.Prelude.{◌≡◌, ℕ}
use Rattle.records.specs.Machine.{Machine}
use Rattle.records.specs.Valid.{IsValid}
use Rattle.std.specs.List.{AllZip}
use Rattle.rows.specs.declared.all_rows.AllRows.{AllRows}
use Rattle.rows.specs.declared.all_rows.TenantOfDigest.{TenantOfDigest}
use Rattle.rows.specs.TypedRows.{lists_of}
use Rattle.audit.specs.Newer.{none_failed}
use Rattle.audit.specs.Sound.{AreRowsOf, AreSound}

-- the same digest, and the rows in the other version of the machine whose rows they were, in which
-- no id has failed
pub record IsMigrated (version to : ℕ) (old new : TenantOfDigest) : Type 0 where
  pub digest : new.digest ≡ old.digest
  pub same :
      (m : Machine) → IsValid m → AreRowsOf version m (lists_of old.rows) →
      AreRowsOf to (none_failed m) (lists_of new.rows)
  pub sound : AreSound to (lists_of new.rows)

-- all rows of a ledger in the other version: the same directory, and so it is of each tenant
pub record AreMigrated (to : ℕ) (old new : AllRows) : Type 0 where
  pub version : new.version ≡ to
  pub directory : new.directory ≡ old.directory
  pub tenants : AllZip (IsMigrated old.version to) old.tenants.items new.tenants.items
