-- What is told of a file of an older version, and asked for by what makes a newer one of it.
use Rattle.std.specs.Prelude.{◌≡◌, ◌↔◌, ℕ, ◌<◌, Bool, List, Option, None, Some, Result, IfSome, IfErr, OnOk, All, IsTrue}
use Rattle.rows.specs.declared.all_rows.AllRows.{AllRows}
use Rattle.rows.specs.declared.all_rows.TenantOfDigest.{TenantOfDigest}
use Rattle.rows.specs.TypedRows.{lists_of}
use Rattle.audit.specs.Damage.{IsFirstDamage}
use Rattle.audit.specs.Sound.{AreSound}
use Rattle.sqlite_trees.specs.declared.store.Store.{Ghosts}
use Rattle.sqlite.specs.Effect.{Database}
use Rattle.sqlite.specs.Held.{Held}
use Rattle.ledger_sql.specs.Calls.{IfClean}
use Rattle.openings.specs.Damage.{IfOpeningDamaged}
use Rattle.openings.specs.Opened.{HasNames, IsSoundIn}
use Rattle.openings.specs.Told.{HasNamesIn}
use Rattle.openings.specs.declared.opening.OpenFault.{OpenFault}
use Rattle.openings.specs.declared.opening.OpenFault.TheVariants.{NotALedger}
use Rattle.migrate.specs.Told.{LacksOlder, TellsOfRows}
use Rattle.migrate.specs.Upgrading.{IsOlder, older_schema}

-- a file is refused unless it is so: as no ledger exactly where other tables are named, as
-- unreadable where it is not so
pub record RefusesUnless (Is : Type 0) (names_other : Bool) (result : Option OpenFault) :
    Type 0 where
  pub is : result ≡ None → Is
  pub named : (result ≡ Some NotALedger) ↔ IsTrue names_other
  pub lacks : IfSome result (λ fault. LacksOlder fault Is names_other)

-- a database has the schema of an older version, tenants with names, and sound rows
pub record IsSoundOlder (version : ℕ) (db : Database) : Type 0 where
  pub schema : db.schema ≡ older_schema version
  pub names : HasNamesIn version db.trees
  pub sound : IsSoundIn version db.trees

-- the rows of an older ledger are audited: answered, tenants have names and sound rows; else it is
-- told that a name is none, or the first damage
pub record AuditsOlder {A : Type 0} (all : AllRows) (result : Result A OpenFault) : Type 0 where
  pub sound :
      OnOk result (All (λ tenant. AreSound all.version (lists_of tenant.rows)) all.tenants.items)
  pub names : OnOk result (HasNames all.directory.items)
  pub damaged :
      IfErr result (λ fault. IfOpeningDamaged fault (IsFirstDamage all.version all.tenants.items))
  pub told : IfErr result (λ fault. TellsOfRows fault all)

-- these are sound rows of tenants in an older version
pub record AreSoundOlder (version : ℕ) (tenants : List TenantOfDigest) : Type 0 where
  pub older : version < 3
  pub sound : All (λ tenant. AreSound version (lists_of tenant.rows)) tenants

-- the connection is to a ledger of this version, which is an older one
pub record CanBeRaised {S : Type 0} (version : ℕ) (store : Ghosts S) (held : Held S) : Type 0 where
  pub less : version < 3
  pub older : IfClean (IsOlder (older_schema version)) store held
