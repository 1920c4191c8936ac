-- Which damage an opening tells.
use Rattle.std.specs.Prelude.{◌≡◌, ℕ, ℤ, pos, [], ◌∷◌}
use Rattle.rows.specs.declared.all_rows.AllRows.{AllRows}
use Rattle.audit.specs.Damage.{IsFirstDamage}
use Rattle.audit.specs.declared.damage.Damage.{Damage}
use Rattle.sqlite_disk.specs.declared.Disk as disk
use Rattle.sqlite_disk.specs.declared.Files.{Files}
use Rattle.sqlite_trees.specs.Tree.{Trees}
use Rattle.sqlite_wal.specs.Reads.{AreClean}
use Rattle.sqlite.specs.Files.{HoldsDatabase, AreFoundIn, image_of}
use Rattle.ledger_sql.specs.TableRows.{version_rows}
use Rattle.ledger_sql.specs.Values.{version_values}
use Rattle.openings.specs.Whole.{AreAllRows}
use Rattle.openings.specs.declared.opening.OpenFault.{OpenFault}
use Rattle.openings.specs.declared.opening.OpenFault.TheVariants.{InUse, Unreadable, NotALedger, OldSchema}
use Rattle.openings.specs.declared.opening.OpenFault.TheVariants.{NewerSchema, Damaged, Unavailable}

-- a fact of the damage that is told, if it is
abbrev pub IfOpeningDamaged : OpenFault → (Damage → Type 0) → Type 0
IfOpeningDamaged InUse P = Unit {0}
IfOpeningDamaged Unreadable P = Unit {0}
IfOpeningDamaged NotALedger P = Unit {0}
IfOpeningDamaged OldSchema P = Unit {0}
IfOpeningDamaged NewerSchema P = Unit {0}
IfOpeningDamaged (Damaged damage) P = P damage
IfOpeningDamaged (Unavailable why) P = Unit {0}

-- no damage is told
abbrev pub IsNoDamage : OpenFault → Type 0
IsNoDamage fault = IfOpeningDamaged fault (λ damage. ⊥)

-- of all rows of the database, in this version, this is the first damage
pub record HasFirstDamage (version : ℕ) (damage : Damage) (trees : Trees) : Type 0 where
  pub all : AllRows
  pub read : AreAllRows version trees all
  pub first : IsFirstDamage version all.tenants.items damage

-- the file names this version, and no other
abbrev pub NamesVersion : ℤ → Trees → Type 0
NamesVersion version trees = version_rows trees ≡ version_values version ∷ []

-- so it is of a file that names this version
pub record IsDamagedIn (version : ℕ) (damage : Damage) (trees : Trees) : Type 0 where
  pub named : NamesVersion (pos version) trees
  pub damaged : HasFirstDamage version damage trees

-- the files were honest, and what an opening finds in them is such a database
pub record Hold {D : Type 0} (g : disk.Ghosts D) (files : Files D) (P : Trees → Type 0) :
    Type 0 where
  pub honest : AreClean g files.log files.db
  pub trees : Trees
  pub reads : AreFoundIn (image_of g files) trees
  pub holds : (other : Trees) → HoldsDatabase (image_of g files) other → trees ≡ other
  pub is : P trees
