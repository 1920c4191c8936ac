-- What follows of the damage that is told.
use Rattle.std.proofs.Common.{◌≡◌, ℕ, inl, inr, subst}
use Rattle.rows.specs.declared.all_rows.AllRows.{AllRows}
use Rattle.audit.specs.Damage.{IsFirstDamage}
use Rattle.audit.specs.declared.damage.Damage.{Damage}
use Rattle.sqlite_disk.specs.declared.Disk as disk
use Rattle.sqlite_disk.specs.declared.Files.{Files}
use Rattle.sqlite_trees.specs.Tree.{Trees}
use Rattle.sqlite_wal.specs.Reads.{AreClean}
use Rattle.openings.specs.Damage.{HasFirstDamage, Hold, IfOpeningDamaged, IsDamagedIn}
use Rattle.openings.specs.Found.{FilesStay, IsOfLedger}
use Rattle.openings.specs.Told.{IsFaultTold}
use Rattle.openings.specs.Whole.{AreAllRows}
use Rattle.openings.specs.declared.opening.OpenFault.{OpenFault}
use Rattle.openings.specs.declared.opening.OpenFault.TheVariants as fault

-- a fact that follows of each damage
pub if_damaged_more : (told : OpenFault) (P Q : Damage → Type 0)
    → ((damage : Damage) → P damage → Q damage) → IfOpeningDamaged told P → IfOpeningDamaged told Q
if_damaged_more fault.InUse P Q more is = tt
if_damaged_more fault.Unreadable P Q more is = tt
if_damaged_more fault.NotALedger P Q more is = tt
if_damaged_more fault.OldSchema P Q more is = tt
if_damaged_more fault.NewerSchema P Q more is = tt
if_damaged_more (fault.Damaged damage) P Q more is = more damage is
if_damaged_more (fault.Unavailable why) P Q more is = tt

-- of rows that were read it is the first in the database
pub first_of_read : (version v : ℕ) (trees : Trees) (all : AllRows) (damage : Damage)
    → AreAllRows version trees all → v ≡ version → IsFirstDamage v all.tenants.items damage
    → HasFirstDamage version damage trees
first_of_read version v trees all damage read is first = record {
  all = all;
  read = read;
  first = subst (λ (n : ℕ). IsFirstDamage n all.tenants.items damage) is first;
}

-- damage that is told of a ledger is the first in what the files held
pub held_damage : {D : Type 0} (g : disk.Ghosts D) (files left : Files D) (told : OpenFault)
    → AreClean g left.log left.db → IsFaultTold g files told left
    → (IsOfLedger told → FilesStay g files left)
    → IfOpeningDamaged told (λ damage. Hold g files (IsDamagedIn 3 damage))
held_damage g files left fault.InUse clean is stay = tt
held_damage g files left fault.Unreadable clean is stay = tt
held_damage g files left fault.NotALedger clean is stay = tt
held_damage g files left fault.OldSchema clean is stay = tt
held_damage g files left fault.NewerSchema clean is stay = tt
held_damage g files left (fault.Damaged damage) clean (inl (inl none)) stay = absurd (let e = none.1 in cc)
held_damage g files left (fault.Damaged damage) clean (inl (inr other)) stay = absurd (let e = other.0 in cc)
held_damage g files left (fault.Damaged damage) clean (inr found) stay = record {
  honest = (stay tt).honest clean;
  trees = found.db.trees;
  reads = found.there.reads;
  holds = found.there.holds;
  is = found.is.damaged;
}
held_damage g files left (fault.Unavailable why) clean is stay = tt
