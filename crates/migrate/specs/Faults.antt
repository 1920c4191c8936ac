-- What a migration is refused for.
use Rattle.records.specs.declared.unavailable.Unavailable.TheVariants.{Memory, Size}
use Rattle.audit.specs.declared.damage.AuditFault.{AuditFault}
use Rattle.audit.specs.declared.damage.AuditFault.TheVariants as audit
use Rattle.audit.specs.declared.damage.Damage.{Damage}
use Rattle.openings.specs.declared.opening.OpenFault.{OpenFault}
use Rattle.openings.specs.declared.opening.OpenFault.TheVariants as opening
use Rattle.migrate.specs.declared.fault.MigrateFault.{MigrateFault}
use Rattle.migrate.specs.declared.fault.MigrateFault.TheVariants.{NewerSchema, Damaged, Unavailable}

-- what the audit's faults mean
abbrev pub audit_fault : AuditFault → MigrateFault
audit_fault (audit.Damaged damage) = Damaged damage
audit_fault audit.Memory = Unavailable Memory

-- and the upgrade's, which is handed sound rows
abbrev pub upgrade_fault : OpenFault → MigrateFault
upgrade_fault (opening.Unavailable why) = Unavailable why
upgrade_fault (opening.Damaged damage) = Unavailable Size
upgrade_fault opening.InUse = Unavailable Size
upgrade_fault opening.Unreadable = Unavailable Size
upgrade_fault opening.NotALedger = Unavailable Size
upgrade_fault opening.OldSchema = Unavailable Size
upgrade_fault opening.NewerSchema = Unavailable Size

-- a fact of the damage that is told, if it is
abbrev pub IfMigrationDamaged : MigrateFault → (Damage → Type 0) → Type 0
IfMigrationDamaged NewerSchema P = Unit {0}
IfMigrationDamaged (Damaged damage) P = P damage
IfMigrationDamaged (Unavailable why) P = Unit {0}
