-- What a call that audits an older ledger is refused for.
use Rattle.std.proofs.Common.{◌≡◌, ℕ, Result, Err, sym, ◌∙◌}
use Rattle.records.specs.declared.unavailable.Unavailable.{Unavailable}
use Rattle.records.specs.declared.unavailable.Unavailable.TheVariants.{Memory, Size}
use Rattle.rows.specs.declared.all_rows.AllRows.{AllRows}
use Rattle.sqlite.specs.State.{State, HasCleanDisk}
use Rattle.audit.specs.Damage.{IsFirstDamage, IfDamaged as IfAuditDamaged}
use Rattle.audit.specs.declared.damage.AuditFault.{AuditFault}
use Rattle.audit.specs.declared.damage.AuditFault.TheVariants as audit
use Rattle.openings.specs.DamageLaws.{first_of_read}
use Rattle.openings.specs.Whole.{AreAllRows}
use Rattle.openings.specs.declared.opening.OpenFault.{OpenFault}
use Rattle.openings.specs.declared.opening.OpenFault.TheVariants as opening
use Rattle.migrate.specs.Faults.{audit_fault, upgrade_fault}
use Rattle.migrate.specs.Migrating.{LeavesAudited}
use Rattle.migrate.specs.declared.fault.MigrateFault.{MigrateFault}
use Rattle.migrate.specs.declared.fault.MigrateFault.TheVariants as fault

module _ {T : Type 0} {version : ℕ} {a b : State} {r : Result T MigrateFault} where
  -- that the store is unavailable tells of no version and of no damage
  pub refused_by_cause : (why : Unavailable) → r ≡ Err (fault.Unavailable why) → LeavesAudited version a b r
  refused_by_cause why is = record {
    no_newer = λ newer. let e = sym is ∙ newer in cc;
    damaged = λ clean. rw is tt;
    sound = λ clean. rw is tt;
  }

  -- and an upgrade tells nothing else
  pub refused_by_upgrade : (cause : OpenFault) → r ≡ Err (upgrade_fault cause) → LeavesAudited version a b r
  refused_by_upgrade (opening.Unavailable why) is = refused_by_cause why is
  refused_by_upgrade cause is = refused_by_cause Size is

  -- an audit tells of the first damage of what was read
  pub refused_by_audit : (cause : AuditFault) (v : ℕ) (all : AllRows) → r ≡ Err (audit_fault cause) → v ≡ version
      → IfAuditDamaged cause (IsFirstDamage v all.tenants.items)
      → (HasCleanDisk b → AreAllRows version a.now.trees all) → LeavesAudited version a b r
  refused_by_audit (audit.Damaged damage) v all is same first read = record {
    no_newer = λ newer. let e = sym is ∙ newer in cc;
    damaged = λ clean. rw is (first_of_read version v a.now.trees all damage (read clean) same first);
    sound = λ clean. rw is tt;
  }
  refused_by_audit audit.Memory v all is same first read = refused_by_cause Memory is
