use Rattle.std.proofs.Common.{take}
use Rattle.std.specs.Option.{IfNone}
use Rattle.audit.specs.Damage.{TellsFirst}
use Rattle.audit.proofs.FirstDamage.{AreAllSound}
use Rattle.audit.proofs.checking.first_damage.Given as goal

abbrev pub invariant-loop-tenant : goal.invariant-loop-tenant
invariant-loop-tenant l =
    TellsFirst l.rows.version (take l.tenant-index l.rows.tenants.items) l.first
    × IfNone l.first (AreAllSound l.rows.version (take l.tenant-index l.rows.tenants.items))
