use Rattle.std.proofs.Common.{◌≡◌, ◌++◌}
use Rattle.std.specs.List.{AllZip}
use Rattle.std.specs.Vec.Iter.{into_iter_items}
use Rattle.migrate.specs.Migrated.{IsMigrated}
use Rattle.migrate.proofs.newer.tenants_in_version.Given as goal

-- those that were seen are migrated
abbrev pub invariant-loop-tenant : goal.invariant-loop-tenant
invariant-loop-tenant l =
    (goal.iterator-loop-tenant).can_next l.tenant-iterator
    × (goal.iterator-loop-tenant).is_finite l.tenant-iterator
    × ((l.yielded ++ into_iter_items l.tenant-iterator) ≡ l.fn.tenants.items)
    × AllZip (IsMigrated l.version l.to) l.yielded l.newer.items
