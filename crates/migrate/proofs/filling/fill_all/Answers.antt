use Rattle.migrate.proofs.FillLemmas.{filling_begins, filling_goes_on, filling_lasts}
use Rattle.migrate.proofs.filling.fill_all.Goals as goal

pub loop-row-init : goal.loop-row-init
loop-row-init g c = filling_begins _ c.requires

pub fill_tenant-requires : goal.fill_tenant-requires
fill_tenant-requires g c = filling_lasts _ _ c.requires c.loop-row.invariant

pub loop-row-preserved : goal.loop-row-preserved
loop-row-preserved g c =
    filling_goes_on _ _ _ c.loop-row.invariant c.in_ok-fill_tenant.ensures.ok
    c.fill_tenant.ensures.follows
