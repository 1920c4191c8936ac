use Rattle.whole_runs.proofs.SameRowsLemmas.{stores_isolate, stores_stay}
use Rattle.whole_runs.proofs.isolation.stores_are_isolated.Goals as goal

pub returns-clause-alike : goal.returns-clause-alike
returns-clause-alike g c =
    stores_isolate g.D.Disk g.E.Disk c.held_machines.ensures c.tenants_are_isolated.ensures

pub returns-clause-unmoved : goal.returns-clause-unmoved
returns-clause-unmoved g c = stores_stay g.D.Disk c.held_machines.ensures
