use Rattle.store.specs.StoreLaws.{finds_itself}
use Rattle.whole_runs.proofs.FoundNames.{finds_own}
use Rattle.whole_runs.proofs.stored.InUseStoreReopening.is_settled.Goals as goal

pub returns : goal.returns
returns g c = rw (← c.self.view_is) (record {
  machines = λ live. finds_itself c.self.inside.backend c.is_settled.ensures c.self.invariant live.0;
  names = λ live. finds_own c.self.inside.backend c.is_settled.ensures c.self.invariant live.0;
  named = λ live. c.are_named.ensures live.0;
})
