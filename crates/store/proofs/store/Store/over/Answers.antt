use Rattle.store.proofs.store.Store.over.Goals as goal

pub returns-clause-usable : goal.returns-clause-usable
returns-clause-usable g c = (λ live. (c.requires live.0).1, λ ready clean. (c.requires clean).0)
