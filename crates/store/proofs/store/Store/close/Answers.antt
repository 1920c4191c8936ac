use Rattle.std.proofs.Common.{sym, subst, refl}
use Rattle.store.specs.Stores.{GivesBackAt, IsHonestAt}
use Rattle.store.proofs.store.Store.close.Goals as goal

pub returns-in-Open-clause-back : goal.returns-in-Open-clause-back
returns-in-Open-clause-back g c =
    subst (λ place. GivesBackAt place c.give_back.result) (sym c.in-Open.is) c.give_back.ensures.left

pub returns-in-Open-clause-honest : goal.returns-in-Open-clause-honest
returns-in-Open-clause-honest g c clean =
    subst (λ place. IsHonestAt place) (sym c.in-Open.is) (c.give_back.ensures.honest clean)

pub returns-clause-back : goal.returns-clause-back
returns-clause-back g c = subst (λ place. GivesBackAt place c.in-Shut.files) (sym c.in-Shut.is) refl

pub returns-clause-honest : goal.returns-clause-honest
returns-clause-honest g c clean = subst (λ place. IsHonestAt place) (sym c.in-Shut.is) clean
