use Rattle.std.proofs.Common.{rules, subst, List}
use Rattle.polling.specs.Ring.{Order, HasTurnNow, IsNextPlace}
use Rattle.polling.specs.declared.ring.Waiting.{Waiting}
use Rattle.polling.proofs.RingLemmas.{has_turn, the_same}
use Rattle.polling.proofs.ring.Ring.turn.Goals as goal

pub returns-clause-some : goal.returns-clause-some
returns-clause-some c =
    let ring = c.self.inside in
    let old : Order = record { waiting = ring.waiting.items; last = ring.last } in
    let place = c.next_place-place.result in
    let next : IsNextPlace old.last old.waiting place =
    subst (λ (waiting : List Waiting). IsNextPlace ring.last waiting place) c.deref.ensures.value
    c.next_place-place.ensures in
    subst
    (λ (was : Order).
    HasTurnNow was c.remove-waiting.result
    (record { waiting = c.remove-waiting.new.self.items; last = c.remove-waiting.result.tenant }))
    (search rules)
    (has_turn old place c.remove-waiting.result c.remove-waiting.new.self.items next
    (the_same old.waiting place c.remove-waiting.result next.next next.at
    c.remove-waiting.ensures.value)
    c.remove-waiting.ensures.items)
