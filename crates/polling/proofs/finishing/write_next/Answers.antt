use Rattle.std.proofs.Common.{refl}
use Rattle.polling.specs.Seating.{held_by}
use Rattle.polling.proofs.AllLemmas.{nothing_done, serves_all}
use Rattle.polling.proofs.TurnLemmas.{turn_told}
use Rattle.polling.proofs.finishing.write_next.Goals as goal

pub returns-in-Joined-clause-turn : goal.returns-in-Joined-clause-turn
returns-in-Joined-clause-turn g c is moments =
    turn_told c.told.result c.told.new.self c.told.ensures
    (λ first keeps stand.
    serves_all (c.turn_away.ensures c.args.ledgers.now moments) first keeps)

pub returns-in-Ready-clause-turn : goal.returns-in-Ready-clause-turn
returns-in-Ready-clause-turn g c is moments =
    turn_told c.told.result c.told.new.self c.told.ensures
    (λ first keeps stand. c.write_one.ensures moments first keeps)

pub returns-in-Late-clause-turn : goal.returns-in-Late-clause-turn
returns-in-Late-clause-turn g c is moments =
    turn_told c.told.result c.told.new.self c.told.ensures
    (rw c.in-Late.is
    (λ first keeps late.
    let did = c.let_go.ensures c.args.ledgers.now moments first keeps late in
    (did.deeds, did.last, did.leads, did.keeps, did.count)))

pub returns-in-Nothing-clause-quiet : goal.returns-in-Nothing-clause-quiet
returns-in-Nothing-clause-quiet g c is moments = record {
  before = held_by c.args.ledgers.now moments c.args.peers.now c.args.seats.now;
  served = nothing_done;
  said = c.in-Nothing.ensures;
  same = refl {a = held_by c.args.ledgers.now moments c.told.new.self c.args.seats.now};
}
