use Rattle.std.proofs.Common.{◌≡◌, ◌<◌, [], Ok, Err, ap, arith}
use Rattle.service.specs.Seen.{Whole}
use Rattle.polling.specs.Laws.{empty_hall}
use Rattle.polling.specs.Seating.{held_by}
use Rattle.polling.specs.Serving.{Begin, rules}
use Rattle.command_texts.specs.declared.fault.Fault.TheVariants.{Socket}
use Rattle.commands.specs.declared.serving.Served.{Served}
use Rattle.commands.specs.declared.serving.Served.TheVariants.{Enough}
use Rattle.commands.proofs.ServingLemmas.{ended_short, serves_so}
use Rattle.commands.proofs.serving.serve_clients.Goals as goal
use Rattle.commands.proofs.serving.serve_clients.Goals.{then-left-eq0, else-left-eq0+then-is_stopping}

pub loop-init : goal.loop-init
loop-init g c = record {
  deeds = [];
  last = empty_hall (Whole c.args.ledgers.now) c.args.moments.now c.args.peers.now;
  served = Begin;
  keeps =
      c.serving_begins_empty.ensures c.args.ledgers.now c.args.moments.now c.args.peers.now
      c.new-seats.result c.new-seats.ensures;
  left = omega arith;
  wanting = λ (some : 0 < 0). omega arith;
  told = omega arith;
}

pub loop-preserved : goal.loop-preserved
loop-preserved g c =
    let r = rules g.L.Ledgers.means g.C.Moments.gives g.H.Steward.renews g.H.Steward.waits g.P.Peers.does in
    let first = empty_hall (Whole c.args.ledgers.now) c.args.moments.now c.args.peers.now in
    let before = c.loop.invariant in
    let old = held_by c.loop.ledgers c.loop.moments c.loop.peers c.loop.seats in
    let round = c.serve_ready-left in
    let new = held_by round.new.ledgers round.new.moments round.new.peers round.new.seats in
    let on =
    c.serving_goes_on.ensures.told first before.last before.deeds before.served old new round.result
    before.keeps
    (ended_short r (round.result ≡ c.loop.left) old new round.result
    (λ (same : round.result ≡ c.loop.left). omega arith) round.ensures.ends) in
    record {
      deeds = on.deeds;
      last = on.last;
      served = on.all;
      keeps = on.keeps;
      left = omega (arith, on.count, before.left, round.ensures.few);
      wanting = λ some. omega arith;
      told = omega (arith, on.told, before.told);
    }

pub returns-in-loop-clause-served : goal.returns-in-loop-clause-served
returns-in-loop-clause-served g c =
    let first = empty_hall (Whole c.args.ledgers.now) c.args.moments.now c.args.peers.now in
    let before = c.loop.invariant in
    let old = held_by c.loop.ledgers c.loop.moments c.loop.peers c.loop.seats in
    let round = c.serve_ready-left in
    let mid = held_by round.new.ledgers round.new.moments round.new.peers round.new.seats in
    let new =
    held_by c.write_rest.new.ledgers round.new.moments c.write_rest.new.peers c.write_rest.new.seats in
    let one =
    c.serving_goes_on.ensures.served first before.last before.deeds before.served old mid
    round.result before.keeps round.ensures.serves in
    let all =
    c.serving_goes_on.ensures.served first one.last one.deeds one.all mid new 0 one.keeps
    (c.write_rest.ensures.serves round.new.moments) in
    serves_so (rules g.L.Ledgers.means g.C.Moments.gives g.H.Steward.renews g.H.Steward.waits g.P.Peers.does)
    c.each_is_served.ensures c.serving_is_a_course.ensures.course
    c.serving_is_a_course.ensures.alone c.only_what_is_asked_is_booked.ensures
    c.moments_rise.ensures (Whole c.args.ledgers.now) c.args.moments.now
    c.args.peers.now
    c.is_settled.ensures all.last all.deeds all.all new all.keeps c.args.most (Ok c.if-left-eq0.served)
    (λ is. elim c.if-left-eq0.branch [
      | then-left-eq0 w ↦
          omega (arith, one.count, all.count, before.left, round.ensures.few, w.if-left-eq0.true)
      | else-left-eq0+then-is_stopping w ↦ absurd (let same = is in let other = w.served-is in cc)
    ])
    (λ differs. elim c.if-left-eq0.branch [
      | then-left-eq0 w ↦ absurd (differs (ap (λ (served : Served). Ok served) w.served-is))
      | else-left-eq0+then-is_stopping w ↦
          omega (arith, one.count, all.count, before.left, round.ensures.few, w.if-left-eq0.false)
    ])
    tt

pub returns-clause-served : goal.returns-clause-served
returns-clause-served g c =
    let before = c.loop.invariant in
    serves_so (rules g.L.Ledgers.means g.C.Moments.gives g.H.Steward.renews g.H.Steward.waits g.P.Peers.does)
    c.each_is_served.ensures c.serving_is_a_course.ensures.course
    c.serving_is_a_course.ensures.alone c.only_what_is_asked_is_booked.ensures
    c.moments_rise.ensures (Whole c.args.ledgers.now) c.args.moments.now
    c.args.peers.now
    c.is_settled.ensures before.last before.deeds before.served
    (held_by c.loop.ledgers c.loop.moments c.loop.peers c.loop.seats) before.keeps c.args.most
    (Err Socket) (λ (is : Err Socket ≡ Ok Enough). cc)
    (λ differs. let some = before.wanting (omega arith) in omega (arith, before.left))
    (omega (arith, before.told, c.loop-test.false))
