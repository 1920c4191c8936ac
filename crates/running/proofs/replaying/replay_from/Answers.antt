use Rattle.std.proofs.Common.{◌<◌, length, sym, arith}
use Rattle.std.proofs.lemmas.Option.{get_or_from_slice_get}
use Rattle.running.proofs.AppliedEntry.{one_replayed, one_told, on_true}
use Rattle.running.proofs.replaying.replay_from.Goals as goal

pub loop-place-preserved : goal.loop-place-preserved
loop-place-preserved g c es has =
    let place = c.loop-place.place in
    let entry = c.entry.result in
    let within : place < length es = omega (arith, c.loop-place-test.true, c.len-place-end.ensures es has) in
    let is = sym (get_or_from_slice_get es place entry entry (c.entry.ensures es has)) in
    let before = c.loop-place.invariant es has in
    let told = on_true c.in_ok-accepted.accepted _ c.if-not-accepted.false c.in_ok-accepted.ensures.told in (
      one_replayed es place entry _ _ before.0 within is (on_true c.in_ok-accepted.accepted _ c.if-not-accepted.false c.in_ok-accepted.ensures.accepted),
      one_told g.H.HistoryTaker.told es place entry _ _ _ within is before.1 (told _ before.0.1),
    )
