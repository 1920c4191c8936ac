use Rattle.std.proofs.Common.{◌<◌, ◌∙◌, length, sym, arith}
use Rattle.std.proofs.lemmas.Option.{slice_get-get_or}
use Rattle.polling.proofs.RingLemmas.{next_is_other, next_stays, next_of_all}
use Rattle.polling.proofs.ring.next_place.Goals.{then-is_before, else-is_before}
use Rattle.polling.proofs.ring.next_place.Goals as goal

pub loop-index-preserved : goal.loop-index-preserved
loop-index-preserved c =
    let last = c.args.last in
    let waiting = c.args.waiting.now in
    let index = c.loop-index.index in
    let place = c.loop-index.place in
    let next = c.loop-index.next in
    let within : index < length waiting = omega (arith, c.loop-index-test.true) in
    elim c.if-is_before.branch [
      | then-is_before w ↦
          rw (w.place-is, w.next-is)
          (next_is_other last waiting index place next _ c.loop-index.invariant
          (slice_get-get_or waiting index _ within) (sym c.is_before.ensures ∙ w.if-is_before.true))
      | else-is_before w ↦
          rw (w.place-is, w.next-is)
          (next_stays last waiting index place next _ c.loop-index.invariant
          (slice_get-get_or waiting index _ within) (sym c.is_before.ensures ∙ w.if-is_before.false))
    ]

pub returns : goal.returns
returns c =
    next_of_all c.args.last c.args.waiting.now c.loop-index.index c.loop-index.place
    c.loop-index.next c.loop-index.invariant c.loop-index-test.false
