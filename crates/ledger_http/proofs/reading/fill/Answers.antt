use Rattle.std.proofs.Common.{◌-◌, ◌∙◌, ap, Some, length, drop, arith, rules}
use Rattle.std.proofs.lemmas.List.{length-take, length-drop}
use Rattle.ledger_http.proofs.ReadingLemmas.{consumed, part_more, part_size}
use Rattle.ledger_http.proofs.BrokenLemmas.{at_error, kept}
use Rattle.ledger_http.proofs.reading.fill.Goals as goal

pub loop-filled-preserved : goal.loop-filled-preserved
loop-filled-preserved g c =
    let piece = c.take.auto.piece in
    let bound = c.in_ok-count.ensures.bound in
    let room = c.loop-filled.auto.room in
    let size = part_size c.loop-filled.room c.take.new.piece c.loop-filled.filled c.loop-filled.invariant.1 piece in (
      search rules,
      omega (arith, size, piece, length-take (length c.loop-filled.room - c.loop-filled.filled) (drop c.loop-filled.filled c.loop-filled.room), length-drop c.loop-filled.filled c.loop-filled.room),
      size ∙ room,
      λ bytes known.
          let so_far = c.loop-filled.invariant.3 bytes known in
          let took = consumed _ _ _ _ so_far.2 c.in_ok-count.ensures.bytes.0 in
          let more = part_more bytes c.loop-filled.room c.take.new.piece took.0 c.loop-filled.filled c.in_ok-count.count _
          c.loop-filled.invariant.1 so_far.1 so_far.0 bound took.2 in
          (more.0, more.1, took.1 ∙ ap (λ xs. Some xs) more.2),
    )

pub returns-in_err-count-clause-broken : goal.returns-in_err-count-clause-broken
returns-in_err-count-clause-broken g c =
    at_error c.from_residual.result _ (λ bytes known.
    let so_far = c.loop-filled.invariant.3 bytes known in
    record {
      filled = c.loop-filled.filled;
      few = omega (arith, c.loop-filled.invariant.2);
      there = so_far.1;
      rest = kept _ _ _ so_far.2 c.in_err-count.ensures.bytes;
    })
