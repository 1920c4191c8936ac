use Rattle.std.proofs.Common.{◌∙◌, ap, ◌≤◌, ◌-◌, ◌++◌, length, take, drop, append_assoc, arith, rules}
use Rattle.std.proofs.lemmas.List.{take-append-drop, take_all, length-drop}
use Rattle.std.proofs.KnownBytes.{Appends-trans}
use Rattle.records.proofs.drain.put_all.Goals as goal

pub loop-rest-preserved : goal.loop-rest-preserved
loop-rest-preserved g c =
    let before = c.loop-rest.invariant in
    let rest = c.loop-rest.rest.now in
    let count = c.in_ok-count.count in
    let short : length (drop count rest) ≤ length rest - count = omega (arith, length-drop count rest) in (
      before.0 ++ take count rest,
      append_assoc before.0 (take count rest) _
          ∙ ap (λ xs. before.0 ++ (take count rest ++ xs)) (take_all _ _ short)
          ∙ ap (λ xs. before.0 ++ xs) (take-append-drop count rest)
          ∙ before.1,
      Appends-trans _ _ _ before.0 (take count rest) before.2 c.in_ok-count.ensures.bytes,
      search rules,
    )
