use Rattle.std.proofs.Common.{rules, ◌≡◌, ◌≤◌, ◌+◌, ◌-◌, ◌∙◌, sym, ap, ap₂, refl, arith, [], Some, length, take, drop}
use Rattle.std.proofs.lemmas.List.{take_all, length-take-le}
use Rattle.copies.specs.Places.{overwritten}
use Rattle.copies.proofs.Overwrites.{overwritten_same, reaches, written_on, same_on}
use Rattle.copies.proofs.pieces.mend.Goals as goal

pub loop-done-init : goal.loop-done-init
loop-done-init g c = (omega arith, λ all e within h. e ∙ ap Some (sym (overwritten_same c.args.at [] all refl)))

pub loop-done-preserved-in_ok-write_to : goal.loop-done-preserved-in_ok-write_to
loop-done-preserved-in_ok-write_to g c =
    let part = c.args.part.now in
    let few : c.loop-done.done + c.min.result ≤ length part = search rules in
    let place : c.in_ok-place.place ≡ c.args.at + c.loop-done.done = search rules in
    let size : c.loop-done.done + c.min.result - c.loop-done.done ≡ c.min.result = omega arith in (
      few,
      λ all e within h.
          let now = overwritten c.args.at (take c.loop-done.done part) all in
          let long = length-take-le c.loop-done.done part (omega arith) in
          let reach = reaches c.args.at (take c.loop-done.done part) all within in
          c.in_ok-write_to.ensures now (c.loop-done.invariant.1 all e within h) (omega arith)
          ∙ ap Some (ap₂ (λ at n. overwritten at (take n (drop c.loop-done.done part)) now) place size
          ∙ written_on c.args.at c.loop-done.done c.min.result part all within few),
    )

pub loop-done-preserved : goal.loop-done-preserved
loop-done-preserved g c =
    let part = c.args.part.now in
    let had = c.args.had.now in
    let few : c.loop-done.done + c.min.result ≤ length part = search rules in
    let size : c.loop-done.done + c.min.result - c.loop-done.done ≡ c.min.result = omega arith in
    let found : take (c.loop-done.done + c.min.result - c.loop-done.done) (drop c.loop-done.done had)
    ≡ take (c.loop-done.done + c.min.result - c.loop-done.done) (drop c.loop-done.done part) = search rules in
    let same = sym (ap (λ n. take n (drop c.loop-done.done had)) size) ∙ found ∙ ap (λ n. take n (drop c.loop-done.done part)) size in (
      few,
      λ all e within h. c.loop-done.invariant.1 all e within h
          ∙ ap Some (same_on c.args.at c.loop-done.done c.min.result part had all within few h same),
    )

pub returns : goal.returns
returns g c = λ all e within h. c.loop-done.invariant.1 all e within h ∙ ap (λ l. Some (overwritten c.args.at l all)) (take_all c.loop-done.done c.args.part.now (omega (arith, c.loop-done-test.false)))
