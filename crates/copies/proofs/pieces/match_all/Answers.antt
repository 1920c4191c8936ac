use Rattle.std.proofs.Common.{rules, ◌≡◌, ◌<◌, ◌+◌, ◌∙◌, sym, ap, arith, Some, length, take, drop, ℕ}
use Rattle.std.proofs.lemmas.List.{take_all, length-take, length-drop}
use Rattle.copies.specs.Places.{overwritten}
use Rattle.copies.proofs.Overwrites.{before_overwritten, reaches, piece_on}
use Rattle.copies.proofs.pieces.match_all.Goals as goal

pub returns-then-count-eq0 : goal.returns-then-count-eq0
returns-then-count-eq0 g c = λ all had e f.
    let before = c.loop.invariant.same all had e f in
    let now = before.1.0 in
    let room : ℕ = length c.loop.room in
    let some : 0 < room = search rules in
    let none : c.in_ok-count.count ≡ 0 = search rules in
    let matched = c.in_ok-count.ensures all now e before.1.1 before.1.3 in
    let at : c.loop.at ≡ length all = omega (arith, before.0, matched.0, length-take room (drop c.loop.at all), length-drop c.loop.at all) in (
      c.in_ok-cut.ensures (overwritten c.loop.at (take room (drop c.loop.at all)) now) matched.1
          ∙ ap Some (before_overwritten c.loop.at (take room (drop c.loop.at all)) now before.1.3
          ∙ before.1.2 ∙ take_all c.loop.at all (omega arith)),
      at,
    )

pub loop-preserved : goal.loop-preserved
loop-preserved g c = record {
  size = search rules;
  same = λ all had e f.
      let before = c.loop.invariant.same all had e f in
      let now = before.1.0 in
      let room : ℕ = length c.loop.room in
      let matched = c.in_ok-count.ensures all now e before.1.1 before.1.3 in
      let next : c.in_ok-at.at ≡ c.loop.at + c.in_ok-count.count = search rules in
      let part = take room (drop c.loop.at all) in (
        omega (arith, next, before.0, matched.0, length-take room (drop c.loop.at all), length-drop c.loop.at all),
        (
          overwritten c.loop.at part now,
          matched.1,
          ap (λ n. take n (overwritten c.loop.at part now)) next
              ∙ piece_on c.loop.at c.in_ok-count.count room all now before.0 before.1.3 before.1.2 matched.0
              ∙ ap (λ n. take n all) (sym next),
          omega (arith, next, matched.0, reaches c.loop.at part now before.1.3),
        ),
      );
}
