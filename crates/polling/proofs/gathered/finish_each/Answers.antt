use Rattle.std.proofs.Common.{◌≡◌, ◌+◌, ◌-◌, refl, ℕ, List, drop, arith}
use Rattle.std.proofs.lemmas.List.{at_drop_more, at_drop_all}
use Rattle.polling.specs.Standing.{turns_of}
use Rattle.polling.proofs.AllLemmas.{beside, none_owed, owed_for, then_owed, turns_as}
use Rattle.polling.proofs.gathered.finish_each.Goals as goal

pub loop-number-init : goal.loop-number-init
loop-number-init g c = record {
  serves =
      none_owed (λ one found. found);
  few = omega arith;
}

pub loop-number-preserved : goal.loop-number-preserved
loop-number-preserved g c =
    let numbers = c.args.numbers.now in
    let i = c.loop-number.number-index in
    let before = c.loop-number.replies in
    let one = c.finish_one-replies in
    let few = c.loop-number.invariant.few in
    let more = one.ensures.few in
    record {
      serves =
          then_owed
          (turns_as (at_drop_more (λ (left : List ℕ). left) numbers i 0 c.loop-number-test.true)
          (owed_for c.loop-number.invariant.serves
          (λ (is : before ≡ c.args.most). omega (arith, is, few, more))))
          (beside (turns_of (drop (i + 1) numbers))
          (owed_for one.ensures.serves
          (λ (is : one.result ≡ c.args.most - before). omega (arith, is, few))))
          refl;
      few = omega (arith, more, few);
    }

pub returns : goal.returns
returns g c = record {
  serves =
      turns_as
      (at_drop_all (λ (left : List ℕ). left) c.args.numbers.now c.loop-number.number-index
      c.loop-number-test.false)
      c.loop-number.invariant.serves;
  few =
      c.loop-number.invariant.few;
}
