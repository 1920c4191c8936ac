use Rattle.std.proofs.Common.{◌≡◌, ◌-◌, refl, arith}
use Rattle.polling.specs.Standing.{turns_of}
use Rattle.polling.proofs.AllLemmas.{beside, owed_for, then_owed, turns_were}
use Rattle.polling.proofs.gathered.answer_chosen.Goals as goal

pub returns-clause-replies : goal.returns-clause-replies
returns-clause-replies g c =
    let most = c.args.most in
    let one = c.finish_each-answered in
    let two = c.share-shared in
    let three = c.finish_each-more in
    let few_one = one.ensures.few in
    let few_two = two.ensures.replies.few in
    let few_three = three.ensures.few in
    let batches = turns_of c.args.chosen.now.batches.items in
    record {
      serves =
          then_owed
          (beside batches
          (owed_for (turns_were c.as_slice-others.ensures.value one.ensures.serves)
          (λ (is : one.result ≡ most). omega (arith, is, few_one, few_two, few_three))))
          (then_owed
          (beside batches
          (owed_for (two.ensures.replies.serves one.new.seats.next)
          (λ never. absurd never)))
          (owed_for (turns_were c.as_slice-batches.ensures.value three.ensures.serves)
          (λ (is : three.result ≡ most - one.result - two.result).
          omega (arith, is, few_one, few_two, few_three)))
          refl)
          (omega arith);
      few = omega (arith, few_one, few_two, few_three);
    }
