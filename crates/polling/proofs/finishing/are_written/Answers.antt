use Rattle.std.proofs.Common.{◌≡◌, true, false, rules, tests}
use Rattle.std.specs.BTreeMap as map
use Rattle.clients.specs.Talk.{HasNothingUnsent, Talk, is_written}
use Rattle.std.proofs.lemmas.Iterator.Consumers.{YieldsList-from_rest}
use Rattle.std.proofs.lemmas.Map.Views.{IfSome-lookup_from_All}
use Rattle.std.proofs.lemmas.Iterator.{cases_from_all}
use Rattle.std.proofs.lemmas.Bool.{MatchBool-at_true}
use Rattle.std.proofs.lemmas.List.Elements.{All-from_all_within, All-weaker}
use Rattle.polling.proofs.GoingLemmas.{written_so}
use Rattle.polling.proofs.finishing.are_written.Goals as goal

pub returns : goal.returns
returns c is client =
    let all = map.values c.args.clients.now in
    let cases =
    cases_from_all _ _ _ (λ (talk : Talk). is_written talk ≡ true) (λ (talk : Talk). is_written talk ≡ false)
    c.all.ensures.ran (YieldsList-from_rest all c.values.ensures.rest)
    (λ x r k. search (rules, tests)) (λ x r k. search (rules, tests)) in
    IfSome-lookup_from_All HasNothingUnsent _ c.args.clients.now.entries
    (All-weaker (λ (talk : Talk). is_written talk ≡ true) HasNothingUnsent (λ talk written. written_so talk written) all
    (All-from_all_within (λ (talk : Talk). is_written talk ≡ true) all (MatchBool-at_true _ _ is cases)))
