use Rattle.std.proofs.Common.{◌≡◌, ◌≤◌, ◌<◌, true, false, Some, None, length, sym, ap, ◌∙◌, arith}
use Rattle.std.proofs.Common.{rules}
use Rattle.std.proofs.lemmas.Bool.Decides.{nat_tests}
use Rattle.serde_json.specs.Find.{as_array}
use Rattle.wire.specs.Body.{json_of}
use Rattle.wire.specs.Misfits.{refusal_of}
use Rattle.wire.specs.Trees.{tree_data}
use Rattle.wire.proofs.Lists.{has_items}
use Rattle.wire.proofs.BadItems.{bad_item, few_good, many_good, not_json, not_list}
use Rattle.wire.proofs.BadItems.{fault_item, fault_json, fault_list, fault_number}
use Rattle.wire.proofs.Misfits.{refused_as}
use Rattle.wire.proofs.faults.list_fault.Goals as goal

pub returns-in-Err-clause-refusal : goal.returns-in-Err-clause-refusal
returns-in-Err-clause-refusal g c =
    let none : json_of c.args.body.now ≡ None = search rules in
    ap (λ f. Some (refusal_of f.wanted)) c.of_body.ensures
    ∙ sym (not_json g.I.Item.means c.args.body.now none)

pub returns-in-Err-clause-fault : goal.returns-in-Err-clause-fault
returns-in-Err-clause-fault g c =
    let none : json_of c.args.body.now ≡ None = search rules in
    ap Some c.of_body.ensures ∙ sym (fault_json g.I.Item.means _ c.args.body.now none)

pub returns-in_default-clause-refusal : goal.returns-in_default-clause-refusal
returns-in_default-clause-refusal g c =
    let none : as_array (tree_data c.in-Ok.value) ≡ None = search rules in
    ap (λ f. Some (refusal_of f.wanted)) c.of_body-in_default.ensures
    ∙ sym (not_list g.I.Item.means c.args.body.now _ c.in-Ok.ensures.ok none)

pub returns-in_default-clause-fault : goal.returns-in_default-clause-fault
returns-in_default-clause-fault g c =
    let none : as_array (tree_data c.in-Ok.value) ≡ None = search rules in
    ap Some c.of_body-in_default.ensures
    ∙ sym (fault_list g.I.Item.means _ c.args.body.now _ c.in-Ok.ensures.ok none)

pub returns-in-Some-first_fault-clause-refusal : goal.returns-in-Some-first_fault-clause-refusal
returns-in-Some-first_fault-clause-refusal g c =
    let has = has_items c.args.body.now _ c.in-Some.items.now c.in-Ok.ensures.ok (search rules) in
    ap (λ f. Some (refusal_of f.wanted)) c.in_ok-of.ensures
    ∙ ap Some (refused_as g.I.Item.expected c.in-Some-first_fault.ensures.misfit.0 _
    c.in-Some-first_fault.ensures.misfit.2)
    ∙ sym (bad_item g.I.Item.means _ _ _ has (sym c.in-Some-first_fault.ensures.place))

pub returns-in-Some-first_fault-clause-fault : goal.returns-in-Some-first_fault-clause-fault
returns-in-Some-first_fault-clause-fault g c =
    let has = has_items c.args.body.now _ c.in-Some.items.now c.in-Ok.ensures.ok (search rules) in
    ap Some c.in_ok-of.ensures
    ∙ sym (fault_item g.I.Item.means _ _ _ _ _ has (sym c.in-Some-first_fault.ensures.place)
    c.in-Some-first_fault.ensures.misfit)

pub returns-then-items-le-MAX_ITEMS-clause-refusal : goal.returns-then-items-le-MAX_ITEMS-clause-refusal
returns-then-items-le-MAX_ITEMS-clause-refusal g c =
    let few : length c.in-Some.items.now ≤ 1000 = omega arith in
    sym (few_good g.I.Item.means _ _
    (has_items c.args.body.now _ _ c.in-Ok.ensures.ok (search rules)) few
    (sym c.in_default-first_fault.ensures.place))

pub returns-then-items-le-MAX_ITEMS-clause-fault : goal.returns-then-items-le-MAX_ITEMS-clause-fault
returns-then-items-le-MAX_ITEMS-clause-fault g c =
    let few : length c.in-Some.items.now ≤ 1000 = omega arith in
    sym (fault_number g.I.Item.means _ _ _ false
    (has_items c.args.body.now _ c.in-Some.items.now c.in-Ok.ensures.ok (search rules))
    (sym c.in_default-first_fault.ensures.place) (grind (arith, nat_tests)))

pub returns-clause-refusal : goal.returns-clause-refusal
returns-clause-refusal g c =
    let has = has_items c.args.body.now _ c.in-Some.items.now c.in-Ok.ensures.ok (search rules) in
    let many : 1000 < length c.in-Some.items.now = omega arith in
    ap (λ f. Some (refusal_of f.wanted)) c.of_body-else-items-le-MAX_ITEMS.ensures
    ∙ sym (many_good g.I.Item.means _ _ has many (sym c.in_default-first_fault.ensures.place))

pub returns-clause-fault : goal.returns-clause-fault
returns-clause-fault g c =
    let many : 1000 < length c.in-Some.items.now = omega arith in
    ap Some c.of_body-else-items-le-MAX_ITEMS.ensures
    ∙ sym (fault_number g.I.Item.means _ _ _ true
    (has_items c.args.body.now _ c.in-Some.items.now c.in-Ok.ensures.ok (search rules))
    (sym c.in_default-first_fault.ensures.place) (grind (arith, nat_tests)))
