use Rattle.std.proofs.Common.{◌≤◌, ◌<◌, Err, length, is_some, sym, ap, ◌∙◌, arith, rules}
use Rattle.std.proofs.lemmas.Grind.{common_steps}
use Rattle.std.proofs.lemmas.Result.{IfOk-weaker, IfErr-weaker}
use Rattle.wire.specs.Body.{list_in}
use Rattle.wire.proofs.Lists.{has_items, length-each_of, list_in_few, list_in_many, list_in_bad}
use Rattle.wire.proofs.body.read_list.Goals as goal

pub returns-in_err-value-clause-err : goal.returns-in_err-value-clause-err
unfolding list_in
returns-in_err-value-clause-err g c = grind (arith, common_steps)

pub returns-in_err-items-clause-err : goal.returns-in_err-items-clause-err
unfolding list_in
returns-in_err-items-clause-err g c = grind (arith, common_steps)

pub returns-then-items-le-MAX_ITEMS-clause-ok : goal.returns-then-items-le-MAX_ITEMS-clause-ok
returns-then-items-le-MAX_ITEMS-clause-ok g c =
    let few : length c.in_ok-items.items.now ≤ 1000 = omega arith in
    IfOk-weaker c.read_items.result _ _
    (λ list is. list_in_few g.I.Item.means _ _ list.items
    (has_items c.args.body.now _ c.in_ok-items.items.now c.in_ok-value.ensures.ok (search rules)) few is)
    c.read_items.ensures.ok

pub returns-then-items-le-MAX_ITEMS-clause-few : goal.returns-then-items-le-MAX_ITEMS-clause-few
returns-then-items-le-MAX_ITEMS-clause-few g c =
    let items = c.in_ok-items.items.now in
    let few : length items ≤ 1000 = omega arith in
    IfOk-weaker c.read_items.result _ _
    (λ list is. omega (arith, length-each_of g.I.Item.means items list.items is))
    c.read_items.ensures.ok

pub returns-then-items-le-MAX_ITEMS-clause-err : goal.returns-then-items-le-MAX_ITEMS-clause-err
returns-then-items-le-MAX_ITEMS-clause-err g c =
    let items = c.in_ok-items.items.now in
    let has = has_items c.args.body.now _ items c.in_ok-value.ensures.ok (search rules) in
    IfErr-weaker c.read_items.result _ _
    (λ e refused available.
    list_in_bad g.I.Item.means c.args.body.now items has (ap is_some (refused available).1)
    ∙ ap Err (sym (refused available).0))
    c.read_items.ensures.err

pub returns-then-are_items-clause-err : goal.returns-then-are_items-clause-err
returns-then-are_items-clause-err g c =
    let items = c.in_ok-items.items.now in
    let has = has_items c.args.body.now _ items c.in_ok-value.ensures.ok (search rules) in
    let many : 1000 < length items = omega arith in
    λ _. list_in_many g.I.Item.means c.args.body.now items has many (search rules)

pub returns-clause-err : goal.returns-clause-err
returns-clause-err g c =
    let items = c.in_ok-items.items.now in
    let has = has_items c.args.body.now _ items c.in_ok-value.ensures.ok (search rules) in
    λ _. list_in_bad g.I.Item.means c.args.body.now items has (search rules)
