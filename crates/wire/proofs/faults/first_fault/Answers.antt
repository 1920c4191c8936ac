use Rattle.std.proofs.Common.{◌∙◌, sym, ap, Some}
use Rattle.wire.specs.Trees.{tree_data}
use Rattle.wire.proofs.Trees.{get_item_within}
use Rattle.wire.proofs.faults.first_fault.Goals as goal

pub returns-in-Err-clause-misfit : goal.returns-in-Err-clause-misfit
returns-in-Err-clause-misfit g c =
    let found = c.index-items-place in
    let at = get_item_within c.args.items.now c.loop-place.place found.result c.loop-place-test.true in
    (tree_data found.result, sym at ∙ sym (ap (λ v. Some (tree_data v)) found.is), c.in-Err.ensures.misfit)
