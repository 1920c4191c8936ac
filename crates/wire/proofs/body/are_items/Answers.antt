use Rattle.std.proofs.Common.{is_some, ◌∙◌, rules, tests}
use Rattle.std.proofs.lemmas.Iterator.{YieldsList-from_slice}
use Rattle.std.proofs.lemmas.Iterator.Search.{all_from_yields_List}
use Rattle.wire.specs.Trees.{tree_data}
use Rattle.wire.proofs.Lists.{list_all-is_some}
use Rattle.wire.proofs.body.are_items.Goals as goal

pub returns : goal.returns
returns g c =
    let meant_by = g.I.Item.means in
    all_from_yields_List (λ v. is_some (meant_by (tree_data v))) _ _ c.all.result c.all.ensures.ran
    (YieldsList-from_slice c.args.items.now cc) (λ x b q k. search (rules, tests))
    ∙ list_all-is_some meant_by c.args.items.now
