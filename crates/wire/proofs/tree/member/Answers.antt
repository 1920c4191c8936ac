use Rattle.std.proofs.Common.{option_map, ap, ◌∙◌, refl, ◌≡◌, Option, Some, None, sym}
use Rattle.wire.specs.Trees.{data_of, tree_data}
use Rattle.json.specs.Value.{value_view}
use Rattle.wire.proofs.Trees.{get-data_of, mapped_twice}
use Rattle.wire.proofs.tree.member.Goals as goal

pub returns : goal.returns
returns c =
    mapped_twice (λ v. value_view v.now) data_of c.get.result ∙ ap (option_map data_of) c.get.ensures
    ∙ get-data_of c.args.name.now (value_view c.args.object.now)
