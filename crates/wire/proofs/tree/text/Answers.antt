use Rattle.std.proofs.Common.{◌∙◌}
use Rattle.json.specs.Value.{value_view}
use Rattle.wire.proofs.Trees.{as_str-data_of}
use Rattle.wire.proofs.tree.text.Goals as goal

pub returns : goal.returns
returns c = c.as_str.ensures ∙ as_str-data_of (value_view c.args.value.now)
