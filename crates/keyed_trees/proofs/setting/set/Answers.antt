use Rattle.std.proofs.Common.{rules}
use Rattle.keyed_trees.proofs.setting.set.Goals as goal

pub returns : goal.returns
returns g c = record {
  ok = search rules;
  err = search rules;
  lists = search rules;
  quiet = search rules;
}
