use Rattle.std.proofs.Common.{arith}
use Rattle.std.proofs.lemmas.Grind.{common_steps}
use Rattle.std.proofs.lemmas.Str.{IsUtf8-from_is_utf8, is_utf8-from_IsUtf8}
use Rattle.wire.specs.Body.{json_of}
use Rattle.wire.proofs.tree.read_json.Goals as goal

pub returns-in_default-clause-err : goal.returns-in_default-clause-err
unfolding json_of
returns-in_default-clause-err c = grind (arith, common_steps, IsUtf8-from_is_utf8)

pub returns-clause-ok : goal.returns-clause-ok
unfolding json_of
returns-clause-ok c = grind (arith, common_steps, is_utf8-from_IsUtf8)

pub returns-clause-err : goal.returns-clause-err
unfolding json_of
returns-clause-err c = grind (arith, common_steps, is_utf8-from_IsUtf8)
