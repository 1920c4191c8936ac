use Rattle.std.proofs.Common.{arith}
use Rattle.std.proofs.lemmas.Grind.{common_steps}
use Rattle.std.proofs.lemmas.Str.{IsUtf8-from_is_utf8, is_utf8-from_IsUtf8}
use Rattle.wire.specs.Body.{json_of}
use Rattle.control.proofs.reading.value_in.Goals as goal

pub returns-in-Ok : goal.returns-in-Ok
unfolding json_of
returns-in-Ok c = record {
  told =
      grind (arith, common_steps, is_utf8-from_IsUtf8);
  fault = tt;
}

pub returns-in-Err-2 : goal.returns-in-Err-2
unfolding json_of
returns-in-Err-2 c = record {
  told =
      grind (arith, common_steps, IsUtf8-from_is_utf8);
  fault = tt;
}
