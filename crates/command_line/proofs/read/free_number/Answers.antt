use Rattle.std.specs.Str.Parse.{ExplainsUnsignedError, HasUnsignedDigitsIfOk, ParsesUnsigned}
use Rattle.clap.specs.Words.{found_of}
use Rattle.command_line.proofs.Getters.{free_number_is}
use Rattle.command_line.proofs.read.free_number.Goals as goal

pub returns : goal.returns
returns c =
    free_number_is _ (λ bs r. ParsesUnsigned 64 10 bs r × ExplainsUnsignedError 10 bs r × HasUnsignedDigitsIfOk bs r) (λ u x g. g.0) (found_of c.args.values.now) c.args.name.now
    c.get_one.result c.get_one.ensures.none c.get_one.ensures.value c.requires
