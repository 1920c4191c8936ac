use Rattle.clap.specs.Words.{found_of}
use Rattle.command_line.proofs.Getters.{flag_is}
use Rattle.command_line.proofs.read.is_set.Goals as goal

pub returns : goal.returns
returns c = flag_is (found_of c.args.values.now) c.args.name.now c.get_flag.result c.get_flag.ensures.none c.get_flag.ensures.value c.get_flag.ensures.other c.requires
