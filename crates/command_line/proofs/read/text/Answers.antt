use Rattle.std.proofs.Common.{rules}
use Rattle.clap.specs.Words.{found_of}
use Rattle.command_line.proofs.Getters.{text_is, text_is_there}
use Rattle.command_line.proofs.read.text.Goals as goal

pub unwrap-requires : goal.unwrap-requires
unwrap-requires c = text_is_there (found_of c.args.values.now) c.args.name.now c.get_str.result c.get_str.ensures c.requires

pub returns : goal.returns
returns c = text_is (found_of c.args.values.now) c.args.name.now c.get_str.result c.unwrap.result c.get_str.ensures (search rules)
