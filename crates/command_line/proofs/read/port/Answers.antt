use Rattle.std.proofs.Common.{rules, codes}
use Rattle.std.specs.Str.Parse.{ExplainsUnsignedError, HasUnsignedDigitsIfOk, ParsesUnsigned}
use Rattle.clap.specs.Words.{found_of, rows_of}
use Rattle.command_line.specs.Values.{number_of}
use Rattle.command_line.proofs.Getters.{number_at, number_is, some_number}
use Rattle.command_line.proofs.read.port.Goals as goal

pub unwrap-requires : goal.unwrap-requires
unwrap-requires c =
    let is = number_at _ (λ bs r. ParsesUnsigned 16 10 bs r × ExplainsUnsignedError 10 bs r × HasUnsignedDigitsIfOk bs r) 16 (λ u x g. g.0) (found_of c.args.values.now) (codes "port") c.get_one.result c.get_one.ensures.value c.requires in
    some_number c.get_one.result (number_of c.requires.text) is

pub returns : goal.returns
returns c =
    let is = number_at _ (λ bs r. ParsesUnsigned 16 10 bs r × ExplainsUnsignedError 10 bs r × HasUnsignedDigitsIfOk bs r) 16 (λ u x g. g.0) (found_of c.args.values.now) (codes "port") c.get_one.result c.get_one.ensures.value c.requires in
    number_is (rows_of (found_of c.args.values.now)) (codes "port") _ c.requires c.get_one.result c.unwrap.result is (search rules)
