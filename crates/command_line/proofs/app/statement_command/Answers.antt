use Rattle.std.proofs.Common.{codes}
use Rattle.command_line.specs.Ledgerd.{flag_rule, option_rule, whole_statement_app}
use Rattle.command_line.proofs.Builders.{arg_joined, leaf_joined}
use Rattle.command_line.proofs.app.statement_command.Goals as goal

pub returns : goal.returns
returns c =
    let one = arg_joined whole_statement_app (option_rule (codes "from")) _ _ c.free_option.result c.whole_statement_command-command.ensures c.free_option.ensures c.with_arg-command.ensures in
    let two = arg_joined _ (option_rule (codes "to")) _ _ c.free_option-2.result one c.free_option-2.ensures c.with_arg-command-2.ensures in
    let three = arg_joined _ (flag_rule (codes "balances")) _ _ c.flag.result two c.flag.ensures c.with_arg-command-3.ensures in
    let four = arg_joined _ (flag_rule (codes "wide")) _ _ c.flag-2.result three c.flag-2.ensures c.with_arg-command-4.ensures in
    leaf_joined _ _ (arg_joined _ (option_rule (codes "format")) _ _ c.free_option-3.result four c.free_option-3.ensures c.with_arg.ensures)
