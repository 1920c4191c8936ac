use Rattle.std.proofs.Common.{codes}
use Rattle.command_line.specs.Ledgerd.{flag_rule, store_app, text_rule}
use Rattle.command_line.proofs.Builders.{arg_joined}
use Rattle.command_line.proofs.app.whole_statement_command.Goals as goal

pub returns : goal.returns
returns c =
    let one = arg_joined (store_app (codes "statement")) (text_rule (codes "tenant")) _ _ c.text_option-tenant.result c.store_command-command.ensures c.text_option-tenant.ensures c.with_arg-command.ensures in
    let two = arg_joined _ (text_rule (codes "account")) _ _ c.text_option.result one c.text_option.ensures c.with_arg-command-2.ensures in
    arg_joined _ (flag_rule (codes "reversed")) _ _ c.flag.result two c.flag.ensures c.with_arg.ensures
