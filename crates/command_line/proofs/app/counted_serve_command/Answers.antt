use Rattle.std.proofs.Common.{codes}
use Rattle.command_line.specs.Ledgerd.{flag_rule, option_rule, port_rule, requests_rule, store_app}
use Rattle.command_line.proofs.Builders.{arg_joined}
use Rattle.command_line.proofs.app.counted_serve_command.Goals as goal

pub returns : goal.returns
returns c =
    let one = arg_joined (store_app (codes "serve")) port_rule _ _ c.port_option.result c.store_command.ensures c.port_option.ensures c.with_arg-command.ensures in
    let two = arg_joined _ (option_rule (codes "address")) _ _ c.free_option.result one c.free_option.ensures c.with_arg-command-2.ensures in
    let three = arg_joined _ requests_rule _ _ c.limit_option-requests.result two c.limit_option-requests.ensures c.with_arg-command-3.ensures in
    arg_joined _ (flag_rule (codes "standby")) _ _ c.flag.result three c.flag.ensures c.with_arg.ensures
