use Rattle.std.proofs.Common.{codes}
use Rattle.command_line.specs.Ledgerd.{counted_serve_app, limit_rule}
use Rattle.command_line.proofs.Builders.{arg_joined, leaf_joined}
use Rattle.command_line.proofs.app.serve_command.Goals as goal

pub returns : goal.returns
returns c =
    let one = arg_joined counted_serve_app (limit_rule (codes "clients") 1 100_000) _ _ c.limit_option-clients.result c.counted_serve_command-command.ensures c.limit_option-clients.ensures c.with_arg-command.ensures in
    let two = arg_joined _ (limit_rule (codes "room") 3 65_536) _ _ c.limit_option-room.result one c.limit_option-room.ensures c.with_arg-command-2.ensures in
    let three = arg_joined _ (limit_rule (codes "idle") 1 86_400) _ _ c.limit_option.result two c.limit_option.ensures c.with_arg-command-3.ensures in
    let four = arg_joined _ (limit_rule (codes "message") 1 3_600) _ _ c.limit_option-message.result three c.limit_option-message.ensures c.with_arg-command-4.ensures in
    leaf_joined _ _ (arg_joined _ (limit_rule (codes "reply") 1 3_600) _ _ c.limit_option-2.result four c.limit_option-2.ensures c.with_arg.ensures)
