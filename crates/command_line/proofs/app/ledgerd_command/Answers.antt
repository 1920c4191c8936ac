use Rattle.std.proofs.Common.{codes}
use Rattle.std.specs.Prelude.{Ok}
use Rattle.command_line.specs.Ledgerd.{check_shape, copy_shape, ledgerd_app, lint_shape, migrate_shape, program, serve_shape, statement_shape, status_shape, stop_shape, tenant_shape, tenants_shape, version_shape}
use Rattle.command_line.proofs.Builders.{command_joined}
use Rattle.command_line.proofs.app.ledgerd_command.Goals as goal

pub returns : goal.returns
unfolding ledgerd_app
returns c =
    let one = command_joined program serve_shape _ _ _ c.named_command.ensures c.serve_command.ensures c.with_command-app.ensures in
    let two = command_joined _ (tenant_shape (codes "tenant-add")) _ _ _ one c.tenant_command-adding.ensures c.with_command-app-2.ensures in
    let three = command_joined _ (tenant_shape (codes "tenant-key")) _ _ _ two c.tenant_command-keying.ensures c.with_command-app-3.ensures in
    let four = command_joined _ tenants_shape _ _ _ three c.tenants_command.ensures c.with_command-app-4.ensures in
    let five = command_joined _ status_shape _ _ _ four c.status_command.ensures c.with_command-app-5.ensures in
    let six = command_joined _ stop_shape _ _ _ five c.stop_command.ensures c.with_command-app-6.ensures in
    let seven = command_joined _ statement_shape _ _ _ six c.statement_command.ensures c.with_command-app-7.ensures in
    let eight = command_joined _ check_shape _ _ _ seven c.check_command.ensures c.with_command-app-8.ensures in
    let nine = command_joined _ migrate_shape _ _ _ eight c.migrate_command.ensures c.with_command-app-9.ensures in
    let ten = command_joined _ copy_shape _ _ _ nine c.copy_command.ensures c.with_command-app-10.ensures in
    let eleven = command_joined _ lint_shape _ _ _ ten c.lint_command.ensures c.with_command-app-11.ensures in
    command_joined _ version_shape _ _ (Ok c.version_command.result) eleven c.version_command.ensures c.with_command.ensures
