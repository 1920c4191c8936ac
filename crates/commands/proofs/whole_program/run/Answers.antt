use Rattle.commands.proofs.whole_program.run.Goals as goal

pub returns-in-AddTenant : goal.returns-in-AddTenant
returns-in-AddTenant g c = rw c.in-AddTenant.is c.run_change.ensures

pub returns-in-Migrate : goal.returns-in-Migrate
returns-in-Migrate g c = rw c.in-Migrate.is c.run_migrate.ensures

pub returns-in-Statement : goal.returns-in-Statement
returns-in-Statement g c = rw c.in-Statement.is c.run_statement.ensures

pub returns-in-ChangeKey : goal.returns-in-ChangeKey
returns-in-ChangeKey g c = rw c.in-ChangeKey.is c.run_change-in-ChangeKey.ensures
