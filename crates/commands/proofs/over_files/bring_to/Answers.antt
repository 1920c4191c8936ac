use Rattle.std.proofs.Common.{inr}
use Rattle.commands.proofs.over_files.bring_to.Goals as goal

pub returns-in-Ok-clause-brought : goal.returns-in-Ok-clause-brought
returns-in-Ok-clause-brought g c = record {
  first = c.in_ok-ledger.ledger;
  opened = c.in_ok-ledger.ensures.opened;
  newer = c.in-Ok.ensures.tells;
  raised = c.in-Ok.ensures.raises;
  migrated = c.in-Ok.ensures.migrates;
}

pub returns-in-Err-clause-fault : goal.returns-in-Err-clause-fault
returns-in-Err-clause-fault g c = inr (record {
  first = c.in_ok-ledger.ledger;
  opened = c.in_ok-ledger.ensures.opened;
  left = c.migrate.new.ledger;
  why = c.in-Err.fault;
  told = c.migrate_fault.ensures.told;
  newer = c.in-Err.ensures.tells;
  migrated = c.in-Err.ensures.migrates;
})
