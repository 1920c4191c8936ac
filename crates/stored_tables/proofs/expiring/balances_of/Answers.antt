use Rattle.std.proofs.Common.{sym, ◌∙◌}
use Rattle.stored_tables.specs.Kept.{kept_in}
use Rattle.stored_tables.proofs.ExpiryReads.{kept_told, told_stored, nothing_read}
use Rattle.stored_tables.proofs.expiring.balances_of.Goals as goal

pub returns-in-Some : goal.returns-in-Some
returns-in-Some g c = record {
  ok = λ clean ledger. kept_told c.args.tenant.0 (kept_in c.args.kept.now.items) c.args.account (g.T.LedgerTables.state c.args.tables.now).now.trees c.in-Some.balances (sym c.kept_balances.ensures ∙ c.in-Some.is);
  reads = nothing_read c.in-Some.balances (g.T.LedgerTables.state c.args.tables.now) c.requires;
}

pub returns-in-None : goal.returns-in-None
returns-in-None g c = record {
  ok = λ clean ledger. told_stored c.args.tenant.0 (kept_in c.args.kept.now.items) c.args.account (g.T.LedgerTables.state c.args.tables.now).now.trees (sym c.kept_balances.ensures ∙ c.in-None.is) c.balances.result (c.balances.ensures.ok clean ledger);
  reads = c.balances.ensures.reads;
}
