use Rattle.std.proofs.Common.{w64, rules}
use Rattle.std.proofs.lemmas.Int.{to_z-of_z}
use Rattle.ledger_tables.proofs.connection.ConnectionLedgerTables.find_tenant_by_number.Goals as goal

pub returns : goal.returns
returns g c = rw (to_z-of_z w64 c.args.number (search rules)) at c.find_tenant_by_number.ensures
