use Rattle.std.proofs.Common.{to_z-of_z, SFits, w64, rules}
use Rattle.keyed_trees.specs.Kept.{state}
use Rattle.ledger_sql.specs.Schema.{ledger_schema}
use Rattle.ledger_entries.proofs.EntryLemmas.{transfers_found}
use Rattle.ledger_entries.proofs.handing.find_transfers.Goals as goal

pub returns-in-Ok-clause-found : goal.returns-in-Ok-clause-found
returns-in-Ok-clause-found g c clean =
    let tenant_fits : SFits w64 c.args.wanted.now.tenant = search rules in
    let time_fits : SFits w64 c.args.time = search rules in
    let key = simp to_z-of_z at c.in_ok-write_time_key.ensures in
    let all = (c.in-Ok.ensures.read clean).all in
    transfers_found c.args.wanted.now.tenant c.args.time (state ledger_schema g.S.Store c.args.tables.now).now.trees c.in-Ok.read.items (rw key at all)
