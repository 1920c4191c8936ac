use Rattle.std.proofs.Common.{rules, refl, Some}
use Rattle.std.proofs.lemmas.Result.{on_ok_weaker}
use Rattle.ledger_sql.specs.Effects.{IsInside}
use Rattle.stored_tables.specs.Releasing.{HasStatusRow}
use Rattle.stored_tables.proofs.ChangedRows.{row_due_fits}
use Rattle.stored_tables.proofs.Keeping.{changes}
use Rattle.stored_tables.proofs.Numbers.{passed}
use Rattle.stored_tables.proofs.Statements.{state_set}
use Rattle.stored_tables.proofs.changing.set_state.Goals as goal

pub set_status-requires-clause-due : goal.set_status-requires-clause-due
set_status-requires-clause-due g c = row_due_fits (Some c.args.row.now) c.args.row.now refl c.requires.fits

pub returns : goal.returns
returns g c =
    changes g.T.LedgerTables.state c.args.tables.now c.set_status.new.self c.set_status.result (IsInside (g.T.LedgerTables.state c.args.tables.now) × HasStatusRow c.args.tenant.0 c.args.row.now (g.T.LedgerTables.state c.args.tables.now)) _ (λ clean. (c.requires.inside clean, c.requires.told clean)) c.set_status.ensures.follows
    (λ can clean.
    on_ok_weaker c.set_status.result (state_set c.args.tenant.0 _ _ can.0.schema c.columns_keep_order.ensures.one_to_one c.found_by_key.ensures.alone c.found_by_key.ensures.replaced c.args.row.now.transfer c.args.to c.args.row.now can.1)
    (rw (passed c.args.tenant.0 (search rules)) at (c.set_status.ensures.ok clean)))
