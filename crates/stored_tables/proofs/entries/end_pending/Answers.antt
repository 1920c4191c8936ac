use Rattle.std.proofs.Common.{Option, Ok, Some, OnOk, IfSome, sym, subst, rules}
use Rattle.sqlite.specs.State.{HasCleanDisk}
use Rattle.records.specs.declared.accepted.Ending.{Ending}
use Rattle.records.specs.declared.unavailable.Unavailable.TheVariants.{Disk}
use Rattle.rows.specs.Changes.{ended}
use Rattle.rows.specs.Widths.{IsStorableStatus}
use Rattle.stored_tables.specs.BatchLaws.{clean_before}
use Rattle.stored_tables.specs.Moves.{ChangesRows, CanEnd, IsStatusOf}
use Rattle.stored_tables.proofs.ChangedRows.{end_written}
use Rattle.stored_tables.proofs.ExpiryReads.{told_or, inside_still}
use Rattle.stored_tables.proofs.ExpiryWrites.{still_told, told_of_row}
use Rattle.stored_tables.proofs.entries.end_pending.Goals.{In_ok-row}
use Rattle.stored_tables.proofs.entries.end_pending.Goals as goal

module _ (g : _) (c : In_ok-row g) where
  told : HasCleanDisk (g.T.LedgerTables.state c.status.new.tables) → IsStatusOf c.args.tenant.0 c.end_of-end.result.0 (g.T.LedgerTables.state c.args.tables.now).now.trees (Some c.in_ok-row.row)
  told clean =
      let trees = (g.T.LedgerTables.state c.args.tables.now).now.trees in
      let found = c.in_ok-status.ensures.ok clean (c.requires (clean_before _ _ c.status.ensures.reads.follows clean)).inside.schema in
      told_or c.in_ok-status.field-0 Disk (Ok c.in_ok-row.row) (search rules) (λ row. IsStatusOf c.args.tenant.0 c.end_of-end.result.0 trees (Some row)) (λ row some. subst (IsStatusOf c.args.tenant.0 c.end_of-end.result.0 trees) some found)

pub set_state-requires-clause-inside : goal.set_state-requires-clause-inside
set_state-requires-clause-inside g c clean = inside_still _ _ (c.in_ok-status.ensures.reads.same clean) (c.requires (clean_before _ _ c.status.ensures.reads.follows clean)).inside

pub set_state-requires-clause-told : goal.set_state-requires-clause-told
set_state-requires-clause-told g c clean =
    let s0 = g.T.LedgerTables.state c.args.tables.now in
    still_told c.args.tenant.0 c.in_ok-row.row s0 _ (c.in_ok-status.ensures.reads.same clean) (told_of_row c.args.tenant.0 c.end_of-end.result.0 c.in_ok-row.row s0.now.trees (told g (goal.at.set_state-requires-clause-told g c).In_ok-row clean))

pub set_state-requires-clause-fits : goal.set_state-requires-clause-fits
set_state-requires-clause-fits g c =
    told_or c.in_ok-status.field-0 Disk (Ok c.in_ok-row.row) (search rules) IsStorableStatus (λ row some. subst (λ o. IfSome o IsStorableStatus) some c.in_ok-status.ensures.fits)

pub returns : goal.returns
returns g c = record {
  ok = λ clean.
      let t = c.args.tenant.0 in
      let s0 = g.T.LedgerTables.state c.args.tables.now in
      let s1 = g.T.LedgerTables.state c.status.new.tables in
      let s2 = g.T.LedgerTables.state c.set_state.new.tables in
      let clean1 = clean_before s1 s2 c.set_state.ensures.follows clean in
      subst (λ (ends : Option Ending). OnOk c.set_state.result (ChangesRows t (λ rows. CanEnd ends rows.statuses) (λ rows. record rows { statuses = ended ends rows.statuses }) s0 s2)) (sym c.in-Some.is)
      (end_written t c.end_of-end.result.0 c.end_of-end.result.1 s0 s1 s2 c.in-Some.ending c.end_of-end.ensures.id c.end_of-end.ensures.state c.in_ok-row.row (told g (goal.at.returns g c).In_ok-row clean1) (c.in_ok-status.ensures.reads.same clean1) c.set_state.result
      (c.set_state.ensures.ok clean));
  follows = search rules;
}
