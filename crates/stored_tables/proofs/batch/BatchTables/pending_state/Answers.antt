use Rattle.std.proofs.Common.{◌≡◌, ℕ, Option, ap, subst, ◌∙◌, rules}
use Rattle.std.specs.Option.{option_map}
use Rattle.records.specs.Machine.{Machine}
use Rattle.chain.specs.Tables.{LooksUp, pending_state_of}
use Rattle.rows.specs.declared.status_row.StatusRow.{StatusRow}
use Rattle.stored_tables.specs.Idle.{LearnsOf}
use Rattle.stored_tables.proofs.Keeping.{found}
use Rattle.stored_tables.proofs.Numbers.{passed}
use Rattle.stored_tables.proofs.RowsTell.{same_themselves}
use Rattle.stored_tables.proofs.TablesLeave.{tables_looked_up, told_more, told_none}
use Rattle.stored_tables.proofs.batch.BatchTables.pending_state.Goals.{After-or_give_up}
use Rattle.stored_tables.proofs.batch.BatchTables.pending_state.Goals as goal

-- what is read tells the state
abbrev Tells : ℕ → Machine → Option StatusRow → Type 0
Tells id m row = option_map (λ (row : StatusRow). row.state) row ≡ pending_state_of m id

learnt : (g : _) (c : After-or_give_up g) → LearnsOf c.args.self.now.tenant.0 (Tells c.args.id) (g.T.LedgerTables.state c.args.self.now.tables.now) (g.T.LedgerTables.state c.find_status-found.new.self) c.find_status-found.result
learnt g c =
    found g.T.LedgerTables.state _ c.args.self.now.tables.now c.find_status-found.new.self _ (Tells c.args.id) _ _
    (λ m trees row held fits told.
    ap (option_map (λ (row : StatusRow). row.state)) (c.point_reads.ensures.status _ m trees c.args.id row held c.ranges.id.fits fits told) ∙ (c.single_rows.ensures m _ c.args.id held.valid (same_themselves _)).state)
    (rw (passed c.args.self.now.tenant.0 (search rules)) at c.find_status-found.ensures)

pub returns-in_err-row : goal.returns-in_err-row
returns-in_err-row g c =
    let told = tables_looked_up g.T.LedgerTables.state _ c.args.self.now c.or_give_up.new.tables c.or_give_up.result c.find_status-found.new.self (Tells c.args.id) _ c.requires (learnt g (goal.at.returns-in_err-row g c).After-or_give_up) c.or_give_up.ensures in
    told_none _ _ _ (Tells c.args.id) _ _ _ told c.in_err-row.field-0.0 (search rules) (search rules)

pub returns : goal.returns
returns g c =
    let told = tables_looked_up g.T.LedgerTables.state _ c.args.self.now c.or_give_up.new.tables c.or_give_up.result c.find_status-found.new.self (Tells c.args.id) _ c.requires (learnt g (goal.at.returns g c).After-or_give_up) c.or_give_up.ensures in
    let mapped : c.map.result ≡ option_map (λ (row : StatusRow). row.state) c.in_ok-row.row = search rules in
    told_more _ _ _ (Tells c.args.id) _ c.in_ok-row.row c.map.result (λ m is. mapped ∙ is) (subst (LooksUp _ (Tells c.args.id) _ _) c.in_ok-row.was told)
