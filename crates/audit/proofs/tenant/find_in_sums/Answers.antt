use Rattle.std.proofs.Common.{◌∙◌}
use Rattle.rows.specs.Cells.{balance_cells, status_cells}
use Rattle.rows.specs.TypedRows.{lists_of}
use Rattle.audit.specs.declared.damage.DamageKind.TheVariants as kind
use Rattle.audit.specs.Order.{IsFirstPlace}
use Rattle.audit.specs.Table.{IsWrong}
use Rattle.audit.specs.Told.{machine_told}
use Rattle.audit.proofs.Stages.{answers_found, still_clear, finds_below, first_of_told, same_difference}
use Rattle.audit.proofs.tenant.find_in_sums.Goals.{After-first_difference-balance, After-first_difference-status}
use Rattle.audit.proofs.tenant.find_in_sums.Goals as goal

pub balance_rows-requires : goal.balance_rows-requires
balance_rows-requires c = let r = c.requires.running in (machine_told r.0, r.2)

pub status_rows-requires : goal.status_rows-requires
status_rows-requires c = let r = c.requires.running in (machine_told r.0, r.2)

balances : (c : After-first_difference-balance) → IsFirstPlace (IsWrong c.args.version (lists_of c.args.rows.now) kind.Balance) c.first_difference-balance.result
balances c =
    let r = c.requires.running in
    first_of_told c.cells_tell_rows.ensures c.args.version (lists_of c.args.rows.now) r.0 kind.Balance c.first_difference-balance.result r.1
    (same_difference balance_cells _ _ _ _ c.first_difference-balance.result c.deref.ensures.value (c.deref-2.ensures.value ∙ c.in_ok-balance_rows.ensures.all (machine_told r.0) r.2) c.first_difference-balance.ensures)

statuses : (c : After-first_difference-status) → IsFirstPlace (IsWrong c.args.version (lists_of c.args.rows.now) kind.Status) c.first_difference-status.result
statuses c =
    let r = c.requires.running in
    first_of_told c.cells_tell_rows.ensures c.args.version (lists_of c.args.rows.now) r.0 kind.Status c.first_difference-status.result r.1
    (same_difference status_cells _ _ _ _ c.first_difference-status.result c.deref-3.ensures.value (c.deref-4.ensures.value ∙ c.in_ok-status_rows.ensures.all (machine_told r.0) r.2) c.first_difference-status.ensures)

pub returns-in-Some : goal.returns-in-Some
returns-in-Some c =
    let at = goal.at.returns-in-Some c in
    let rows = lists_of c.args.rows.now in
    let v = c.args.version in
    finds_below v rows 6 _ _ c.damage_at.ensures (answers_found v rows kind.Balance c.in-Some.place c.first_difference-balance.result c.damage_at.result c.requires.clear (balances at.After-first_difference-balance) c.in-Some.is c.damage_at.ensures)

pub returns-in-Some-status : goal.returns-in-Some-status
returns-in-Some-status c =
    let at = goal.at.returns-in-Some-status c in
    let rows = lists_of c.args.rows.now in
    let v = c.args.version in
    let clear = still_clear v rows kind.Balance c.first_difference-balance.result c.requires.clear (balances at.After-first_difference-balance) c.in_default.is in
    finds_below v rows 6 _ _ c.damage_at-in-Some-status.ensures (answers_found v rows kind.Status c.in-Some-status.place c.first_difference-status.result c.damage_at-in-Some-status.result clear (statuses at.After-first_difference-status) c.in-Some-status.is c.damage_at-in-Some-status.ensures)

pub returns : goal.returns
returns c =
    let at = goal.at.returns c in
    let rows = lists_of c.args.rows.now in
    let v = c.args.version in
    let clear = still_clear v rows kind.Balance c.first_difference-balance.result c.requires.clear (balances at.After-first_difference-balance) c.in_default.is in
    still_clear v rows kind.Status c.first_difference-status.result clear (statuses at.After-first_difference-status) c.in-None.is
