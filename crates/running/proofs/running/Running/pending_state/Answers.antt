use Rattle.std.proofs.Common.{ap, ◌∙◌}
use Rattle.std.specs.Option.{option_map}
use Rattle.rows.specs.declared.status_row.StatusRow.{StatusRow}
use Rattle.rows.specs.Prescribed.{rows_for}
use Rattle.running.proofs.NextEntry.{same_itself}
use Rattle.running.proofs.running.Running.pending_state.Goals as goal

pub returns : goal.returns
returns c m is =
    c.state_of.ensures ∙ ap (option_map (λ (row : StatusRow). row.state)) (c.get.ensures (rows_for 3 m).statuses is.agrees.statuses)
    ∙ (c.single_rows.ensures m (rows_for 3 m) c.args.id is.valid (same_itself (rows_for 3 m))).state
