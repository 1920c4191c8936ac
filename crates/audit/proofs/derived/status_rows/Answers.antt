use Rattle.std.proofs.Common.{ap, ◌∙◌, sym, subst}
use Rattle.std.specs.List.{All}
use Rattle.rows.specs.declared.status_row.StatusRow.{StatusRow}
use Rattle.rows.specs.Prescribed.{rows_for, status_rows}
use Rattle.rows.specs.Widths.{IsStorableStatus}
use Rattle.audit.specs.Order.{in_order}
use Rattle.audit.proofs.DerivedRows.{has_derived, lacks_derived, own_keys, made_fit, made_ordered}
use Rattle.audit.proofs.derived.status_rows.Goals as goal

pub returns-then-version-lt2-clause-all : goal.returns-then-version-lt2-clause-all
returns-then-version-lt2-clause-all c m is =
    c.new.ensures.items ∙ ap (in_order (λ (row : StatusRow). row.transfer)) (sym (lacks_derived c.args.version m c.if-version-lt2.true).statuses)

pub returns-clause-fit : goal.returns-clause-fit
returns-clause-fit c =
    let m = c.requires.0 in
    let is = c.requires.1 in
    let fits = subst (All IsStorableStatus) (has_derived c.args.version m c.if-version-lt2.false).statuses (c.known_laws.ensures.fit c.args.version m is.valid).statuses in
    made_fit IsStorableStatus c.args.running.now m status_rows c.status_rows.result is fits c.status_rows.ensures.all

pub returns-clause-all : goal.returns-clause-all
unfolding rows_for
returns-clause-all c =
    made_ordered c.known_laws.ensures.statuses (λ (row : StatusRow). row.transfer) c.args.running.now status_rows (λ m. (rows_for c.args.version m).statuses) c.status_rows.result
    (λ m valid. (own_keys c.known_laws.ensures.keys m valid).statuses)
    (λ m. (has_derived c.args.version m c.if-version-lt2.false).statuses) c.status_rows.ensures.in_order c.status_rows.ensures.all
