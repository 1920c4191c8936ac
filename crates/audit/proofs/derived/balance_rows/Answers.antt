use Rattle.std.proofs.Common.{ap, ◌∙◌, sym, subst}
use Rattle.std.specs.List.{All}
use Rattle.rows.specs.declared.balance_row.BalanceRow.{BalanceRow}
use Rattle.rows.specs.Prescribed.{rows_for, balance_rows}
use Rattle.rows.specs.Widths.{IsStorableBalance}
use Rattle.audit.specs.Order.{in_order}
use Rattle.audit.proofs.DerivedRows.{has_derived, lacks_derived, own_keys, made_fit, made_ordered}
use Rattle.audit.proofs.derived.balance_rows.Goals as goal

pub returns-then-version-lt2-clause-all : goal.returns-then-version-lt2-clause-all
returns-then-version-lt2-clause-all c m is =
    c.new.ensures.items ∙ ap (in_order (λ (row : BalanceRow). row.account)) (sym (lacks_derived c.args.version m c.if-version-lt2.true).balances)

pub returns-clause-fit : goal.returns-clause-fit
returns-clause-fit c =
    let m = c.requires.0 in
    let is = c.requires.1 in
    let fits = subst (All IsStorableBalance) (has_derived c.args.version m c.if-version-lt2.false).balances (c.known_laws.ensures.fit c.args.version m is.valid).balances in
    made_fit IsStorableBalance c.args.running.now m balance_rows c.balance_rows.result is fits c.balance_rows.ensures.all

pub returns-clause-all : goal.returns-clause-all
unfolding rows_for
returns-clause-all c =
    made_ordered c.known_laws.ensures.balances (λ (row : BalanceRow). row.account) c.args.running.now balance_rows (λ m. (rows_for c.args.version m).balances) c.balance_rows.result
    (λ m valid. (own_keys c.known_laws.ensures.keys m valid).balances)
    (λ m. (has_derived c.args.version m c.if-version-lt2.false).balances) c.balance_rows.ensures.in_order c.balance_rows.ensures.all
