use Rattle.std.proofs.Common.{ap, sym, ◌∙◌, ◌++◌}
use Rattle.engine.proofs.ValidMachineLemmas.{sound}
use Rattle.rows.specs.Prescribed.{rows_for, status_rows}
use Rattle.rows.specs.Changes.{with_accepted, ended, new_statuses}
use Rattle.rows.proofs.NextBalances.{balances_push, history_push}
use Rattle.rows.proofs.NextFates.{statuses_push}
use Rattle.rows.proofs.laws.transfer_rows.Goals as goal

pub returns : goal.returns
unfolding rows_for with_accepted
returns c m accepted valid is =
    let s = sound m valid in
    let balances = balances_push m accepted s is in
    let statuses = statuses_push m accepted.stored s is.next ∙ ap (λ ends. ended ends (status_rows m) ++ new_statuses accepted.stored) (sym is.ends) in
    let history = history_push m accepted is in
    λ i. record (with_accepted accepted (rows_for 3 m)) { balances = balances i; statuses = statuses i; history = history i }
