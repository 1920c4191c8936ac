use Rattle.engine.proofs.ValidMachineLemmas.{sound}
use Rattle.rows.specs.Prescribed.{rows_for}
use Rattle.rows.specs.Changes.{with_opened}
use Rattle.rows.proofs.NextBalances.{balances_open}
use Rattle.rows.proofs.laws.account_rows.Goals as goal

pub returns : goal.returns
unfolding rows_for with_opened
returns c m account valid next =
    let balances = balances_open m account (sound m valid) next in
    λ i. record (with_opened account (rows_for 3 m)) { balances = balances i }
