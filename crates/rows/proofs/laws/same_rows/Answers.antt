use Rattle.std.proofs.Common.{ℕ}
use Rattle.rows.specs.Prescribed.{rows_for}
use Rattle.rows.proofs.AnyOrder.{same_by_permutation}
use Rattle.rows.proofs.InOrder.{opened_at, made_at, accounts_ascend, transfers_ascend, failed_ascend}
use Rattle.rows.proofs.laws.same_rows.Goals as goal

pub returns : goal.returns
unfolding rows_for
returns c m n valid other same =
    let accounts = same_by_permutation opened_at m.accounts n.accounts (accounts_ascend m valid) (accounts_ascend n other) same.accounts in
    let transfers = same_by_permutation made_at m.transfers n.transfers (transfers_ascend m valid) (transfers_ascend n other) same.transfers in
    let failed = same_by_permutation (λ (id : ℕ). id) m.failed n.failed (failed_ascend m valid) (failed_ascend n other) same.failed in
    λ i. record { accounts = accounts i; transfers = transfers i; clock = same.clock i; failed = failed i }
