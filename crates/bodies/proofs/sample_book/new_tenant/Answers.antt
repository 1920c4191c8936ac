use Rattle.std.proofs.Common.{ap}
use Rattle.chain.specs.Tables.{State}
use Rattle.bodies.proofs.Opened.{opens}
use Rattle.bodies.proofs.sample_book.new_tenant.Goals as goal

pub returns : goal.returns
returns c =
    let left = ap (λ (s : State). s.now) (c.in_ok-run_accounts.ensures.leaves.state tt) in
    rw (left, c.new-tables.ensures.state, c.account.ensures, c.account-2.ensures) opens
