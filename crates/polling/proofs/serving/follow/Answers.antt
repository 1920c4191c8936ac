use Rattle.polling.proofs.AllLemmas.{owed_for}
use Rattle.polling.proofs.CloseLemmas.{went_at}
use Rattle.polling.proofs.SeatLemmas.{asked_at, rested_at}
use Rattle.polling.proofs.serving.follow.Goals as goal

pub returns-in-More-clause-followed : goal.returns-in-More-clause-followed
returns-in-More-clause-followed g c ledgers ledgers_now moments moments_now peers seats next idle
    replies turn =
    let had = rw c.in-More.is at turn in
    asked_at had.was had.now had.served c.again.ensures

pub returns-in-Waits-clause-followed : goal.returns-in-Waits-clause-followed
returns-in-Waits-clause-followed g c ledgers ledgers_now moments moments_now peers seats next idle
    replies turn =
    let had = rw c.in-Waits.is at turn in
    owed_for (rested_at had.was had.now had.served) (λ never. absurd never)

pub returns-in-Goes-clause-followed : goal.returns-in-Goes-clause-followed
returns-in-Goes-clause-followed g c ledgers ledgers_now moments moments_now peers seats next idle
    replies turn =
    let had = rw c.in-Goes.is at turn in
    owed_for (went_at had.was had.now c.unseat.ensures.now had.served c.close.ensures)
    (λ never. absurd never)
