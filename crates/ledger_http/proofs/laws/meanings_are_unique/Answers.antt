use Rattle.std.proofs.Common.{ap}
use Rattle.ledger_http.specs.Question.{asked_of}
use Rattle.ledger_http.proofs.MeaningLemmas.{one_head}
use Rattle.ledger_http.proofs.laws.meanings_are_unique.Goals as goal

pub returns-clause-head : goal.returns-clause-head
returns-clause-head c = one_head

pub returns-clause-asked : goal.returns-clause-asked
returns-clause-asked c bytes h k first second = ap (asked_of bytes) (one_head bytes h k first second)
