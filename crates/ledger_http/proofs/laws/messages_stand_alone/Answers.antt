use Rattle.ledger_http.proofs.MeaningLemmas.{stands_alone}
use Rattle.ledger_http.proofs.laws.messages_stand_alone.Goals as goal

pub returns : goal.returns
returns c = stands_alone
