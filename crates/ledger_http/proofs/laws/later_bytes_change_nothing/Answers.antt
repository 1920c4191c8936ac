use Rattle.ledger_http.proofs.LaterLemmas.{begins-append, refused-append, announced-append}
use Rattle.ledger_http.proofs.laws.later_bytes_change_nothing.Goals as goal

pub returns-clause-begins : goal.returns-clause-begins
returns-clause-begins c = begins-append

pub returns-clause-refused : goal.returns-clause-refused
returns-clause-refused c = refused-append

pub returns-clause-announced : goal.returns-clause-announced
returns-clause-announced c = announced-append
