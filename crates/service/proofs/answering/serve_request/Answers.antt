use Rattle.service.proofs.CallLemmas.{begins_as_asked}
use Rattle.service.proofs.answering.serve_request.Goals as goal

pub returns-in-Accounts : goal.returns-in-Accounts
returns-in-Accounts g c =
    begins_as_asked c.in-Accounts.is c.begin.ensures

pub returns-in-Transfers : goal.returns-in-Transfers
returns-in-Transfers g c =
    begins_as_asked c.in-Transfers.is c.begin-in-Transfers.ensures

pub returns-in-Read : goal.returns-in-Read
returns-in-Read g c =
    begins_as_asked c.in-Read.is (c.begin_read.ensures c.args.moment)
