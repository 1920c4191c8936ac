use Rattle.service.proofs.AttendingLemmas.{books_nothing}
use Rattle.service.proofs.laws.service_books_nothing.Goals as goal

pub returns : goal.returns
returns c = books_nothing
