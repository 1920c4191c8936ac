use Rattle.plain.proofs.BatchLemmas.{copies_keep}
use Rattle.plain.proofs.book.Book.copy.Goals as goal

pub returns : goal.returns
returns c =
    rw (← c.self.view_is) (copies_keep _ _ c.in_ok-clone.ensures.cases.0)
