use Rattle.engine.proofs.Following.{spans_stay, pages_stay}
use Rattle.engine.proofs.following_laws.what_was_told_stays.Goals as goal

pub returns-clause-spans : goal.returns-clause-spans
returns-clause-spans c = spans_stay

pub returns-clause-pages : goal.returns-clause-pages
returns-clause-pages c = pages_stay
