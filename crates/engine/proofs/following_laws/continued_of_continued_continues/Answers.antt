use Rattle.engine.proofs.Following.{continues_same, continues_more}
use Rattle.engine.proofs.following_laws.continued_of_continued_continues.Goals as goal

pub returns-clause-itself : goal.returns-clause-itself
returns-clause-itself c = continues_same

pub returns-clause-onward : goal.returns-clause-onward
returns-clause-onward c = continues_more
