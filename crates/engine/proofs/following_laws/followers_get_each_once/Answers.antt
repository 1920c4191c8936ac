use Rattle.engine.proofs.Followers.{begin, onward, arrive}
use Rattle.engine.proofs.following_laws.followers_get_each_once.Goals as goal

pub returns-clause-begin : goal.returns-clause-begin
returns-clause-begin c = begin

pub returns-clause-onward : goal.returns-clause-onward
returns-clause-onward c = onward

pub returns-clause-all : goal.returns-clause-all
returns-clause-all c = arrive
