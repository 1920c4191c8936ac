use Rattle.stored_ledgers.proofs.OverdueLemmas.{whole_search}
use Rattle.stored_ledgers.proofs.laws.whole_search_tells.Goals as goal

pub returns : goal.returns
returns c = whole_search
