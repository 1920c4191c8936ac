use Rattle.stored_ledgers.proofs.NamedLemmas.{joining_gives_name, keying_gives_name}
use Rattle.stored_ledgers.proofs.laws.names_are_given.Goals as goal

pub returns-clause-joining : goal.returns-clause-joining
returns-clause-joining c = joining_gives_name

pub returns-clause-keying : goal.returns-clause-keying
returns-clause-keying c = keying_gives_name
