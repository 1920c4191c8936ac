use Rattle.std.proofs.Common.{rules}
use Rattle.stored_ledgers.proofs.rounds.run_round.Goals as goal

pub returns-in-None-clause-grows : goal.returns-in-None-clause-grows
returns-in-None-clause-grows g c trees covered =
    let grows = c.replace_with-ran.ensures.1.0.3.grows trees covered in search (rules, grows)
