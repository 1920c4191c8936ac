use Rattle.whole_runs.proofs.FoundNames.{names_left}
use Rattle.whole_runs.proofs.stored.InUseStoreReopening.reply_to_round.Goals as goal

pub returns-clause-named : goal.returns-clause-named
returns-clause-named g c =
    names_left c.args.self.now c.respond_round.new.ledgers c.respond_round.ensures.follows.0

pub returns-clause-failed : goal.returns-clause-failed
returns-clause-failed g c shut = c.respond_round.ensures.follows.0.shut shut
