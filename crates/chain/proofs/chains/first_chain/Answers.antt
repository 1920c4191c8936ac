use Rattle.chain.proofs.ChainCutting.{closed_chain, open_chain}
use Rattle.chain.proofs.chains.first_chain.Goals as goal

pub returns-in-Some-clause-first : goal.returns-in-Some-clause-first
returns-in-Some-clause-first g c =
    closed_chain g.E.BatchEvent.rules.linked c.args.batch.now c.in-Some.last c.in-Some.ensures

pub returns-in-None-clause-first : goal.returns-in-None-clause-first
returns-in-None-clause-first g c =
    open_chain g.E.BatchEvent.rules.linked c.args.batch.now c.requires c.in-None.ensures
