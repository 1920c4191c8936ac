use Rattle.clients.specs.Answering.{IsWanting}
use Rattle.clients.specs.Talk.{Talk}
use Rattle.polling.specs.Peers.{Gave_none}
use Rattle.polling.specs.Serving.{Stirs}
use Rattle.polling.specs.Standing.{Told_broken}
use Rattle.polling.proofs.OneLemmas.{goes, loses, came, ended, stalled}
use Rattle.polling.proofs.step.read_some.Goals as goal

pub returns-in-Ok : goal.returns-in-Ok
returns-in-Ok g c ledgers moments = came _ c.requires c.in-Ok.ensures.ok c.in-Gave.ensures.read.1

pub returns-in-Err : goal.returns-in-Err
returns-in-Err g c ledgers moments = loses _ c.requires c.in-Err.ensures.err c.in-Gave.ensures.read.1

pub returns-in-Ended : goal.returns-in-Ended
returns-in-Ended g c ledgers moments = ended c.requires c.end.ensures c.in-Ended.ensures.read

pub returns-in-Waits : goal.returns-in-Waits
returns-in-Waits g c ledgers moments =
    stalled (λ (talk : Talk). IsWanting talk.unread) c.requires
    (λ talks gone stands tried.
    Stirs (Gave_none c.args.number) c.read.new.self tried c.in-Waits.ensures.read)

pub returns-in-Broken : goal.returns-in-Broken
returns-in-Broken g c ledgers moments = goes (λ standing. Told_broken c.in-Broken.ensures.read)
