use Rattle.std.proofs.Common.{◌≢◌, ap, refl, subst, List, [], ℕ, take}
use Rattle.clients.specs.Talk.{Talk}
use Rattle.polling.specs.Peers.{Took, Took_none}
use Rattle.polling.specs.Serving.{Stirs}
use Rattle.polling.specs.Standing.{Told_broken}
use Rattle.polling.proofs.OneLemmas.{goes, stalled, taken}
use Rattle.polling.proofs.step.write_some.Goals as goal

pub returns-in-Took : goal.returns-in-Took
returns-in-Took g c = record {
  serves = λ ledgers moments.
      taken c.in-Took.count c.requires c.wrote.ensures
      (subst
      (λ (bytes : List ℕ).
      g.P.Peers.does c.args.peers.now (Took c.args.number (take c.in-Took.count bytes)) c.write.new.self)
      c.unsent.ensures c.in-Took.ensures.1);
  rest = ap (λ (talk : Talk). talk.rest) c.wrote.ensures;
}

pub returns-in-Waits : goal.returns-in-Waits
returns-in-Waits g c = record {
  serves = λ ledgers moments.
      stalled (λ (talk : Talk). talk.unsent ≢ []) c.requires
      (λ talks gone stands tried.
      Stirs (Took_none c.args.number) c.write.new.self tried c.in-Waits.ensures);
  rest = refl;
}

pub returns-in-Broken : goal.returns-in-Broken
returns-in-Broken g c = record {
  serves = λ ledgers moments. goes (λ standing. Told_broken c.in-Broken.ensures);
  rest = refl;
}
