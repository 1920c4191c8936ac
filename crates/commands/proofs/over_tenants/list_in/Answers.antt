use Rattle.commands.proofs.HeldLemmas.{listed_then}
use Rattle.commands.proofs.over_tenants.list_in.Goals as goal

pub returns-clause-listed : goal.returns-clause-listed
returns-clause-listed g c =
    let read = c.in-Ok.ensures in
    let told = c.in_ok-put_listed.ensures.listed in
    record {
      comes = record {
        first = c.in_ok-store.store;
        begun = c.in_ok-store.ensures;
        lived = rw (← c.store.view_is) read.reads.answers.follows.lived;
        is = λ live.
            rw (← c.store.view_is) (listed_then c.store.inside.backend c.tenants.new.self (g.O.Drain.written c.args.out.now)
            (g.O.Drain.written c.put_listed.new.out) c.in-Ok.tenants.items c.as_slice.result.now
            c.in_ok-body.body.items c.as_slice-2.result.now told.0 live (read.value live)
            c.as_slice.ensures.value c.in_ok-body.ensures c.as_slice-2.ensures.value told.1
            told.2);
      };
      stays = λ honest. read.reads.answers.open_yet honest (λ is. absurd (let e = is in cc));
    }
