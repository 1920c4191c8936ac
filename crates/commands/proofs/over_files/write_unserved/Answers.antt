use Rattle.std.proofs.Common.{Option, Ok, Err}
use Rattle.records.specs.Machine.{Machine}
use Rattle.admin_client.specs.Extracts.{IsAskedTold}
use Rattle.commands.proofs.PieceLemmas.{comes_by_name}
use Rattle.sqlite_wal.specs.Files.{image_at}
use Rattle.commands.proofs.UndoneLemmas.{declined_in, nobody_there, told_as_none}
use Rattle.commands.proofs.over_files.write_unserved.Goals as goal

pub returns-clause-written : goal.returns-clause-written
returns-clause-written g c =
    let reads = rw c.store.view_is at c.in-Ok.ensures.reads in
    let value = rw c.store.view_is at c.in-Ok.ensures.value in
    let wrote = c.in_ok-written.ensures in
    comes_by_name
    (λ (tenant : Option Machine). IsAskedTold g.O.Drain.written tenant c.args.account c.args.asked.now
    c.args.out c.in_ok-written.field-0 (Ok tt))
    (image_at g.St.Start) c.args.tenant.now c.in_ok-digest.digest c.in-Ok.found c.in_ok-store.store
    c.digest_of.new.self c.write_asked-written.new.ledgers c.in_ok-store.ensures
    c.in_ok-digest.ensures.ok_part reads.answers.follows.lived reads.same value
    wrote.reads.follows.0.follows.lived (λ live. wrote.told (live, c.may_be_called.ensures))

pub returns-in_err-digest-clause-fault : goal.returns-in_err-digest-clause-fault
returns-in_err-digest-clause-fault g c =
    let reads = rw c.store.view_is at c.in-Ok.ensures.reads in
    let value = rw c.store.view_is at c.in-Ok.ensures.value in
    let none = c.in_err-digest.ensures in
    declined_in _ (image_at g.St.Start) _ c.in_err-digest.field-0.0 c.from_residual-in_err-digest.result
    c.from_residual-in_err-digest.ensures.1
    (nobody_there _ (image_at g.St.Start) g.O.Drain.written c.args.tenant.now c.args.account
    c.args.asked.now c.args.out c.in_ok-store.store c.digest_of.new.self c.in-Ok.found
    c.in_err-digest.field-0.0 c.in_ok-store.ensures reads.answers.follows.lived
    (told_as_none c.in-Ok.found c.in_err-digest.field-0.0 none.value none.ok_part) none.ok_part
    value)

pub returns-in_err-written-clause-fault : goal.returns-in_err-written-clause-fault
returns-in_err-written-clause-fault g c =
    let reads = rw c.store.view_is at c.in-Ok.ensures.reads in
    let value = rw c.store.view_is at c.in-Ok.ensures.value in
    let wrote = c.in_err-written.ensures in
    let fault = c.in_err-written.field-0.0 in
    declined_in _ (image_at g.St.Start) _ fault c.from_residual-in_err-written.result c.from_residual-in_err-written.ensures.1 (
      c.write_asked-written.new.ledgers,
      comes_by_name
          (λ (tenant : Option Machine). (given : g.row.O.Denot)
          × IsAskedTold g.O.Drain.written tenant c.args.account c.args.asked.now c.args.out given
          (Err fault))
          (image_at g.St.Start) c.args.tenant.now c.in_ok-digest.digest c.in-Ok.found
          c.in_ok-store.store c.digest_of.new.self c.write_asked-written.new.ledgers
          c.in_ok-store.ensures c.in_ok-digest.ensures.ok_part reads.answers.follows.lived reads.same
          value wrote.reads.follows.0.follows.lived
          (λ live. wrote.told (live, c.may_be_called.ensures)),
    )
