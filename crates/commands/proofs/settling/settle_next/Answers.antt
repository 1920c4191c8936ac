use Rattle.std.proofs.Common.{inl, inr, [], Ok}
use Rattle.wire.specs.declared.request.Request.TheVariants as asks
use Rattle.service.specs.Courses.{Done}
use Rattle.commands.specs.Settling.{batch_ending}
use Rattle.commands.proofs.BehindLemmas.{both_move}
use Rattle.commands.proofs.OrderLemmas.{rest_so}
use Rattle.commands.proofs.settling.settle_next.Goals as goal

pub returns-in_ok-settle_tenant-in-Ok-Some-clause-settles :
    goal.returns-in_ok-settle_tenant-in-Ok-Some-clause-settles
returns-in_ok-settle_tenant-in-Ok-Some-clause-settles g c =
    let overdue = c.in-Ok-Some.overdue in
    let ending = batch_ending c.settle_tenant.result in
    rw (← c.store.view_is) (inr (
      overdue.digest,
      overdue.until,
      rw (rw c.in-Ok-Some.is at c.in-Ok-Some.field-0-is) at (rw c.in-Ok-Some.is at c.overdue-found.ensures.by),
      ending,
      both_move overdue.digest (Ok (asks.Transfers [])) overdue.until c.store.inside.backend
          c.overdue-found.new.self c.settle_tenant.new.store c.overdue-found.result c.store.invariant c.overdue-found.ensures.reads
          ending c.settle_tenant.ensures,
    ))

pub returns-in_err-settle_tenant-in-Ok-Some-clause-settles :
    goal.returns-in_err-settle_tenant-in-Ok-Some-clause-settles
returns-in_err-settle_tenant-in-Ok-Some-clause-settles g c =
    let overdue = c.in-Ok-Some.overdue in
    let ending = batch_ending c.settle_tenant.result in
    rw (← c.store.view_is) (inr (
      overdue.digest,
      overdue.until,
      rw (rw c.in-Ok-Some.is at c.in-Ok-Some.field-0-is) at (rw c.in-Ok-Some.is at c.overdue-found.ensures.by),
      ending,
      both_move overdue.digest (Ok (asks.Transfers [])) overdue.until c.store.inside.backend
          c.overdue-found.new.self c.settle_tenant.new.store c.overdue-found.result c.store.invariant c.overdue-found.ensures.reads
          ending c.settle_tenant.ensures,
    ))

pub returns-in_ok-settle_tenant-in-Ok-Some-clause-has :
    goal.returns-in_ok-settle_tenant-in-Ok-Some-clause-has
returns-in_ok-settle_tenant-in-Ok-Some-clause-has g c =
    let overdue = c.in-Ok-Some.overdue in rw (← c.store.view_is) (
      rw (rw c.in-Ok-Some.is at c.in-Ok-Some.field-0-is) at (rw c.in-Ok-Some.is at c.overdue-found.ensures.found),
      both_move overdue.digest (Ok (asks.Transfers [])) overdue.until c.store.inside.backend
          c.overdue-found.new.self c.settle_tenant.new.store c.overdue-found.result c.store.invariant c.overdue-found.ensures.reads
          Done c.in_ok-settle_tenant-in-Ok-Some.ensures,
    )

pub returns-in-Ok-None-clause-settles : goal.returns-in-Ok-None-clause-settles
returns-in-Ok-None-clause-settles g c =
    rw (← c.store.view_is) (inl (rest_so c.store.inside.backend c.overdue-found.new.self c.overdue-found.result c.store.invariant c.overdue-found.ensures.reads))

pub returns-in-Err-clause-settles : goal.returns-in-Err-clause-settles
returns-in-Err-clause-settles g c =
    rw (← c.store.view_is) (inl (rest_so c.store.inside.backend c.overdue-found.new.self c.overdue-found.result c.store.invariant c.overdue-found.ensures.reads))
