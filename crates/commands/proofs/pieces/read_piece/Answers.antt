use Rattle.std.proofs.Common.{inl, inr, Ok}
use Rattle.wire.specs.declared.read.Read.TheVariants as read
use Rattle.wire.specs.declared.request.Request.TheVariants as asks
use Rattle.commands.specs.Endings.{ending_told}
use Rattle.commands.proofs.OrderLemmas.{rest_so}
use Rattle.commands.proofs.BehindLemmas.{both_move}
use Rattle.commands.proofs.PieceLemmas.{told_by_name}
use Rattle.commands.proofs.pieces.read_piece.Goals as goal

pub returns-in-Ok-Some-clause-told : goal.returns-in-Ok-Some-clause-told
returns-in-Ok-Some-clause-told g c live =
    let lived = c.entries_of.ensures.lived live in
    rw (← c.store.view_is) (told_by_name c.args.account c.args.span.now c.args.tenant.now c.in-Ok-Some.digest c.in-Ok-Some.field-0
    c.store.inside.backend c.digest_of-found.new.self c.entries_of.result (rw c.in-Ok-Some.is at c.in-Ok-Some.field-0-is) (c.digest_of-found.ensures.reads.same lived)
    ((rw c.in-Ok-Some.is at c.digest_of-found.ensures.value) lived) (c.entries_of.ensures.told live))

pub returns-in-Ok-Some-clause-read : goal.returns-in-Ok-Some-clause-read
returns-in-Ok-Some-clause-read g c =
    rw (← c.store.view_is) (inr (
      _,
      both_move _ (Ok (asks.Read (read.Statement c.args.account))) 0 c.store.inside.backend c.digest_of-found.new.self
          c.entries_of.new.store
          c.digest_of-found.result c.store.invariant c.digest_of-found.ensures.reads (ending_told c.entries_of.result)
          c.entries_of.ensures.moves,
    ))

pub returns-in-Ok-None-clause-read : goal.returns-in-Ok-None-clause-read
returns-in-Ok-None-clause-read g c =
    rw (← c.store.view_is)
    (inl (rest_so c.store.inside.backend c.digest_of-found.new.self c.digest_of-found.result c.store.invariant c.digest_of-found.ensures.reads))

pub returns-in-Err-clause-read : goal.returns-in-Err-clause-read
returns-in-Err-clause-read g c =
    rw (← c.store.view_is)
    (inl (rest_so c.store.inside.backend c.digest_of-found.new.self c.digest_of-found.result c.store.invariant c.digest_of-found.ensures.reads))
