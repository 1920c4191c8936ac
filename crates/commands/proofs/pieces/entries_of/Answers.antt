use Rattle.std.proofs.Common.{Result, ◌∙◌, ap, sym, subst}
use Rattle.chain.specs.Backends.{in_use}
use Rattle.service.specs.Courses.{Ending, Tried}
use Rattle.service.specs.Openings.{run_meaning, Moves}
use Rattle.store.specs.StoreLaws.{store_meaning}
use Rattle.store.specs.Stores.{tenants_of}
use Rattle.command_texts.specs.declared.fault.Fault.{Fault}
use Rattle.commands.specs.Endings.{ending_told}
use Rattle.commands.specs.Pieces.{asked_for, IsPieceTold}
use Rattle.commands.specs.declared.orders.Done.{Done}
use Rattle.commands.proofs.PartLemmas.{read_ending, read_moves}
use Rattle.commands.proofs.PieceLemmas.{ended_so, told_by}
use Rattle.commands.proofs.pieces.entries_of.Goals as goal

pub returns-clause-told : goal.returns-clause-told
returns-clause-told g c live =
    subst
    (λ (told : Result Done Fault).
    IsPieceTold c.args.account c.args.span.now (tenants_of c.args.store.now c.args.digest.now) told)
    (sym c.piece_told.ensures)
    (told_by c.args.account c.args.span.now (tenants_of c.args.store.now c.args.digest.now)
    c.read_piece-read.result (c.read_piece-read.ensures.told (live, c.is_settled.ensures.usable)))

pub returns-clause-moves : goal.returns-clause-moves
returns-clause-moves g c =
    subst
    (λ (ending : Ending).
    Moves (run_meaning (in_use (store_meaning {D = g.row.D.Denot} {g = g.D.Disk}))) c.args.store.now
    (Tried (asked_for c.args.digest.now c.args.account) ending) c.read_piece-read.new.ledgers)
    (sym (ap ending_told c.piece_told.ensures ∙ ended_so c.read_piece-read.result))
    (read_moves (in_use (store_meaning {D = g.row.D.Denot} {g = g.D.Disk})) c.args.digest.now c.args.account
    c.args.store.now c.read_piece-read.new.ledgers c.read_piece-read.result c.read_piece-read.ensures.reads
    c.read_piece-read.ensures.finds
    c.is_settled.ensures.settled
    (λ live. (
      c.read_piece-read.ensures.reads.follows.0.follows.lived live.0,
      c.read_piece-read.ensures.reads.follows.1 live.1,
    )))

pub returns-clause-lived : goal.returns-clause-lived
returns-clause-lived g c live = c.read_piece-read.ensures.reads.follows.0.follows.lived live
