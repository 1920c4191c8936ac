use Rattle.std.proofs.Common.{List, inl, inr, subst}
use Rattle.std.specs.Io.KnownBytes.{Appends}
use Rattle.chain.specs.declared.account_entry.AccountEntry.{AccountEntry}
use Rattle.control.specs.declared.piece_asked.PieceAsked.{PieceAsked}
use Rattle.admin_client.specs.Served.{OfAllPieces, served_text}
use Rattle.sqlite_wal.specs.Files.{image_at}
use Rattle.commands.proofs.UndoneLemmas.{undone_in}
use Rattle.commands.proofs.over_files.write.Goals as goal

pub returns-in_ok-written-in-Some-clause-written : goal.returns-in_ok-written-in-Some-clause-written
returns-in_ok-written-in-Some-clause-written g c =
    let first = c.in-Some.first in
    let told = rw c.in-Some.is at c.in_ok-first.ensures in (
      first.entries,
      told.told,
      subst
          (λ (piece : PieceAsked). OfAllPieces piece first.entries
          (λ (entries : List AccountEntry). Appends (g.O.Drain.written c.args.out)
          (g.O.Drain.written c.write_served-out.result.0)
          (served_text piece.account c.args.asked.now entries)))
          told.piece (rw c.in_ok-written-in-Some.was at c.write_served-out.ensures.written),
    )

pub returns-in_err-written-in-Some-clause-fault : goal.returns-in_err-written-in-Some-clause-fault
returns-in_err-written-in-Some-clause-fault g c =
    undone_in _ (image_at g.St.Start) _ c.in_err-written-in-Some.field-0.0 c.from_residual-in_err-written-in-Some.result
    c.from_residual-in_err-written-in-Some.ensures.1
    (inl (rw c.in_err-written-in-Some.was at c.write_served-out.ensures.written))

pub returns-in_err-out-in-None-clause-fault : goal.returns-in_err-out-in-None-clause-fault
returns-in_err-out-in-None-clause-fault g c =
    undone_in _ (image_at g.St.Start) _ c.in_err-out-in-None.field-0.0 c.from_residual-in_err-out-in-None.result
    c.from_residual-in_err-out-in-None.ensures.1 (inr c.in_err-out-in-None.ensures.fault)
