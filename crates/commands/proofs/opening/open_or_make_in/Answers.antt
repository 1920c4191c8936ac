use Rattle.std.proofs.Common.{rules}
use Rattle.sqlite_wal.specs.Files.{image_at}
use Rattle.commands.specs.Openings.{RefusesImage}
use Rattle.commands.proofs.HeldLemmas.{others_stay}
use Rattle.commands.proofs.OpeningLemmas.{err_told, found_at}
use Rattle.commands.proofs.opening.open_or_make_in.Goals as goal

pub returns-in_ok-make_in-in-Err-NotALedger-Some : goal.returns-in_ok-make_in-in-Err-NotALedger-Some
returns-in_ok-make_in-in-Err-NotALedger-Some g c =
    let told = c.in-Err-NotALedger-Some in
    c.in_ok-make_in-in-Err-NotALedger-Some.ensures.made (image_at g.St.Start)
    (others_stay _ (image_at g.St.Start) told.field-0-0 told.field-0-1 told.files told.field-0-0-is
    told.field-0-1-is told.ensures.refused)

pub returns-in_err-make_in-in-Err-NotALedger-Some : goal.returns-in_err-make_in-in-Err-NotALedger-Some
returns-in_err-make_in-in-Err-NotALedger-Some g c =
    let told = c.in-Err-NotALedger-Some in
    err_told _ (RefusesImage _ (image_at g.St.Start))
    c.from_residual-in_err-make_in-in-Err-NotALedger-Some.result
    c.in_err-make_in-in-Err-NotALedger-Some.field-0.0
    c.from_residual-in_err-make_in-in-Err-NotALedger-Some.ensures.1
    (c.in_err-make_in-in-Err-NotALedger-Some.ensures.fault (image_at g.St.Start)
    (others_stay _ (image_at g.St.Start) told.field-0-0 told.field-0-1 told.files told.field-0-0-is
    told.field-0-1-is told.ensures.refused))

pub returns-in-Err : goal.returns-in-Err
returns-in-Err g c =
    found_at _ (image_at g.St.Start) c.in-Err.fault c.in-Err._files c.open_fault.result
    (search rules) c.in-Err.ensures.refused
