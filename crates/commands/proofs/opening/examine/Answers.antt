use Rattle.std.proofs.Common.{rules}
use Rattle.sqlite_wal.specs.Files.{image_at}
use Rattle.commands.proofs.HeldLemmas.{damage_there}
use Rattle.commands.proofs.OpeningLemmas.{found_at}
use Rattle.commands.proofs.opening.examine.Goals as goal

pub returns-in-Err-Damaged-Some : goal.returns-in-Err-Damaged-Some
returns-in-Err-Damaged-Some g c =
    let told = c.in-Err-Damaged-Some in
    damage_there _ _ told.field-0-0 told.damage told.field-0-1 told.files told.field-0-0-is
    told.field-0-1-is told.ensures.refused

pub returns-in-Err : goal.returns-in-Err
returns-in-Err g c =
    found_at _ (image_at g.St.Start) c.in-Err.fault c.in-Err._files c.open_fault.result
    (search rules) c.in-Err.ensures.refused
