use Rattle.sqlite_wal.specs.Files.{image_at}
use Rattle.commands.proofs.OpeningLemmas.{found_at}
use Rattle.commands.proofs.opening.open_file.Goals as goal

pub returns-in-Err : goal.returns-in-Err
returns-in-Err g c =
    found_at _ (image_at g.St.Start) c.in-Err.fault c.in-Err._files c.open_fault.result
    c.open_fault.ensures.told c.in-Err.ensures.refused
