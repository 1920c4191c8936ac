use Rattle.sqlite_wal.specs.Files.{image_at}
use Rattle.commands.proofs.OpeningLemmas.{found_own}
use Rattle.commands.proofs.opening.open_measured.Goals as goal

pub returns-in-Err-clause-fault : goal.returns-in-Err-clause-fault
returns-in-Err-clause-fault g c =
    found_own _ (image_at g.St.Start) c.measured-files.result c.in-Err._files c.in-Err.fault
    (rw (c.measured-files.ensures.log, c.measured-files.ensures.db)
    c.in_ok-files_at.ensures.held.holds)
    c.in-Err.ensures.refused
