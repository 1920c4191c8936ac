use Rattle.sqlite_wal.specs.Files.{image_at}
use Rattle.migrate.specs.Ledgers.{RefusesFiles}
use Rattle.migrate.specs.Told.{TellsAny}
use Rattle.commands.proofs.OpeningLemmas.{at_path}
use Rattle.commands.proofs.opening.open_to_migrate.Goals as goal

pub returns-in-Err-clause-fault : goal.returns-in-Err-clause-fault
returns-in-Err-clause-fault g c =
    at_path _ TellsAny (RefusesFiles _) (image_at g.St.Start) c.in-Err.fault c.in-Err._files
    c.open_fault.result c.open_fault.ensures.told (λ files left refuses. (refuses.told, refuses.stay))
    c.in-Err.ensures.refused
