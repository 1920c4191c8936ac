use Rattle.sqlite_wal.specs.Files.{image_at}
use Rattle.commands.proofs.OpeningLemmas.{making_found_at}
use Rattle.commands.proofs.opening.make.Goals as goal

pub returns-in-Ok : goal.returns-in-Ok
returns-in-Ok g c = record {
  usable = c.in-Ok.ensures.usable;
  made = λ honest. record {
    live = (c.in-Ok.ensures.empty honest).0;
    empty = (c.in-Ok.ensures.empty honest).1;
    blank = ∣ c.in-Ok.ensures.blank honest ∣₁;
  };
}

pub returns-in-Err : goal.returns-in-Err
returns-in-Err g c =
    making_found_at _ (image_at g.St.Start) c.in-Err.fault c.in-Err._files c.open_fault.result
    c.open_fault.ensures.told c.in-Err.ensures.refused
