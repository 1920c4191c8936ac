use Rattle.commands.proofs.HeldLemmas.{none_was}
use Rattle.commands.proofs.OpeningLemmas.{making_found_in}
use Rattle.commands.proofs.opening.make_in.Goals as goal

pub returns-in-Ok-clause-made : goal.returns-in-Ok-clause-made
returns-in-Ok-clause-made g c image yields = record {
  usable = c.in-Ok.ensures.usable;
  made = λ honest. record {
    live = (c.in-Ok.ensures.empty honest).0;
    empty = (c.in-Ok.ensures.empty honest).1;
    blank =
        none_was g.D.Disk image g.met.D.Disk.seen_may_stay c.args.files (c.in-Ok.ensures.honest honest)
        yields (c.in-Ok.ensures.blank honest);
  };
}

pub returns-in-Err-clause-fault : goal.returns-in-Err-clause-fault
returns-in-Err-clause-fault g c image yields =
    making_found_in g.D.Disk g.met.D.Disk.seen_may_stay image c.args.files c.in-Err._files
    c.in-Err.fault c.open_fault.result c.open_fault.ensures.told yields c.in-Err.ensures.refused
