use Rattle.std.proofs.Common.{refl, subst}
use Rattle.control.specs.Bodies.{IsStoppedIn}
use Rattle.commands.proofs.over_files.run_stop.Goals as goal

pub returns : goal.returns
returns g c = record {
  line = c.in_ok-put_stopped.ensures.ok;
  told = (
    _,
    refl,
    c.in_ok-answer.ensures.answer,
    subst IsStoppedIn c.body.ensures c.in_ok-stopped_in.ensures.told,
  );
  calm = (refl, refl);
  brief = refl;
  fault = tt;
}
