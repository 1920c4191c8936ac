use Rattle.std.proofs.Common.{refl}
use Rattle.running.proofs.NextEntry.{new_tenant}
use Rattle.running.proofs.running.Running.new.Goals as goal

pub returns : goal.returns
returns c = new_tenant _ refl refl c.new.ensures.empty c.new-2.ensures c.new-3.ensures
