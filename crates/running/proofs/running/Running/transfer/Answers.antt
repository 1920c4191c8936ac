use Rattle.rows.specs.Prescribed.{rows_for}
use Rattle.running.proofs.running.Running.transfer.Goals as goal

pub returns : goal.returns
unfolding rows_for
returns c m is = c.get.ensures m.transfers is.agrees.transfers
