use Rattle.commands.proofs.store_serving.serve_to_end.Goals as goal

pub returns-in-Ok-clause-served : goal.returns-in-Ok-clause-served
returns-in-Ok-clause-served g c =
    rw c.of-kept.ensures at (rw c.in-Ok.is at c.serve_kept-served.ensures.served)

pub returns-in-Err-clause-failed : goal.returns-in-Err-clause-failed
returns-in-Err-clause-failed g c = record {
  kept = c.serve_kept-served.new.kept;
  moments_now = c.serve_kept-served.new.moments;
  peers_now = c.serve_kept-served.new.peers;
  served = rw c.of-kept.ensures at (rw c.in-Err.is at c.serve_kept-served.ensures.served);
}
