use Rattle.std.proofs.Common.{◌≡◌, ◌≤◌, ◌-◌, true}
use Rattle.service.specs.Connections.{connection, HasReplied}
use Rattle.service.proofs.serving.serve.Given as goal

-- So many replies are written, no call has failed, and what calls keep of the ledgers is kept.
abbrev pub invariant-loop-replies : goal.invariant-loop-replies
invariant-loop-replies g l = record {
  replied :
      HasReplied g.L.Ledgers.means g.C.Moments.gives
      (connection l.fn.ledgers (g.R.Source.left l.fn.reader) l.fn.moments true)
      (g.W.Drain.written l.fn.writer) l.replies
      (connection l.ledgers (g.R.Source.left l.reader) l.moments true)
      (g.W.Drain.written l.writer);
  reads : g.R.Source.failed l.reader ≡ g.R.Source.failed l.fn.reader;
  writes : g.W.Drain.failed l.writer ≡ g.W.Drain.failed l.fn.writer;
  follows : g.L.Ledgers.means.follows l.fn.ledgers l.ledgers;
  few : l.replies ≤ l.most;
}

abbrev pub decreases-loop-replies : goal.decreases-loop-replies
decreases-loop-replies g l = l.most - l.replies
