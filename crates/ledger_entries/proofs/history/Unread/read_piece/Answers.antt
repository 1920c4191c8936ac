use Rattle.std.proofs.Common.{arith}
use Rattle.ledger_entries.proofs.PieceLemmas.{further_piece, last_piece}
use Rattle.ledger_entries.proofs.history.Unread.read_piece.Goals as goal

pub returns-then-len-most-clause-piece : goal.returns-then-len-most-clause-piece
returns-then-len-most-clause-piece g c clean =
    last_piece c.args.self.now _ _ c.in_ok-rows.rows.items (c.in_ok-rows.ensures.read clean) c.args.self.now (omega arith)

pub returns-clause-piece : goal.returns-clause-piece
returns-clause-piece g c clean =
    let apart = rw c.deref.ensures.value at (c.ends_with.ensures c.if-ends_with.false) in
    further_piece c.args.self.now _ _ c.in_ok-rows.rows.items (c.in_ok-rows.ensures.read clean) c.start_at.new.self c.take_last-next.new.self.items c.take_last-next.result c.take_last-next.ensures.items apart
    c.in_ok-start_at.ensures.start c.in_ok-start_at.ensures.stop c.in_ok-start_at.ensures.direction
