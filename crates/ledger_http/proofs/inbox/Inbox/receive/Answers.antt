use Rattle.std.proofs.Common.{is_ok}
use Rattle.ledger_http.proofs.ProgressLemmas.{IsProgress-received}
use Rattle.ledger_http.proofs.inbox.Inbox.receive.Goals as goal

pub invariant_of-self : goal.invariant_of-self
invariant_of-self c =
    IsProgress-received (is_ok c.extend_from_slice.result) c.self.inside.bytes.items _ c.args.piece.now _
    c.self.inside.taken _ c.self.inside.progress
    c.move_up-self-inside.ensures.within c.move_up-self-inside.ensures.same c.extend_from_slice.ensures.items
    c.self.invariant.1
