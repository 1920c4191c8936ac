use Rattle.std.proofs.Common.{sym, ap, ◌∙◌}
use Rattle.clients.specs.Talk.{is_empty, bytes_of}
use Rattle.clients.proofs.OutboxLemmas.{is_empty-last}
use Rattle.clients.proofs.outbox.Outbox.is_empty.Goals as goal

pub returns : goal.returns
returns c =
    sym (is_empty-last c.self.inside.left (bytes_of c.self.inside.reply) c.self.invariant)
    ∙ ap is_empty c.self.view_is
