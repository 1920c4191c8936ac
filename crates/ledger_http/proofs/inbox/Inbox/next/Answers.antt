use Rattle.std.proofs.Common.{◌∙◌, ap, subst, drop}
use Rattle.std.proofs.lemmas.List.{take_rest}
use Rattle.ledger_http.specs.Unread.{Unread, IsNextUnread}
use Rattle.ledger_http.proofs.inbox.Inbox.next.Goals as goal

pub returns-clause-next : goal.returns-clause-next
returns-clause-next c =
    let taken = c.self.inside.taken in
    subst (λ (unread : Unread). IsNextUnread unread c.first_in-next.result)
    (ap (λ bytes. record { bytes = bytes; ended = c.self.inside.ended })
    (take_rest c.deref.result.now taken ∙ ap (drop taken) c.deref.ensures.value)
    ∙ c.self.view_is)
    c.first_in-next.ensures
