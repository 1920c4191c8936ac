-- A message by itself.
use Rattle.std.specs.Prelude.{◌≡◌, ℕ, List, Some, IsOk}
use Rattle.httparse.specs.Grammar.{RequestHead}
use Rattle.ledger_http.specs.Message.{HasHead, first_message}
use Rattle.ledger_http.specs.Question.{asked_of}

-- the message has the head that the unread bytes have, is whole, and asks what they ask
pub record StandsAlone (unread message : List ℕ) : Type 0 where
  pub head : RequestHead
  pub unread_has : HasHead unread (Some head)
  pub has : HasHead message (Some head)
  pub whole : IsOk (first_message message (Some head))
  pub unread_whole : IsOk (first_message unread (Some head))
  pub same : asked_of message (Some head) ≡ asked_of unread (Some head)
