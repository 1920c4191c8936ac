-- What one client has sent that is not answered yet, and what of the last reply is not written.
use Rattle.std.specs.Prelude.{◌≡◌, ℕ, ◌-◌, Bool, true, false, ◌&&◌, List, [], ◌∷◌, ◌++◌, length, drop, Option, Some, None, is_none}
use Rattle.ledger_http.specs.declared.reply.Reply.{Reply}
use Rattle.ledger_http.specs.ReplyText.{reply_text}
use Rattle.ledger_http.specs.Unread.{Unread, nothing_yet, with_more, ended_now}
use Rattle.chain.specs.Ledgers.{Tenants}
use Rattle.parts.specs.Parts.{chunks_left}
use Rattle.parts.specs.declared.rest.Part.{Part}
use Rattle.parts.specs.declared.rest.Rest.{Rest}
use Rattle.service.specs.Replies.{unavailable}

-- what has come and is not answered; what of the last reply is there and is not written, and what
-- of it, where it is a statement, is left to be read; and whether another message is answered
-- behind it
pub record Talk : Type 0 where
  pub unread : Unread
  pub unsent : List ℕ
  pub rest : Option Rest
  pub goes_on : Bool

-- a client that has just come
abbrev pub new_talk : Talk
new_talk = record { unread = nothing_yet; unsent = []; rest = None; goes_on = true }

-- a piece came
abbrev pub received : List ℕ → Talk → Talk
received piece talk = record talk { unread = with_more piece talk.unread }

-- the input ended
abbrev pub input_ended : Talk → Talk
input_ended talk = record talk { unread = ended_now talk.unread }

-- so many bytes more are written
abbrev pub written : ℕ → Talk → Talk
written count talk = record talk { unsent = drop count talk.unsent }

-- memory was wanting for a message: the last reply says so
abbrev pub given_up : Talk → Talk
given_up talk = record talk { unsent = reply_text unavailable; rest = None; goes_on = false }

-- the next part of the reply is there
abbrev pub continued : Part → Talk → Talk
continued part talk = record talk { unsent = part.chunks; rest = part.rest }

abbrev pub is_empty : List ℕ → Bool
is_empty [] = true
is_empty (byte ∷ bytes) = false

-- what of a reply is owed yet, with what is left to be read as these machines have it
abbrev pub owed : Tenants → Talk → List ℕ
owed tenants talk = talk.unsent ++ chunks_left tenants talk.rest

-- whether nothing of a reply is left
abbrev pub is_written : Talk → Bool
is_written talk = is_empty talk.unsent && is_none talk.rest

abbrev pub HasNothingUnsent : Talk → Type 0
HasNothingUnsent talk = (talk.unsent ≡ []) × (talk.rest ≡ None)

-- the next message is answered only when the reply to the last one is written
abbrev pub may_answer : Talk → Bool
may_answer talk = talk.goes_on && is_written talk

-- the bytes of a reply, where there is one
abbrev pub bytes_of : Option Reply → List ℕ
bytes_of None = []
bytes_of (Some reply) = reply_text reply

-- the last so many of them
abbrev pub last_bytes : ℕ → List ℕ → List ℕ
last_bytes left bytes = drop (length bytes - left) bytes
