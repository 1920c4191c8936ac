-- A reply that is begun: its first bytes, and what of a statement is left to be read for the others.
use Rattle.std.specs.Prelude.{◌++◌, Option, Some, None}
use Rattle.chain.specs.Ledgers.{Tenants, KeepsAll}
use Rattle.ledger_http.specs.declared.reply.Reply.{Reply}
use Rattle.ledger_http.specs.declared.reply.Reply.TheVariants.{Whole}
use Rattle.ledger_http.specs.ReplyText.{reply_text}
use Rattle.parts.specs.Parts.{IsRestHeld, chunks_left}
use Rattle.parts.specs.declared.rest.Rest.{Rest}
use Rattle.service.specs.declared.begun.Begun.{Begun}

-- a reply that is whole
abbrev pub whole : Reply → Begun
whole reply = record { front = reply; rest = None }

-- the reply that begins so, with what is left as the tenants' machines have it
abbrev pub reply_with : Tenants → Reply → Option Rest → Reply
reply_with tenants front None = front
reply_with tenants front (Some rest) =
    Whole (reply_text front ++ chunks_left tenants (Some rest))

abbrev pub reply_of : Tenants → Begun → Reply
reply_of tenants begun = reply_with tenants begun.front begun.rest

-- a statement is begun: the machines are as before, and something of it is left
abbrev pub IsLeftOf : Tenants → Tenants → Rest → Type 0
IsLeftOf old new rest = KeepsAll old new × IsRestHeld new rest
