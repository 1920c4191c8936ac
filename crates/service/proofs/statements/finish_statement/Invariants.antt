use Rattle.std.proofs.Common.{◌≡◌, ◌++◌, Some}
use Rattle.ledger_http.specs.ReplyText.{reply_text}
use Rattle.parts.specs.Parts.{chunks_left}
use Rattle.service.specs.Begun.{reply_with}
use Rattle.chain.proofs.StatementPieces.{HasRead}
use Rattle.service.proofs.statements.finish_statement.Given as goal

-- The parts so far were read, and with what is left they are the whole reply.
abbrev pub invariant-parts : goal.invariant-parts
invariant-parts g l = record {
  read : HasRead g.L.Ledgers.means l.fn.ledgers l.ledgers;
  whole : g.L.Ledgers.means.is_live l.ledgers
      → l.text.items ++ chunks_left (g.L.Ledgers.means.tenants l.fn.ledgers) (Some l.rest)
      ≡ reply_text (reply_with (g.L.Ledgers.means.tenants l.fn.ledgers) l.front (Some l.fn.rest));
}
