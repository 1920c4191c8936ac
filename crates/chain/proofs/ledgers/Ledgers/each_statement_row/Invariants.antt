use Rattle.std.proofs.Common.{◌≡◌, true}
use Rattle.chain.proofs.StatementPieces.{IsReading}
use Rattle.chain.proofs.ledgers.Ledgers.each_statement_row.Given as goal

-- The pieces so far were read and handed out; of ledgers that had failed there is none.
abbrev pub invariant-pieces : goal.invariant-pieces
invariant-pieces g l =
    IsReading g.Self.Ledgers.means g.S.RowSink.takes l.digest l.account l.fn.order l.fn.self l.self l.span l.fn.sink l.sink
    × (g.Self.Ledgers.means.has_failed l.fn.self ≡ true → l.counter ≡ 0)
