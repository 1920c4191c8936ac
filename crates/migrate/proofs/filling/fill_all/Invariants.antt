use Rattle.sqlite.specs.Held.{state}
use Rattle.migrate.proofs.FillLemmas.{IsFilling}
use Rattle.migrate.proofs.filling.fill_all.Given as goal

-- what the loop keeps
abbrev pub invariant-loop-row : goal.invariant-loop-row
invariant-loop-row g l = IsFilling (state g.S.Store l.fn.conn) (state g.S.Store l.conn)
