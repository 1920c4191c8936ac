use Rattle.chain.proofs.LookLemmas.{HasLooked}
use Rattle.chain.proofs.lookups.found.Given as goal

abbrev pub invariant-loop-id : goal.invariant-loop-id
invariant-loop-id g l =
    HasLooked g.T.Tables.means g.B.ById.found_in l.ids l.id-index l.fn.tables l.tables l.found.items
