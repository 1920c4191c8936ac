use Rattle.std.proofs.Common.{◌≡◌, ℕ, length}
use Rattle.std.specs.List.{list_all}
use Rattle.json.specs.Lex.{tokens}
use Rattle.wire.specs.Trees.{fits}
use Rattle.wire.proofs.tree.numbers_fit.Given as goal

-- all tokens fit if those do that are left
abbrev pub invariant-loop-token : goal.invariant-loop-token
invariant-loop-token l = list_all fits l.reader ≡ list_all fits (tokens l.fn.text)

abbrev pub decreases-loop-token : goal.decreases-loop-token
decreases-loop-token l = length l.reader
