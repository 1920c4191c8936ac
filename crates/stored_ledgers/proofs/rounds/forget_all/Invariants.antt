use Rattle.sqlite_trees.specs.Tree.{Trees}
use Rattle.stored_ledgers.specs.DueSets.{AreCovered}
use Rattle.stored_ledgers.specs.Outcomes.{ArePast}
use Rattle.stored_ledgers.proofs.rounds.forget_all.Given as goal

abbrev pub invariant-loop-past : goal.invariant-loop-past
invariant-loop-past l =
    (trees : Trees) → ArePast l.pasts trees → AreCovered l.initial.due trees → AreCovered l.due trees
