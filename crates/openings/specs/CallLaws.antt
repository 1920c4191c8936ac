-- How a database is examined in steps.
use Rattle.std.proofs.Common.{◌≡◌, Result, Ok, Err, subst, arith}
use Rattle.sqlite.specs.Effect.{Database}
use Rattle.sqlite.specs.State.{State, HasCleanDisk}
use Rattle.stored_ledgers.specs.Looks.{Looks}
use Rattle.openings.specs.Calls.{LeavesExamined}

-- what a first look found, before another one
pub seen_first : {A B E F : Type 0} {Finds : A → Database → Type 0} {Tells : E → Database → Type 0}
    {a b c : State} {x : A} {r : Result B F} → LeavesExamined Finds Tells a b (Ok x) → Looks b c r
    → HasCleanDisk c → (b.now ≡ a.now) × Finds x a.now
seen_first {b = b} first next clean =
    let before : HasCleanDisk b = omega (arith, next.follows.survives.clean, clean) in
    ((first.looks.kept before).0.now_is, first.finds before)

module _ {A B E F : Type 0} {Finds : A → Database → Type 0} {Tells : E → Database → Type 0}
    {Finds' : B → Database → Type 0} {Tells' : F → Database → Type 0} {a b c : State} {x : A} where
  -- what both found is so of what was there at first
  pub found_both : {y : B} → LeavesExamined Finds Tells a b (Ok x)
      → LeavesExamined Finds' Tells' b c (Ok y) → HasCleanDisk c → Finds x a.now × Finds' y a.now
  found_both {y} first next clean =
      let at = seen_first first next.looks clean in (at.1, subst (Finds' y) at.0 (next.finds clean))

  -- and so is what the second one tells
  pub told_later : {fault : F} → LeavesExamined Finds Tells a b (Ok x)
      → LeavesExamined Finds' Tells' b c (Err fault) → HasCleanDisk c
      → Finds x a.now × Tells' fault a.now
  told_later {fault} first next clean =
      let at = seen_first first next.looks clean in
      (at.1, subst (Tells' fault) at.0 (next.told clean))

-- what a step told is told by all of it, in its case
pub passes_on : {A E : Type 0} {Finds : A → Database → Type 0} {Tells : E → Database → Type 0}
    {a b : State} {r : Result A E} {fault : E} → r ≡ Err fault → Looks a b r
    → (HasCleanDisk b → Tells fault a.now) → LeavesExamined Finds Tells a b r
passes_on is looks tells =
    record { finds = λ clean. rw is tt; told = λ clean. rw is (tells clean); looks = looks }
