-- A loop over a map or a set: what was seen, and what is left.
use Rattle.std.proofs.Common.{◌≡◌, List, [], ◌∷◌, ◌++◌, map, Option, Some, None, sym, ap, ◌∙◌}
use Rattle.std.specs.Iterator.{Yields}
use Rattle.std.specs.Map.Iter.{TakesFirst}
use Rattle.std.proofs.lemmas.Map.Iter.{rest_so_far, rest_more, rest_all}

pub seen_more : {A X : Type 0} (shows : A → X) (all s t u : List X) (xs : List A) (x : A)
    → (r : Option A) → s ≡ all → Yields (TakesFirst shows) s xs t → r ≡ Some x
    → TakesFirst shows t r u → all ≡ map shows xs ++ shows x ∷ u
seen_more shows all s t u xs x r start yields is step =
    sym start ∙ rest_so_far shows xs s t yields
    ∙ ap (λ left. map shows xs ++ left) (rest_more shows t u r x is step)

pub seen_all : {A X : Type 0} (shows : A → X) (all s t u : List X) (xs : List A) (r : Option A)
    → s ≡ all → Yields (TakesFirst shows) s xs t → r ≡ None
    → TakesFirst shows t r u → all ≡ map shows xs ++ []
seen_all shows all s t u xs r start yields is step =
    sym start ∙ rest_so_far shows xs s t yields
    ∙ ap (λ left. map shows xs ++ left) (rest_all shows t u r is step)
