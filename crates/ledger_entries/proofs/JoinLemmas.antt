-- The entries of some rows, one row after the other.
use Rattle.std.proofs.Common.{List, [], ◌∷◌, ◌++◌, refl, sym, ap, subst, ◌∙◌, append_assoc, IsPermutation}
use Rattle.std.specs.List.{AllByRecursion, flat_map}
use Rattle.std.proofs.lemmas.List.{append-nil}
use Rattle.std.proofs.lemmas.List.Sorted.{IsPermutation-refl, IsPermutation-append}
use Rattle.sqlite_value.specs.Order.{Row}
use Rattle.sqlite_trees.specs.Tree.{IsAscending}
use Rattle.sqlite_trees.proofs.ListLemmas.{all-append, all-permutation, all_weaker, ascending-append, IsPermutation-same}
use Rattle.ledger_entries.specs.Handing.{AreJoined}

module _ (join : Row → List Row) where
  pub joined_each : (rows : List Row) → AreJoined join rows (flat_map join rows)
  joined_each [] = refl
  joined_each (row ∷ rows) = (join row, flat_map join rows, IsPermutation-refl (join row), refl, joined_each rows)

  pub joined_one : (row : Row) (entries : List Row) → IsPermutation (join row) entries → AreJoined join (row ∷ []) entries
  joined_one row entries same = (entries, [], same, sym (append-nil entries), refl)

  pub joined_then : (xs ys es fs : List Row) → AreJoined join xs es → AreJoined join ys fs → AreJoined join (xs ++ ys) (es ++ fs)
  joined_then [] ys es fs none more = subst (λ (zs : List Row). AreJoined join ys (zs ++ fs)) (sym none) more
  joined_then (x ∷ xs) ys es fs (own, later, same, is, rest) more =
      (own, later ++ fs, same, ap (λ zs. zs ++ fs) is ∙ append_assoc own later fs, joined_then xs ys later fs rest more)

  pub joined_same : (rows es : List Row) → AreJoined join rows es → IsPermutation (flat_map join rows) es
  joined_same [] es none = IsPermutation-same [] es (sym none)
  joined_same (row ∷ rows) es (own, later, same, is, rest) =
      subst (IsPermutation (join row ++ flat_map join rows)) (sym is) (IsPermutation-append (join row) own (flat_map join rows) later same (joined_same rows later rest))

  -- the entries of some rows are there, and those of more so far; whatever is left comes after them
  pub joined_part : (done rows later es fs tail : List Row) → AreJoined join done es → AreJoined join rows (fs ++ tail) → AreJoined join (done ++ (rows ++ later)) ((es ++ fs) ++ (tail ++ flat_map join later))
  joined_part done rows later es fs tail first more =
      let rest = flat_map join later in
      subst (AreJoined join (done ++ (rows ++ later)))
      (ap (λ xs. es ++ xs) (append_assoc fs tail rest) ∙ sym (append_assoc es fs (tail ++ rest)))
      (joined_then done (rows ++ later) es ((fs ++ tail) ++ rest) first (joined_then rows later (fs ++ tail) rest more (joined_each later)))

  -- where rows are in order, and the entries of one before those of the next, the entries are in order
  module _ (Before Of After : Row → Row → Type 0) (each : (row : Row) → AllByRecursion (Of row) (join row))
      (within : (a e f : Row) → Of a e → Of a f → After e f) (across : (a b e f : Row) → Before a b → Of a e → Of b f → After e f) where
    later_all : (a e : Row) → Of a e → (rows es : List Row) → AllByRecursion (Before a) rows → AreJoined join rows es → AllByRecursion (After e) es
    later_all a e its [] es before none = subst (AllByRecursion (After e)) (sym none) tt
    later_all a e its (b ∷ rows) es before (own, later, same, is, rest) =
        subst (AllByRecursion (After e)) (sym is)
        (all-append (After e) own later
        (all_weaker (Of b) (After e) (λ f of_b. across a b e f before.0 its of_b) own (all-permutation (Of b) (join b) own same (each b)))
        (later_all a e its rows later before.1 rest))

    own_in_order : (a : Row) (es : List Row) → AllByRecursion (Of a) es → IsAscending After es
    own_in_order a [] its = tt
    own_in_order a (e ∷ es) its = (all_weaker (Of a) (After e) (λ f of_a. within a e f its.0 of_a) es its.1, own_in_order a es its.1)

    pub joined_in_order : (rows es : List Row) → IsAscending Before rows → AreJoined join rows es → IsAscending After es
    joined_in_order [] es up none = subst (IsAscending After) (sym none) tt
    joined_in_order (a ∷ rows) es up (own, later, same, is, rest) =
        let its = all-permutation (Of a) (join a) own same (each a) in
        subst (IsAscending After) (sym is)
        (ascending-append After own later (own_in_order a own its) (joined_in_order rows later up.1 rest)
        (all_weaker (Of a) (λ e. AllByRecursion (After e) later) (λ e of_a. later_all a e of_a rows later up.0 rest) own its))
