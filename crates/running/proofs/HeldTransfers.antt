-- One transfer more, behind those that are held.
use Rattle.std.proofs.Common.{◌≡◌, ◌<◌, ℕ, zero, suc, eqb, Bool, true, false, cond, List, [], ◌∷◌, ◌++◌, length, slice_get, Option, Some, None, IfSome, refl, sym, ap, ◌∙◌, subst, arith}
use Rattle.std.specs.Option.{option_and_then}
use Rattle.std.specs.BTreeMap as tree
use Rattle.std.specs.BTreeMap.{is_at}
use Rattle.std.specs.Ordering.{nat_cmp}
use Rattle.std.proofs.lemmas.Bool.{eqb-true}
use Rattle.std.proofs.lemmas.List.{length_push}
use Rattle.records.specs.declared.transfer.Transfer.{Transfer}
use Rattle.records.specs.FirstOf.{or_else}
use Rattle.records.specs.Machine.{transfer_with}
use Rattle.running.specs.declared.transfers.Transfers.{Transfers}
use Rattle.running.specs.Holds.{HoldsTransfers}
use Rattle.running.proofs.HeldMaps.{at_number}
use Rattle.running.proofs.KeyedRows.{found_push}

at_end : {A : Type 0} (xs : List A) (y : A) → slice_get (xs ++ y ∷ []) (length xs) ≡ Some y
at_end [] y = refl
at_end (x ∷ xs) y = at_end xs y

before_end : {A : Type 0} (xs : List A) (y : A) (k : ℕ) → k < length xs → slice_get (xs ++ y ∷ []) k ≡ slice_get xs k
before_end [] y k within = absurd (omega (arith, within))
before_end (x ∷ xs) y zero within = refl
before_end (x ∷ xs) y (suc k) within = before_end xs y k (omega (arith, within))

or_none : {A : Type 0} (found : Option A) → or_else found None ≡ found
or_none None = refl
or_none (Some x) = refl

one_place : {A : Type 0} (here : Bool) (xs : List A) (y : A) (found : Option A) (at : Option ℕ) → option_and_then (slice_get xs) at ≡ found → IfSome at (λ place. place < length xs) → (here ≡ true → found ≡ None) → option_and_then (slice_get (xs ++ y ∷ [])) (cond here (Some (length xs)) at) ≡ or_else found (cond here (Some y) None)
one_place true xs y found at is within none = at_end xs y ∙ sym (ap (λ o. or_else o (Some y)) (none refl))
one_place false xs y found None is within none = is ∙ sym (or_none found)
one_place false xs y found (Some place) is within none = before_end xs y place within ∙ is ∙ sym (or_none found)

still_within : {A : Type 0} (here : Bool) (xs : List A) (y : A) (at : Option ℕ) → IfSome at (λ place. place < length xs) → IfSome (cond here (Some (length xs)) at) (λ place. place < length (xs ++ y ∷ []))
still_within true xs y at within = let long = length_push xs y in omega (arith, long)
still_within false xs y None within = tt
still_within false xs y (Some place) within = let long = length_push xs y in omega (arith, long, within)

pub one_more : (transfers : List Transfer) (t : Transfer) (old new : Transfers) (place : ℕ) → HoldsTransfers transfers old → transfer_with t.id transfers ≡ None → place ≡ length old.list.items → new.list.items ≡ old.list.items ++ t ∷ [] → ((q : ℕ) → tree.get nat_cmp new.places q ≡ cond (is_at (nat_cmp t.id) q) (Some place) (tree.get nat_cmp old.places q)) → HoldsTransfers (transfers ++ t ∷ []) new
one_more transfers t old new place holds none end list places =
    let at : (q : ℕ) → tree.get nat_cmp new.places q ≡ cond (eqb t.id q) (Some (length transfers)) (tree.get nat_cmp old.places q) =
    λ q.
    places q ∙ ap (λ (b : Bool). cond b (Some place) (tree.get nat_cmp old.places q)) (at_number t.id q)
    ∙ ap (λ (n : ℕ). cond (eqb t.id q) (Some n) (tree.get nat_cmp old.places q)) (end ∙ ap length holds.list) in
    record {
      list = list ∙ ap (λ xs. xs ++ t ∷ []) holds.list;
      found = λ q.
          ap (option_and_then (slice_get (transfers ++ t ∷ []))) (at q)
          ∙ one_place (eqb t.id q) transfers t (transfer_with q transfers) (tree.get nat_cmp old.places q) (holds.found q) (holds.within q) (λ same. subst (λ (k : ℕ). transfer_with k transfers ≡ None) (eqb-true t.id q same) none)
          ∙ sym (found_push (λ (x : Transfer). x.id) q transfers t);
      within = λ q. subst (λ (o : Option ℕ). IfSome o (λ place. place < length (transfers ++ t ∷ []))) (sym (at q)) (still_within (eqb t.id q) transfers t (tree.get nat_cmp old.places q) (holds.within q));
    }
