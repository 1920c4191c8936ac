-- Finding in a list that goes on behind another one.
use Rattle.std.proofs.Common.{◌≡◌, ℕ, [], ◌∷◌, ◌++◌, append_assoc, List, Some, None, refl, sym, ◌∙◌, subst, arith}
use Rattle.std.proofs.lemmas.Bool.{eq-eqb}
use Rattle.records.specs.Later.{Extends}
use Rattle.engine.proofs.FindByIdLemmas.{with_key, find_push}

-- what is found in a list is found in one that goes on behind it
pub find_extends : {A : Type 0} (key : A → ℕ) (id : ℕ) (xs ys : List A) (x : A) → with_key key id xs ≡ Some x → with_key key id (xs ++ ys) ≡ Some x
find_extends key id [] ys x h = absurd (cc)
find_extends key id (y ∷ xs) ys x h = grind (arith, find_extends key id xs ys x)

-- what is not found there is not found here
pub none_before : {A : Type 0} (key : A → ℕ) (id : ℕ) (xs ys : List A) → with_key key id (xs ++ ys) ≡ None → with_key key id xs ≡ None
none_before key id [] ys h = refl
none_before key id (x ∷ xs) ys h = grind (arith, none_before key id xs ys)

-- an element with a new key is found in each list that goes on behind it
pub find_new : {A : Type 0} (key : A → ℕ) (xs ys : List A) (x : A) → with_key key (key x) xs ≡ None → Extends (xs ++ x ∷ []) ys → with_key key (key x) ys ≡ Some x
find_new key xs ys x none more =
    let here : with_key key (key x) (xs ++ x ∷ []) ≡ Some x = rw (find_push key (key x) xs x, none, eq-eqb (key x) (key x) refl) refl in
    subst (λ zs. with_key key (key x) zs ≡ Some x) (sym more.1) (find_extends key (key x) (xs ++ x ∷ []) more.0 x here)

pub extends_without : {A : Type 0} (xs ys : List A) (x : A) → Extends (xs ++ x ∷ []) ys → Extends xs ys
extends_without xs ys x more = (x ∷ more.0, more.1 ∙ append_assoc xs (x ∷ []) more.0)
