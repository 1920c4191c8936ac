-- A loop over two lists, which asks of each pair that one is what the other means.
use Rattle.std.proofs.Common.{◌≡◌, ◌≢◌, List, [], ◌∷◌, map, length, refl, ap, arith}

-- what is left agrees exactly when all does
pub record IsLeft {A B : Type 0} (f : A → B) (forms : List A) (items : List B) (left : List A)
    (rest : List B) : Type 0 where
  pub long : length left ≡ length rest
  pub onward : items ≡ map f forms → rest ≡ map f left
  pub back : rest ≡ map f left → items ≡ map f forms

pub all_left : {A B : Type 0} (f : A → B) (forms : List A) (items : List B)
    → length forms ≡ length items → IsLeft f forms items forms items
all_left f forms items long = record { long = long; onward = λ e. e; back = λ e. e }

pub one_less : {A B : Type 0} (f : A → B) (forms : List A) (items : List B) (left : List A)
    (rest : List B) (x : A) (xs : List A) (y : B) (ys : List B) → IsLeft f forms items left rest
    → left ≡ x ∷ xs → rest ≡ y ∷ ys → y ≡ f x → IsLeft f forms items xs ys
one_less f forms items left rest x xs y ys h first second same = record {
  long = omega (arith, h.long, ap length first, ap length second);
  onward = λ e. let whole = h.onward e in cc (whole, ap (map f) first);
  back = λ e. h.back (cc (e, ap (map f) first));
}

pub none_left : {A B : Type 0} (f : A → B) (forms : List A) (items : List B) (left : List A)
    (rest : List B) → IsLeft f forms items left rest → length left ≡ 0 → items ≡ map f forms
none_left f forms items [] [] h over = h.back refl
none_left f forms items [] (y ∷ ys) h over = absurd (omega (arith, h.long))
none_left f forms items (x ∷ xs) rest h over = absurd (omega (arith, over))

pub unlike : {A B : Type 0} (f : A → B) (forms : List A) (items : List B) (left : List A)
    (rest : List B) (x : A) (xs : List A) (y : B) (ys : List B) → IsLeft f forms items left rest
    → left ≡ x ∷ xs → rest ≡ y ∷ ys → y ≢ f x → items ≢ map f forms
unlike f forms items left rest x xs y ys h first second other e =
    let whole = h.onward e in other (cc (whole, ap (map f) first))
