-- Beginnings of longer texts.
use Rattle.std.proofs.Common.{◌≡◌, ◌∙◌, ◌++◌, ℕ, List, [], Option, ap, refl, sym, subst, append_assoc}
use Rattle.std.specs.Prelude.{Err, Ok, OnErr, Result}
use Rattle.std.specs.Io.KnownBytes.{Appends}
use Rattle.std.proofs.KnownBytes.{Appends-nil, Appends-trans}
use Rattle.records.specs.Streams.{AppendsFront}

-- a beginning of a text is one of a longer text
pub front_of_more : (a b : Option (List ℕ)) (bs cs : List ℕ) → AppendsFront a b bs → AppendsFront a b (bs ++ cs)
front_of_more a b bs cs f = record {
  front = f.front;
  rest = f.rest ++ cs;
  whole = sym (append_assoc f.front f.rest cs) ∙ ap (λ (xs : List ℕ). xs ++ cs) f.whole;
  appended = f.appended;
}

-- a text and then a beginning of another
pub front_after : (a b c : Option (List ℕ)) (bs cs : List ℕ) → Appends a b bs → AppendsFront b c cs → AppendsFront a c (bs ++ cs)
front_after a b c bs cs first f = record {
  front = bs ++ f.front;
  rest = f.rest;
  whole = append_assoc bs f.front f.rest ∙ ap (λ (xs : List ℕ). bs ++ xs) f.whole;
  appended = Appends-trans a b c bs f.front first f.appended;
}

-- a text that was written is a beginning of a longer one
pub front_of_written : (a b : Option (List ℕ)) (bs cs : List ℕ) → Appends a b bs → AppendsFront a b (bs ++ cs)
front_of_written a b bs cs written = record { front = bs; rest = cs; whole = refl; appended = written }

-- nothing is a beginning of any text
pub front_of_nothing : (a : Option (List ℕ)) (bs : List ℕ) → AppendsFront a a bs
front_of_nothing a bs = record { front = []; rest = bs; whole = refl; appended = Appends-nil a }

-- a text may be named by an equal one
pub front_as : (a b : Option (List ℕ)) (bs cs : List ℕ) → bs ≡ cs → AppendsFront a b bs → AppendsFront a b cs
front_as a b bs cs e f = subst (AppendsFront a b) e f

-- a fact holds at an error where it holds
pub on_err : {T E : Type 0} (r : Result T E) (P : Type 0) → P → OnErr r P
on_err (Ok x) P p = tt
on_err (Err e) P p = p
