-- Rows that a sink takes, one after the other.
use Rattle.std.proofs.Common.{◌≡◌, ℕ, suc, ◌+◌, ◌<◌, List, [], ◌∷◌, ◌++◌, length, map, take, drop, get_or, refl, ap, sym, ◌∙◌, subst, arith, drop-cons, take-append-drop}
use Rattle.std.proofs.lemmas.List.{map-append, map_more, take_more, take-append-le, take_all}
use Rattle.records.specs.declared.row_sink.SinkFault.{SinkFault}
use Rattle.records.specs.declared.filter.Order.{Order}
use Rattle.records.specs.Queries.{time_behind}
use Rattle.records.specs.Streams.{TakesRows}
use Rattle.chain.specs.LedgerReads.{IsBegun, RefusesNext}
use Rattle.chain.specs.Pages.{behind_last}

pub takes_both :
    {S A : Type 0} (takes : S → A → S → Type 0) (s t u : S) (rows more : List A) →
    TakesRows takes s rows t → TakesRows takes t more u → TakesRows takes s (rows ++ more) u
takes_both {S} takes s t u [] more same taken =
    subst (λ (x : S). TakesRows takes x more u) (sym same) taken
takes_both {S} takes s t u (first ∷ rows) more taken last =
    (taken.0, taken.1, takes_both takes taken.0 t u rows more taken.2 last)

-- one row more of those that are made of some elements
pub one_row :
    {S E A : Type 0} (takes : S → A → S → Type 0) (s t u : S) (row : E → A) (made : A) (xs : List E) (place : ℕ) (x : E) →
    place < length xs → x ≡ get_or xs place x → made ≡ row x →
    TakesRows takes s (map row (take place xs)) t → takes t made u →
    TakesRows takes s (map row (take (place + 1) xs)) u
one_row {S} {E} {A} takes s t u row made xs place x within is made_is before taken =
    subst (λ (rows : List A). TakesRows takes s rows u)
    (sym (map_more row xs place x within ∙ ap (λ (y : E). map row (take place xs) ++ row y ∷ []) (sym is)))
    (takes_both takes s t u (map row (take place xs)) (row x ∷ []) before
    (u, subst (λ (y : A). takes t y u) made_is taken, refl))

-- the first of some rows are a beginning of them
pub begun_so :
    {S A : Type 0} (takes : S → A → S → Type 0) (s t : S) (front rest rows : List A) → front ++ rest ≡ rows →
    TakesRows takes s front t → IsBegun takes rows s t
begun_so {S} {A} takes s t front rest rows is taken = record {
  count = length front;
  taken = subst (λ (xs : List A). TakesRows takes s xs t)
      (sym (ap (take (length front)) (sym is) ∙ take-append-le (length front) front rest (omega arith) ∙ take_all (length front) front (omega arith))) taken;
}

-- the rows that are made of some elements are those before one, its own, and those behind it
rows_round :
    {E A : Type 0} (row : E → A) (xs : List E) (place : ℕ) (x : E) → place < length xs → x ≡ get_or xs place x →
    map row (take place xs) ++ row x ∷ map row (drop (suc place) xs) ≡ map row xs
rows_round {E} {A} row xs place x within is =
    sym (map-append row (take place xs) (x ∷ drop (suc place) xs))
    ∙ ap (map row)
    (ap (λ (y : E). take place xs ++ y ∷ drop (suc place) xs) is
    ∙ ap (λ (ys : List E). take place xs ++ ys) (sym (drop-cons xs place x within))
    ∙ take-append-drop place xs)

-- the first of the rows that are made of some elements are taken, and the next one is refused
pub refused_at :
    {S E A : Type 0} (takes : S → A → S → Type 0) (refuses : S → A → SinkFault → S → Type 0) (s t u : S) (why : SinkFault)
    (row : E → A) (made : A) (xs : List E) (place : ℕ) (x : E) →
    place < length xs → x ≡ get_or xs place x → made ≡ row x →
    TakesRows takes s (map row (take place xs)) t → refuses t made why u →
    RefusesNext takes refuses (map row xs) why s u
refused_at {S} {E} {A} takes refuses s t u why row made xs place x within is made_is before refused = record {
  front = map row (take place xs);
  next = row x;
  rest = map row (drop (suc place) xs);
  whole = rows_round row xs place x within is;
  last = t;
  taken = before;
  refused = subst (λ (y : A). refuses t y why u) made_is refused;
}

-- the time behind the last of some records with one more at the end
behind_pushed :
    {A : Type 0} (time : A → ℕ) (order : Order) (behind : ℕ) (xs : List A) (x : A) →
    behind_last time order behind (xs ++ x ∷ []) ≡ time_behind order (time x)
behind_pushed time order behind [] x = refl
behind_pushed time order behind (y ∷ xs) x = behind_pushed time order (time_behind order (time y)) xs x

pub behind_more :
    {A : Type 0} (time : A → ℕ) (order : Order) (xs : List A) (place : ℕ) (x : A) →
    place < length xs → x ≡ get_or xs place x →
    behind_last time order 0 (take (place + 1) xs) ≡ time_behind order (time x)
behind_more {A} time order xs place x within is =
    ap (behind_last time order 0) (take_more xs place x within ∙ ap (λ (y : A). take place xs ++ y ∷ []) (sym is))
    ∙ behind_pushed time order 0 (take place xs) x
