-- Behind a round its clients are finished.
use Rattle.std.proofs.Common.{◌≡◌, ◌≤◌, sym, subst, ℕ, Bool, true, false, not, nat_lt, [], ◌∷◌, arith}
use Rattle.std.proofs.lemmas.Bool.Decides.{nat_tests}
use Rattle.polling.specs.Serving.{Terms}
use Rattle.polling.specs.Seating.{Held, ServesOwed, count_of}
use Rattle.polling.specs.Standing.{A_turn, owing}
use Rattle.polling.proofs.AllLemmas.{owed_for}

-- where nothing may be answered, none is wanted
none_wanted : (most : ℕ) → not (nat_lt 0 most) ≡ true → most ≡ 0
none_wanted most none = grind (arith, nat_tests)

not_answered : (most : ℕ) → most ≡ 0 → nat_lt 0 most ≡ false
not_answered most none = grind (arith, nat_tests)

-- where a message was replied to, one was wanted
pub few_of : (replied : Bool) (most : ℕ) → (nat_lt 0 most ≡ false → replied ≡ false) →
    count_of replied ≤ most
few_of false most few = omega arith
few_of true most few = grind (arith, nat_tests, few)

-- to one message at most
pub one_at_most : (replied : Bool) → count_of replied ≤ 1
one_at_most false = omega arith
one_at_most true = omega arith

-- a client keeps its place alone only where as many were replied to as there were to be
pub finished :
    {S C P : Type 0} (r : Terms S C P) (client : ℕ) (replied : Bool) (most : ℕ)
    (old new : Held S C P) → (nat_lt 0 most ≡ false → replied ≡ false) →
    ServesOwed r (not (nat_lt 0 most) ≡ true) (owing A_turn client ∷ []) [] old new
    (count_of replied) →
    ServesOwed r (count_of replied ≡ most) (owing A_turn client ∷ []) [] old new (count_of replied)
finished r client replied most old new few serves =
    owed_for serves
    (λ (none : not (nat_lt 0 most) ≡ true).
    let zero : most ≡ 0 = none_wanted most none in
    subst (λ (b : Bool). count_of b ≡ most) (sym (few (not_answered most zero))) (sym zero))
