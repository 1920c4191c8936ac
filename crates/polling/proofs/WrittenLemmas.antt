-- What is to be written to a client, and what is left of it.
use Rattle.std.proofs.Common.{◌≡◌, ◌==◌, ◌&&◌, refl, ap, ap₂, sym, ◌∙◌, inl, inr, ℕ, Bool, true, false, List, [], ◌∷◌, length, Option, None, is_none, is_some, not, eqb-true, arith}
use Rattle.std.proofs.lemmas.Bool.{cases_Bool, true≢false}
use Rattle.parts.specs.declared.rest.Rest.{Rest}
use Rattle.clients.specs.Talk.{Talk, is_empty, is_written, may_answer}
use Rattle.polling.specs.Seating.{has_no_more, has_nothing}

pub empty_so : (bytes : List ℕ) → (length bytes == 0) ≡ true → is_empty bytes ≡ true
empty_so [] none = refl
empty_so (byte ∷ bytes) none =
    let zero : length (byte ∷ bytes) ≡ 0 = eqb-true (length (byte ∷ bytes)) 0 none in
    absurd (omega (arith, zero))

pub some_so : (bytes : List ℕ) → (length bytes == 0) ≡ false → is_empty bytes ≡ false
some_so [] some = absurd (true≢false some)
some_so (byte ∷ bytes) some = refl

and_none : (b : Bool) → (b && false) ≡ false
and_none true = refl
and_none false = refl

-- something was to be written
pub first_some : (talk talk_now : Talk) → is_empty talk.unsent ≡ false → has_nothing talk talk_now ≡ false
first_some talk talk_now some = ap (λ (b : Bool). b && is_empty talk_now.unsent) some

-- something is
pub last_some :
    (talk talk_now : Talk) → is_empty talk_now.unsent ≡ false → has_nothing talk talk_now ≡ false
last_some talk talk_now some =
    ap (λ (b : Bool). is_empty talk.unsent && b) some ∙ and_none (is_empty talk.unsent)

-- nothing was, nor is
pub both_none :
    (talk talk_now : Talk) → talk_now ≡ talk → is_empty talk_now.unsent ≡ true →
    has_nothing talk talk_now ≡ true
both_none talk talk_now same none =
    ap (λ (t : Talk). is_empty t.unsent && is_empty talk_now.unsent) (sym same)
    ∙ ap (λ (b : Bool). b && b) none

-- who goes on and may not be answered is owed something
pub unanswered_some :
    (talk : Talk) → may_answer talk ≡ false → talk.goes_on ≡ true → is_written talk ≡ false
unanswered_some talk unanswered goes =
    sym (ap (λ (b : Bool). b && is_written talk) goes) ∙ unanswered

-- something was owed, or is
pub first_more : (talk talk_now : Talk) → is_written talk ≡ false → has_no_more talk talk_now ≡ false
first_more talk talk_now some = ap (λ (b : Bool). b && is_written talk_now) some

-- a part was left to be read
pub left_more :
    (talk talk_now : Talk) → is_some talk.rest ≡ true → has_no_more talk talk_now ≡ false
left_more talk talk_now left =
    first_more talk talk_now
    (ap (λ (b : Bool). is_empty talk.unsent && not b) left ∙ and_none (is_empty talk.unsent))

pub last_more : (talk talk_now : Talk) → is_written talk_now ≡ false → has_no_more talk talk_now ≡ false
last_more talk talk_now some =
    ap (λ (b : Bool). is_written talk && b) some ∙ and_none (is_written talk)

written_by : (talk : Talk) → is_empty talk.unsent ≡ true → talk.rest ≡ None → is_written talk ≡ true
written_by talk empty none =
    ap₂ (λ (b : Bool) (rest : Option Rest). b && is_none rest) empty none

-- where nothing is left to be read, and something was owed, that was to be written
pub to_be_written :
    (talk talk_now : Talk) → talk_now.rest ≡ talk.rest → talk_now.rest ≡ None →
    is_empty talk_now.unsent ≡ true → has_no_more talk talk_now ≡ false →
    has_nothing talk talk_now ≡ false
to_be_written talk talk_now same none empty more =
    elim (cases_Bool (is_empty talk.unsent)) [
      | inl was ↦
          absurd (true≢false (sym
          (ap₂ (λ (b c : Bool). b && c) (written_by talk was (sym same ∙ none))
          (written_by talk_now empty none)) ∙ more))
      | inr some ↦ first_some talk talk_now some
    ]
