-- Messages that are given their turns.
use Rattle.std.proofs.Common.{◌≡◌, ◌≤◌, ◌+◌, length, length-append, refl, sym, subst, ap, ◌∙◌, ℕ, Bool, true, false, not, List, [], ◌∷◌, ◌++◌, if◌then◌else◌, append-nil, append_assoc, get_or, take, drop, ◌<◌, inl, inr, arith}
use Rattle.std.specs.List.{Contains, filter}
use Rattle.std.proofs.lemmas.List.{map-append}
use Rattle.std.proofs.lemmas.List.Elements.{Contains-append_left, Contains-append_right, Contains-push, Contains-push_cases, Contains-append_cases, filter-append}
use Rattle.std.proofs.lemmas.Bool.{cases_Bool}
use Rattle.polling.specs.Standing.{A_turn, Owing, owing, turns_of, AreSomeOf}
use Rattle.polling.specs.Ring.{Order, numbers_of, with_waiting, HasTurnNow, Begin, Turn}
use Rattle.polling.specs.Steps.{IsAdded, TakesTurns}
use Rattle.polling.proofs.StandLemmas.{among_turns}
use Rattle.polling.specs.declared.gathering.Chosen.{Chosen}
use Rattle.polling.specs.declared.ring.Waiting.{Waiting}

-- turns of these and of those
pub turns_both :
    (some others : List ℕ) → turns_of (some ++ others) ≡ turns_of some ++ turns_of others
turns_both [] others = refl
turns_both (first ∷ some) others =
    ap (λ (list : List Owing). owing A_turn first ∷ list) (turns_both some others)

-- these are some of those that are the same
pub the_same_some : {A : Type 0} (some others : List A) → some ≡ others → AreSomeOf some others
the_same_some {A} some others same one found = subst (λ (list : List A). Contains list one) same found

-- one is moved to the front
moved :
    (front back : List ℕ) (first one : ℕ) → Contains (front ++ first ∷ back) one →
    Contains (first ∷ (front ++ back)) one
moved front back first one found =
    elim (Contains-append_cases front (first ∷ back) one found) [
      | inl before ↦
          Contains-append_right (first ∷ []) (front ++ back) one
          (Contains-append_left front back one before)
      | inr behind ↦ elim (Contains-append_cases (first ∷ []) back one behind) [
        | inl own ↦ Contains-append_left (first ∷ []) (front ++ back) one own
        | inr later ↦
            Contains-append_right (first ∷ []) (front ++ back) one
            (Contains-append_right front back one later)
      ]
    ]

-- who waited waits still, but for the one that has its turn
turned_among :
    (old : Order) (turn : Waiting) (new : Order) → HasTurnNow old turn new →
    AreSomeOf (numbers_of old.waiting) (turn.number ∷ numbers_of new.waiting)
turned_among old turn new has one found =
    let were : numbers_of old.waiting ≡ numbers_of has.front ++ turn.number ∷ numbers_of has.back =
    ap numbers_of has.were
    ∙ map-append (λ (waiting : Waiting). waiting.number) has.front (turn ∷ has.back) in
    let left : numbers_of new.waiting ≡ numbers_of has.front ++ numbers_of has.back =
    ap (λ (order : Order). numbers_of order.waiting) has.left
    ∙ map-append (λ (waiting : Waiting). waiting.number) has.front has.back in
    subst (λ (list : List ℕ). Contains (turn.number ∷ list) one) (sym left)
    (moved (numbers_of has.front) (numbers_of has.back) turn.number one
    (subst (λ (list : List ℕ). Contains list one) were found))

-- so too beside those that had theirs
still_among :
    (others others_now batches batches_now mid new : List ℕ) (turn : ℕ) →
    AreSomeOf others others_now → AreSomeOf batches batches_now →
    Contains (others_now ++ batches_now) turn → AreSomeOf mid (turn ∷ new) →
    AreSomeOf (others ++ (batches ++ mid)) (others_now ++ (batches_now ++ new))
still_among others others_now batches batches_now mid new turn same_others same_batches had among
    one found =
    let in_batches : Contains batches_now one → Contains (others_now ++ (batches_now ++ new)) one =
    λ is. Contains-append_right others_now (batches_now ++ new) one
    (Contains-append_left batches_now new one is) in
    elim (Contains-append_cases others (batches ++ mid) one found) [
      | inl other ↦ Contains-append_left others_now (batches_now ++ new) one (same_others one other)
      | inr rest ↦ elim (Contains-append_cases batches mid one rest) [
        | inl batch ↦ in_batches (same_batches one batch)
        | inr waits ↦ elim (Contains-append_cases (turn ∷ []) new one (among one waits)) [
          | inl own ↦ elim (Contains-push_cases [] turn one own) [
            | inl none ↦ absurd (omega (arith, none.1))
            | inr same ↦
                elim (Contains-append_cases others_now batches_now one
                (subst (λ (each : ℕ). Contains (others_now ++ batches_now) each) same had)) [
                  | inl other ↦ Contains-append_left others_now (batches_now ++ new) one other
                  | inr batch ↦ in_batches batch
                ]
          ]
          | inr still ↦
              Contains-append_right others_now (batches_now ++ new) one
              (Contains-append_right batches_now new one still)
        ]
      ]
    ]

passed : (p : Waiting → Bool) (one : Waiting) → p one ≡ true → filter p (one ∷ []) ≡ one ∷ []
passed p one is = ap (λ (passes : Bool). if passes then one ∷ [] else []) is

held_back : (p : Waiting → Bool) (one : Waiting) → p one ≡ false → filter p (one ∷ []) ≡ []
held_back p one is = ap (λ (passes : Bool). if passes then one ∷ [] else []) is

-- the numbers of those that pass a test, with one more
with_one :
    (p : Waiting → Bool) (given : List Waiting) (one : Waiting) (numbers : List ℕ) →
    p one ≡ true → numbers ≡ numbers_of (filter p given) →
    numbers ++ one.number ∷ [] ≡ numbers_of (filter p (given ++ one ∷ []))
with_one p given one numbers is were =
    ap (λ (list : List ℕ). list ++ one.number ∷ []) were
    ∙ sym
    (ap numbers_of
    (filter-append p given (one ∷ []) ∙ ap (λ (list : List Waiting). filter p given ++ list) (passed p one is))
    ∙ map-append (λ (waiting : Waiting). waiting.number) (filter p given) (one ∷ []))

without_one :
    (p : Waiting → Bool) (given : List Waiting) (one : Waiting) (numbers : List ℕ) →
    p one ≡ false → numbers ≡ numbers_of (filter p given) →
    numbers ≡ numbers_of (filter p (given ++ one ∷ []))
without_one p given one numbers is were =
    were
    ∙ sym
    (ap numbers_of
    (filter-append p given (one ∷ [])
    ∙ (ap (λ (list : List Waiting). filter p given ++ list) (held_back p one is)
    ∙ append-nil (filter p given))))

pub takes_none :
    (order : Order) (chosen : Chosen) → chosen.others.items ≡ [] → chosen.batches.items ≡ [] →
    TakesTurns order order chosen
takes_none order chosen others batches = record {
  given = [];
  turns = Begin;
  others = others;
  batches = batches;
  owed = λ one found.
      Contains-append_right chosen.others.items (chosen.batches.items ++ numbers_of order.waiting) one
      (Contains-append_right chosen.batches.items (numbers_of order.waiting) one found);
}

takes_batch :
    (old mid new : Order) (chosen chosen_now : Chosen) (turn : Waiting) → TakesTurns old mid chosen →
    HasTurnNow mid turn new → IsAdded turn chosen chosen_now → turn.is_batch ≡ true →
    TakesTurns old new chosen_now
takes_batch old mid new chosen chosen_now turn takes has added is =
    let now = added.batch is in
    record {
      given = takes.given ++ turn ∷ [];
      turns = Turn takes.given mid turn new takes.turns has;
      others =
          now.0
          ∙ without_one (λ (one : Waiting). not one.is_batch) takes.given turn chosen.others.items
          (ap not is) takes.others;
      batches =
          now.1
          ∙ with_one (λ (one : Waiting). one.is_batch) takes.given turn chosen.batches.items is
          takes.batches;
      owed = λ one found.
          still_among chosen.others.items chosen_now.others.items chosen.batches.items
          chosen_now.batches.items (numbers_of mid.waiting) (numbers_of new.waiting) turn.number
          (the_same_some chosen.others.items chosen_now.others.items (sym now.0))
          (λ each is_in.
          subst (λ (list : List ℕ). Contains list each) (sym now.1)
          (Contains-append_left chosen.batches.items (turn.number ∷ []) each is_in))
          (Contains-append_right chosen_now.others.items chosen_now.batches.items turn.number
          (subst (λ (list : List ℕ). Contains list turn.number) (sym now.1)
          (Contains-push chosen.batches.items turn.number)))
          (turned_among mid turn new has) one (takes.owed one found);
    }

takes_other :
    (old mid new : Order) (chosen chosen_now : Chosen) (turn : Waiting) → TakesTurns old mid chosen →
    HasTurnNow mid turn new → IsAdded turn chosen chosen_now → turn.is_batch ≡ false →
    TakesTurns old new chosen_now
takes_other old mid new chosen chosen_now turn takes has added is =
    let now = added.other is in
    record {
      given = takes.given ++ turn ∷ [];
      turns = Turn takes.given mid turn new takes.turns has;
      others =
          now.0
          ∙ with_one (λ (one : Waiting). not one.is_batch) takes.given turn chosen.others.items
          (ap not is) takes.others;
      batches =
          now.1
          ∙ without_one (λ (one : Waiting). one.is_batch) takes.given turn chosen.batches.items is
          takes.batches;
      owed = λ one found.
          still_among chosen.others.items chosen_now.others.items chosen.batches.items
          chosen_now.batches.items (numbers_of mid.waiting) (numbers_of new.waiting) turn.number
          (λ each is_in.
          subst (λ (list : List ℕ). Contains list each) (sym now.0)
          (Contains-append_left chosen.others.items (turn.number ∷ []) each is_in))
          (the_same_some chosen.batches.items chosen_now.batches.items (sym now.1))
          (Contains-append_left chosen_now.others.items chosen_now.batches.items turn.number
          (subst (λ (list : List ℕ). Contains list turn.number) (sym now.0)
          (Contains-push chosen.others.items turn.number)))
          (turned_among mid turn new has) one (takes.owed one found);
    }

pub takes_more :
    (old mid new : Order) (chosen chosen_now : Chosen) (turn : Waiting) → TakesTurns old mid chosen →
    HasTurnNow mid turn new → IsAdded turn chosen chosen_now → TakesTurns old new chosen_now
takes_more old mid new chosen chosen_now turn takes has added =
    elim (cases_Bool turn.is_batch) [
      | inl is ↦ takes_batch old mid new chosen chosen_now turn takes has added is
      | inr is ↦ takes_other old mid new chosen chosen_now turn takes has added is
    ]

-- one more waits
pub gathers_one :
    (old new : Order) (waiting : Waiting) → new ≡ with_waiting waiting old →
    AreSomeOf (numbers_of old.waiting) (numbers_of new.waiting)
    × Contains (numbers_of new.waiting) waiting.number
gathers_one old new waiting is =
    let now : numbers_of new.waiting ≡ numbers_of old.waiting ++ waiting.number ∷ [] =
    ap (λ (order : Order). numbers_of order.waiting) is
    ∙ map-append (λ (one : Waiting). one.number) old.waiting (waiting ∷ []) in (
      (λ one found.
          subst (λ (list : List ℕ). Contains list one) (sym now)
          (Contains-append_left (numbers_of old.waiting) (waiting.number ∷ []) one found)),
      subst (λ (list : List ℕ). Contains list waiting.number) (sym now)
          (Contains-push (numbers_of old.waiting) waiting.number),
    )

-- so few have their turns
pub few_added :
    (waiting : Waiting) (old new : Chosen) (count : ℕ) → IsAdded waiting old new →
    length old.others.items ≤ count → length old.batches.items ≤ count →
    (length new.others.items ≤ count + 1) × (length new.batches.items ≤ count + 1)
few_added waiting old new count added others batches =
    elim (cases_Bool waiting.is_batch) [
      | inl is ↦
          let now = added.batch is in
          let more = length-append old.batches.items (waiting.number ∷ []) in (
            rw now.0 (omega (arith, others)),
            rw now.1 (omega (arith, more, batches)),
          )
      | inr is ↦
          let now = added.other is in
          let more = length-append old.others.items (waiting.number ∷ []) in (
            rw now.0 (omega (arith, more, others)),
            rw now.1 (omega (arith, batches)),
          )
    ]

-- who waited is owed its turn, as one of those or as one who waits still
pub chosen_owed :
    (old new : Order) (chosen : Chosen) → TakesTurns old new chosen →
    AreSomeOf (turns_of (numbers_of old.waiting))
    ((turns_of chosen.others.items ++ turns_of chosen.batches.items)
    ++ turns_of (numbers_of new.waiting))
chosen_owed old new chosen takes =
    let others = chosen.others.items in
    let batches = chosen.batches.items in
    let left = numbers_of new.waiting in
    let same : turns_of (others ++ (batches ++ left)) ≡ (turns_of others ++ turns_of batches) ++ turns_of left =
    turns_both others (batches ++ left)
    ∙ (ap (λ (list : List Owing). turns_of others ++ list) (turns_both batches left)
    ∙ sym (append_assoc (turns_of others) (turns_of batches) (turns_of left))) in
    subst (λ (list : List Owing). AreSomeOf (turns_of (numbers_of old.waiting)) list) same
    (among_turns (numbers_of old.waiting) (others ++ (batches ++ left)) takes.owed)

-- the first of those who wait, and the others
pub first_left :
    (waiting left : List Waiting) (one : Waiting) → (waiting ≡ [] → ⊥) →
    one ≡ get_or waiting 0 one → left ≡ take 0 waiting ++ drop 1 waiting →
    (numbers_of waiting ≡ one.number ∷ numbers_of left) × (length left < length waiting)
first_left [] left one some is rest = absurd (some refl)
first_left (first ∷ waiting) left one some is rest =
    rw (is, rest) (refl, omega arith)
