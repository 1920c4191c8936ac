-- Turns go round the tenants.
use Rattle.std.proofs.Common.{◌≡◌, ◌≢◌, ◌⊎◌, ◌<◌, ◌≤◌, suc, Some, ◌+◌, zero, refl, sym, subst, ap, ◌∙◌, ℕ, true, false, List, [], ◌∷◌, ◌++◌, take, drop, length, get_or, append_assoc, inl, inr, arith}
use Rattle.std.specs.List.{Contains, slice_get}
use Rattle.std.proofs.lemmas.List.{take_more, take_all}
use Rattle.std.proofs.lemmas.Option.{slice_get_within, slice_get-get_or}
use Rattle.std.proofs.lemmas.List.Elements.{Contains-append_left, Contains-append_right, Contains-push_cases, Contains-append_cases}
use Rattle.std.proofs.lemmas.Bool.{cases_eq, false≢true}
use Rattle.std.proofs.lemmas.Bool.Decides.{nat_tests}
use Rattle.polling.specs.declared.ring.Waiting.{Waiting}
use Rattle.polling.specs.Ring.{Order, with_waiting, is_before, IsFirst, IsNoneOfTenant, IsNextPlace, HasTurnNow, Turns, Begin, Comes, Turn, Waits, HadTurnBefore, TurnsGoRound}

pub never_self : (last one : ℕ) → is_before last one one ≡ false
never_self last one = grind (arith, nat_tests)

-- who is before one that is before a third is before that
pub not_before :
    (last one other third : ℕ) → is_before last other third ≡ true →
    is_before last one third ≡ false → is_before last one other ≡ false
not_before last one other third before none = grind (arith, nat_tests)

-- after a turn, each other tenant is before the one that had it
pub before_last : (last one : ℕ) → one ≢ last → is_before last one last ≡ true
before_last last one other = grind (arith, nat_tests)

-- and so it is after the next turn, of a tenant that is not after it
pub still_before :
    (last one other turn : ℕ) → is_before last one other ≡ true →
    is_before last one turn ≡ false → turn ≢ one → is_before turn one other ≡ true
still_before last one other turn before first apart = grind (arith, nat_tests)

-- the turn is not that of a tenant that this one is before
pub not_behind :
    (last one other turn : ℕ) → is_before last one other ≡ true →
    is_before last one turn ≡ false → turn ≢ other
not_behind last one other turn before first same =
    absurd (false≢true (sym first ∙ (ap (λ (tenant : ℕ). is_before last one tenant) same ∙ before)))

pub take_cases :
    {X : Type 0} (xs : List X) (i : ℕ) (d x : X) → i < length xs → Contains (take (i + 1) xs) x →
    Contains (take i xs) x ⊎ (get_or xs i d ≡ x)
take_cases {X} xs i d x within found =
    Contains-push_cases (take i xs) (get_or xs i d) x
    (subst (λ (list : List X). Contains list x) (take_more xs i d within) found)

-- of the messages before a place this one is the first, and the oldest of its tenant
pub record IsNextSoFar (last : ℕ) (waiting : List Waiting) (index place : ℕ) (next : Waiting) :
    Type 0 where
  pub within : place < index
  pub at : slice_get waiting place ≡ Some next
  pub first : IsFirst last (take index waiting) next.tenant
  pub oldest : IsNoneOfTenant (take place waiting) next.tenant

pub read_at :
    (waiting : List Waiting) (index : ℕ) (other : Waiting) → slice_get waiting index ≡ Some other →
    get_or waiting index other ≡ other
read_at waiting index other at =
    let read = slice_get-get_or waiting index other (slice_get_within waiting index other at) in cc

-- what is read at a place is what stands there
pub the_same :
    (waiting : List Waiting) (place : ℕ) (read one : Waiting) → slice_get waiting place ≡ Some one →
    read ≡ get_or waiting place read → read ≡ one
the_same waiting place read one at is =
    let found = slice_get-get_or waiting place read (slice_get_within waiting place one at) in cc

pub next_is_other :
    (last : ℕ) (waiting : List Waiting) (index place : ℕ) (next other : Waiting) →
    IsNextSoFar last waiting index place next → slice_get waiting index ≡ Some other →
    is_before last other.tenant next.tenant ≡ true →
    IsNextSoFar last waiting (index + 1) index other
next_is_other last waiting index place next other so_far at before = record {
  within = omega arith;
  at = at;
  first = λ each found.
      elim (take_cases waiting index other each (slice_get_within waiting index other at) found) [
        | inl earlier ↦
            not_before last each.tenant other.tenant next.tenant before (so_far.first each earlier)
        | inr same ↦
            subst (λ (one : Waiting). is_before last one.tenant other.tenant ≡ false)
            (sym (read_at waiting index other at) ∙ same) (never_self last other.tenant)
      ];
  oldest = λ each found same.
      absurd (false≢true
      (sym (so_far.first each found)
      ∙ (ap (λ (tenant : ℕ). is_before last tenant next.tenant) same ∙ before)));
}

pub next_stays :
    (last : ℕ) (waiting : List Waiting) (index place : ℕ) (next other : Waiting) →
    IsNextSoFar last waiting index place next → slice_get waiting index ≡ Some other →
    is_before last other.tenant next.tenant ≡ false →
    IsNextSoFar last waiting (index + 1) place next
next_stays last waiting index place next other so_far at none = record {
  within = let within = so_far.within in omega arith;
  at = so_far.at;
  first = λ each found.
      elim (take_cases waiting index other each (slice_get_within waiting index other at) found) [
        | inl earlier ↦ so_far.first each earlier
        | inr same ↦
            subst (λ (one : Waiting). is_before last one.tenant next.tenant ≡ false)
            (sym (read_at waiting index other at) ∙ same) none
      ];
  oldest = so_far.oldest;
}

pub next_of_all :
    (last : ℕ) (waiting : List Waiting) (index place : ℕ) (next : Waiting) →
    IsNextSoFar last waiting index place next → length waiting ≤ index →
    IsNextPlace last waiting place
next_of_all last waiting index place next so_far all = record {
  next = next;
  at = so_far.at;
  first =
      subst (λ (list : List Waiting). IsFirst last list next.tenant) (take_all index waiting all)
      so_far.first;
  oldest = so_far.oldest;
}

split_at :
    (waiting : List Waiting) (place : ℕ) (one : Waiting) → slice_get waiting place ≡ Some one →
    waiting ≡ take place waiting ++ one ∷ drop (suc place) waiting
split_at [] place one at = cc
split_at (first ∷ waiting) zero one at = cc
split_at (first ∷ waiting) (suc place) one at =
    ap (λ (list : List Waiting). first ∷ list) (split_at waiting place one at)

pub has_turn :
    (old : Order) (place : ℕ) (turn : Waiting) (rest : List Waiting) →
    (next : IsNextPlace old.last old.waiting place) → turn ≡ next.next →
    rest ≡ take place old.waiting ++ drop (suc place) old.waiting →
    HasTurnNow old turn (record { waiting = rest; last = turn.tenant })
has_turn old place turn rest next is left = record {
  front = take place old.waiting;
  back = drop (suc place) old.waiting;
  were = split_at old.waiting place turn (next.at ∙ ap (λ (one : Waiting). Some one) (sym is));
  left = ap (λ (list : List Waiting). record { waiting = list; last = turn.tenant }) left;
  first =
      subst (λ (one : Waiting). IsFirst old.last old.waiting one.tenant) (sym is) next.first;
  oldest =
      subst (λ (one : Waiting). IsNoneOfTenant (take place old.waiting) one.tenant) (sym is)
      next.oldest;
}

none_before : (tenant : ℕ) → IsNoneOfTenant [] tenant
none_before tenant other found = absurd (omega (arith, found.1))

-- who waits beside the message that has its turn
waits_on :
    (front back : List Waiting) (turn waiting : Waiting) → turn.tenant ≢ waiting.tenant →
    Contains (front ++ turn ∷ back) waiting → Contains (front ++ back) waiting
waits_on front back turn waiting apart found =
    elim (Contains-append_cases front (turn ∷ back) waiting found) [
      | inl before ↦ Contains-append_left front back waiting before
      | inr behind ↦ elim (Contains-append_cases (turn ∷ []) back waiting behind) [
        | inl own ↦ elim (Contains-push_cases [] turn waiting own) [
          | inl none ↦ absurd (omega (arith, none.1))
          | inr same ↦ absurd (apart (ap (λ (one : Waiting). one.tenant) same))
        ]
        | inr later ↦ Contains-append_right front back waiting later
      ]
    ]

-- turns behind that one change nothing of it
had_before_on :
    (one other : ℕ) (turns : List Waiting) (turn : Waiting) → HadTurnBefore one other turns →
    HadTurnBefore one other (turns ++ turn ∷ [])
had_before_on one other turns turn had = record {
  front = had.front;
  turn = had.turn;
  back = had.back ++ turn ∷ [];
  is =
      ap (λ (list : List Waiting). list ++ turn ∷ []) had.is
      ∙ append_assoc had.front (had.turn ∷ had.back) (turn ∷ []);
  own = had.own;
  none = had.none;
}

-- after some turns either a tenant had one before another, or it waits and is before that one
abbrev Goes : ℕ → ℕ → List Waiting → Order → Type 0
Goes one other turns last =
    HadTurnBefore one other turns
    ⊎ (Waits one last × IsNoneOfTenant turns other × (is_before last.last one other ≡ true))

comes_on :
    (one other : ℕ) (turns : List Waiting) (last : Order) (waiting : Waiting) →
    Goes one other turns last → Goes one other turns (with_waiting waiting last)
comes_on one other turns last waiting (inl had) = inl had
comes_on one other turns last waiting (inr (waits, none, before)) =
    inr ((waits.0, Contains-append_left last.waiting (waiting ∷ []) waits.0 waits.1, waits.2), none, before)

turn_on :
    (one other : ℕ) (turns : List Waiting) (last : Order) (turn : Waiting) (next : Order) →
    HasTurnNow last turn next → Goes one other turns last → Goes one other (turns ++ turn ∷ []) next
turn_on one other turns last turn next has (inl had) = inl (had_before_on one other turns turn had)
turn_on one other turns last turn next has (inr (waits, none, before)) =
    elim (cases_eq turn.tenant one) [
      | inl own ↦ inl (record { front = turns; turn = turn; back = []; is = refl; own = own; none = none })
      | inr apart ↦
          let behind : is_before last.last one turn.tenant ≡ false =
          subst (λ (tenant : ℕ). is_before last.last tenant turn.tenant ≡ false) waits.2
          (has.first waits.0 waits.1) in
          let found =
          waits_on has.front has.back turn waits.0 (λ same. apart (same ∙ waits.2))
          (subst (λ (list : List Waiting). Contains list waits.0) has.were waits.1) in
          inr (
            subst (λ (order : Order). Waits one order) (sym has.left) (waits.0, found, waits.2),
            (λ each in_turns.
                elim (Contains-push_cases turns turn each in_turns) [
                  | inl earlier ↦ none each earlier
                  | inr same ↦
                      subst (λ (waiting : Waiting). waiting.tenant ≢ other) same
                      (not_behind last.last one other turn.tenant before behind)
                ]),
            subst (λ (order : Order). is_before order.last one other ≡ true) (sym has.left)
                (still_before last.last one other turn.tenant before behind apart),
          )
    ]

turns_go :
    (first last : Order) (turns : List Waiting) (tenant : ℕ) → Turns first turns last →
    Waits tenant first → tenant ≢ first.last → Goes tenant first.last turns last
turns_go first last turns tenant Begin waits apart =
    inr (waits, none_before first.last, before_last first.last tenant apart)
turns_go first last turns tenant (Comes before then waiting so_far) waits apart =
    comes_on tenant first.last before then waiting (turns_go first then before tenant so_far waits apart)
turns_go first last turns tenant (Turn before then turn next so_far has) waits apart =
    turn_on tenant first.last before then turn next has
    (turns_go first then before tenant so_far waits apart)

pub go_round : TurnsGoRound
go_round first last turns tenant next so_far waits apart found own =
    elim (turns_go first last turns tenant so_far waits apart) [
      | inl had ↦ had
      | inr going ↦ absurd (going.1 next found own)
    ]
