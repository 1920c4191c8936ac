-- How clients stand, and what is owed to them.
use Rattle.std.proofs.Common.{◌≡◌, ◌≢◌, ◌⊎◌, inl, inr, refl, ap, sym, ◌∙◌, subst, ℕ, false, List, [], ◌∷◌, ◌++◌, Option, arith}
use Rattle.std.specs.List.{Contains}
use Rattle.std.proofs.lemmas.Bool.{true≢false}
use Rattle.std.proofs.lemmas.List.Elements.{Contains-append_cases, Contains-append_left, Contains-append_right, Contains-push, Contains-push_cases}
use Rattle.clients.specs.Deeds.{Act, client_of}
use Rattle.clients.specs.Talk.{Talk}
use Rattle.clients.proofs.ClientLemmas.{at_other, at_own, by_client}
use Rattle.polling.specs.Peers.{Said}
use Rattle.polling.specs.Standing.{Standing, Away, New, Awaited, Owed, Begun, Kept, Overdue}
use Rattle.polling.specs.Standing.{has_seat, greeted, woken, expired, begun, rested, asked}
use Rattle.polling.specs.Standing.{with_standing, stands_behind, stands_after, StandsIn}
use Rattle.polling.specs.Standing.{Debt, A_seat, A_turn, An_end, Owing, owing, turns_of, IsOwed, told_of}
use Rattle.polling.specs.Standing.{AreSomeOf, OwesOnly, KeepsOnly}
use Rattle.polling.specs.declared.peers.Told.{Told}
use Rattle.polling.specs.declared.peers.Told.TheVariants.{Joined, Ready, Late, Nothing}

pub standing-own :
    (client : ℕ) (standing : Standing) (stands : ℕ → Standing) →
    with_standing client standing stands client ≡ standing
standing-own client standing stands = at_own client standing stands

pub standing-other :
    (client other : ℕ) (standing : Standing) (stands : ℕ → Standing) → other ≢ client →
    with_standing client standing stands other ≡ stands other
standing-other client other standing stands differ = at_other client other standing stands differ

-- deeds behind deeds
pub after-append :
    (before more : List Act) (stands : ℕ → Standing) →
    stands_after (before ++ more) stands ≡ stands_after more (stands_after before stands)
after-append [] more stands = refl
after-append (deed ∷ before) more stands =
    after-append before more
    (with_standing (client_of deed) (begun (stands (client_of deed))) stands)

-- all stand in their seats
abbrev pub AllStand : (ℕ → Option Talk) → (ℕ → Standing) → Type 0
AllStand seats stands = (client : ℕ) → StandsIn (seats client) (stands client)

-- who has a seat keeps it, whatever peers tell, and in its turn
pub record KeepsSeat (standing : Standing) : Type 0 where
  pub greets : has_seat standing ≡ has_seat (greeted standing)
  pub wakes : has_seat standing ≡ has_seat (woken standing)
  pub expires : has_seat standing ≡ has_seat (expired standing)
  pub begins : has_seat standing ≡ has_seat (begun standing)

pub seat_kept : (standing : Standing) → KeepsSeat standing
seat_kept Away = record { greets = refl; wakes = refl; expires = refl; begins = refl }
seat_kept standing = record { greets = refl; wakes = refl; expires = refl; begins = refl }

-- and it keeps its place alone only where it did before
record KeepsNone (standing : Standing) : Type 0 where
  pub greets : greeted standing ≡ Kept → standing ≡ Kept
  pub wakes : woken standing ≡ Kept → standing ≡ Kept
  pub expires : expired standing ≡ Kept → standing ≡ Kept
  pub begins : begun standing ≡ Kept → standing ≡ Kept

none_kept : (standing : Standing) → KeepsNone standing
none_kept Kept =
    record { greets = λ is. refl; wakes = λ is. refl; expires = λ is. refl; begins = λ is. refl }
none_kept standing =
    record { greets = λ is. cc; wakes = λ is. cc; expires = λ is. cc; begins = λ is. cc }

-- one client stands otherwise
pub one_stands :
    (seats : ℕ → Option Talk) (stands : ℕ → Standing) (client : ℕ) (standing : Standing) →
    StandsIn (seats client) standing →
    ((other : ℕ) → other ≢ client → StandsIn (seats other) (stands other)) →
    AllStand seats (with_standing client standing stands)
one_stands seats stands client standing own others =
    by_client (λ each. StandsIn (seats each) (with_standing client standing stands each)) client
    (subst (λ (s : Standing). StandsIn (seats client) s) (sym (standing-own client standing stands))
    own)
    (λ other differ.
    subst (λ (s : Standing). StandsIn (seats other) s)
    (sym (standing-other client other standing stands differ)) (others other differ))

-- so it does in its seat
pub one_stands_on :
    (seats : ℕ → Option Talk) (stands : ℕ → Standing) (client : ℕ) (standing : Standing) →
    has_seat (stands client) ≡ has_seat standing → AllStand seats stands →
    AllStand seats (with_standing client standing stands)
one_stands_on seats stands client standing same all =
    one_stands seats stands client standing (all client ∙ same) (λ other differ. all other)

-- behind what peers tell
pub told_stand :
    (fresh : ℕ) (told : Told) (seats : ℕ → Option Talk) (stands : ℕ → Standing) →
    AllStand seats stands → AllStand seats (stands_behind (Said fresh told) stands)
told_stand fresh Joined seats stands all =
    one_stands_on seats stands fresh (greeted (stands fresh)) (seat_kept (stands fresh)).greets all
told_stand fresh (Ready client) seats stands all =
    one_stands_on seats stands client (woken (stands client)) (seat_kept (stands client)).wakes all
told_stand fresh (Late client) seats stands all =
    one_stands_on seats stands client (expired (stands client)) (seat_kept (stands client)).expires all
told_stand fresh Nothing seats stands all = all

-- behind deeds
pub after_stand :
    (deeds : List Act) (seats : ℕ → Option Talk) (stands : ℕ → Standing) →
    AllStand seats stands → AllStand seats (stands_after deeds stands)
after_stand [] seats stands all = all
after_stand (deed ∷ deeds) seats stands all =
    let own = client_of deed in
    after_stand deeds seats (with_standing own (begun (stands own)) stands)
    (one_stands_on seats stands own (begun (stands own)) (seat_kept (stands own)).begins all)

-- what is owed behind a change was owed before, or is this
abbrev OwesBut : Debt → (Standing → Standing) → Type 0
OwesBut debt change =
    (standing : Standing) (each : Debt) → IsOwed (change standing) each →
    IsOwed standing each ⊎ (each ≡ debt)

-- a turn that is begun
pub begun_unowed : (standing : Standing) → begun standing ≡ Owed → ⊥
begun_unowed Owed is = cc
begun_unowed standing is = cc

begun_owed :
    (standing : Standing) (debt : Debt) → IsOwed (begun standing) debt → IsOwed standing debt
begun_owed Owed A_turn is = is
begun_owed standing debt is = is

-- behind a turn a client is owed none, and what else it is owed it was
pub record EndsTurn (change : Standing → Standing) (standing : Standing) : Type 0 where
  pub seat : has_seat standing ≡ has_seat (change standing)
  pub unowed : IsOwed (change standing) A_turn → ⊥
  pub owed : (debt : Debt) → IsOwed (change standing) debt → IsOwed standing debt

-- so it is with who waits
pub rested_ends : (standing : Standing) → EndsTurn rested standing
rested_ends Owed = record { seat = refl; unowed = λ is. is; owed = λ debt is. absurd is }
rested_ends Begun = record { seat = refl; unowed = λ is. is; owed = λ debt is. absurd is }
rested_ends standing = record { seat = refl; unowed = λ is. is; owed = λ debt is. is }

pub rested_kept : (standing : Standing) → rested standing ≡ Kept → ⊥
rested_kept Away is = cc
rested_kept standing is = cc

-- so it is with who is to be told again; and it keeps its place alone only where its turn was owed, or
-- it did before
pub asked_ends : (standing : Standing) → EndsTurn asked standing
asked_ends Owed = record { seat = refl; unowed = λ is. is; owed = λ debt is. absurd is }
asked_ends Begun = record { seat = refl; unowed = λ is. is; owed = λ debt is. absurd is }
asked_ends standing = record { seat = refl; unowed = λ is. is; owed = λ debt is. is }

pub asked_kept :
    (standing : Standing) → asked standing ≡ Kept → (standing ≡ Kept) ⊎ (standing ≡ Owed)
asked_kept Owed is = inr refl
asked_kept Kept is = inl refl
asked_kept standing is = cc

-- what is told is owed, or was
greeted_owed : OwesBut A_seat greeted
greeted_owed Away A_seat is = inr refl
greeted_owed Away debt is = absurd is
greeted_owed standing debt is = inl is

woken_owed : OwesBut A_turn woken
woken_owed Awaited A_turn is = inr refl
woken_owed Begun A_turn is = inr refl
woken_owed Kept A_turn is = inr refl
woken_owed standing debt is = inl is

expired_owed : OwesBut An_end expired
expired_owed New debt is = inl is
expired_owed Overdue debt is = inl is
expired_owed standing An_end is = inr refl
expired_owed standing debt is = absurd is

-- who has no seat is owed nothing but that
pub unseated_owed :
    (standing : Standing) (debt : Debt) → has_seat standing ≡ false → debt ≢ A_seat →
    IsOwed standing debt → ⊥
unseated_owed Away debt none other is = is
unseated_owed New A_seat none other is = other refl
unseated_owed New debt none other is = is
unseated_owed standing debt none other is = true≢false none

pub none_in : {A : Type 0} (one : A) → Contains [] one → ⊥
none_in one found = let below = found.1 in omega arith

pub one_in : {A : Type 0} (only one : A) → Contains (only ∷ []) one → only ≡ one
one_in {A} only one found =
    elim (Contains-push_cases {X = A} [] only one found) [
      | inl none ↦ absurd (none_in one none)
      | inr same ↦ same
    ]

pub first_in : {A : Type 0} (first : A) (rest : List A) → Contains (first ∷ rest) first
first_in {A} first rest =
    Contains-append_left {X = A} (first ∷ []) rest first (Contains-push {X = A} [] first)

pub later_in :
    {A : Type 0} (first : A) (rest : List A) (one : A) → Contains rest one →
    Contains (first ∷ rest) one
later_in {A} first rest one found = Contains-append_right {X = A} (first ∷ []) rest one found

pub in_cases :
    {A : Type 0} (first : A) (rest : List A) (one : A) → Contains (first ∷ rest) one →
    (first ≡ one) ⊎ Contains rest one
in_cases {A} first rest one found =
    elim (Contains-append_cases {X = A} (first ∷ []) rest one found) [
      | inl own ↦ inl (one_in first one own)
      | inr other ↦ inr other
    ]

-- turns of clients
in_turns :
    (clients : List ℕ) (client : ℕ) → Contains clients client →
    Contains (turns_of clients) (owing A_turn client)
in_turns [] client found = absurd (none_in client found)
in_turns (first ∷ clients) client found =
    elim (in_cases first clients client found) [
      | inl same ↦
          subst
          (λ (each : ℕ). Contains (turns_of (first ∷ clients)) (owing A_turn each)) same
          (first_in (owing A_turn first) (turns_of clients))
      | inr rest ↦
          later_in (owing A_turn first) (turns_of clients) (owing A_turn client)
          (in_turns clients client rest)
    ]

of_turns :
    (clients : List ℕ) (one : Owing) → Contains (turns_of clients) one →
    (owing A_turn one.client ≡ one) × Contains clients one.client
of_turns [] one found = absurd (none_in one found)
of_turns (first ∷ clients) one found =
    elim (in_cases (owing A_turn first) (turns_of clients) one found) [
      | inl same ↦ (
        subst (λ (each : Owing). owing A_turn each.client ≡ each) same refl,
        subst (λ (each : Owing). Contains (first ∷ clients) each.client) same
            (first_in first clients),
      )
      | inr rest ↦
          let so = of_turns clients one rest in (
            so.0,
            later_in first clients one.client so.1,
          )
    ]

pub among_turns :
    (clients others : List ℕ) → AreSomeOf clients others → AreSomeOf (turns_of clients) (turns_of others)
among_turns clients others among one found =
    let so = of_turns clients one found in
    subst (λ (each : Owing). Contains (turns_of others) each) so.0
    (in_turns others one.client (among one.client so.1))

-- these, and the first
pub among_first :
    (client : ℕ) (clients others : List ℕ) → Contains others client → AreSomeOf clients others →
    AreSomeOf (owing A_turn client ∷ turns_of clients) (turns_of others)
among_first client clients others found among one all =
    elim (in_cases (owing A_turn client) (turns_of clients) one all) [
      | inl same ↦
          subst (λ (each : Owing). Contains (turns_of others) each) same
          (in_turns others client found)
      | inr rest ↦ among_turns clients others among one rest
    ]

pub among_beside :
    (first : Owing) (some others : List Owing) → AreSomeOf some others →
    AreSomeOf (first ∷ some) (first ∷ others)
among_beside first some others among one all =
    elim (in_cases first some one all) [
      | inl same ↦ subst (λ (each : Owing). Contains (first ∷ others) each) same (first_in first others)
      | inr rest ↦ later_in first others one (among one rest)
    ]

-- nobody stands otherwise
pub owes_still :
    (from to : List Owing) (stands : ℕ → Standing) → AreSomeOf from to → OwesOnly from to stands stands
owes_still from to stands among client debt owed = (among (owing debt client), inl owed)

pub keeps_still : (why : Type 0) (stands : ℕ → Standing) → KeepsOnly why stands stands
keeps_still why stands client kept = inl kept

-- one after the other
pub owes_then :
    (from mid to : List Owing) (old between new : ℕ → Standing) → OwesOnly from mid old between →
    OwesOnly mid to between new → OwesOnly from to old new
owes_then from mid to old between new before behind client debt owed =
    let so = behind client debt owed in
    elim so.1 [
      | inl still ↦
          let was = before client debt still in (
            λ one. so.0 (was.0 one),
            elim was.1 [
              | inl first ↦ inl first
              | inr middle ↦ inr (so.0 middle)
            ],
          )
      | inr found ↦ (λ one. found, inr found)
    ]

pub keeps_then :
    (why : Type 0) (old between new : ℕ → Standing) → KeepsOnly why old between →
    KeepsOnly why between new → KeepsOnly why old new
keeps_then why old between new before behind client kept =
    elim (behind client kept) [ inl still ↦ before client still | inr is ↦ inr is ]

pub keeps_for :
    (why all : Type 0) (old new : ℕ → Standing) → (why → all) → KeepsOnly why old new →
    KeepsOnly all old new
keeps_for why all old new for keeps client kept =
    elim (keeps client kept) [ inl still ↦ inl still | inr is ↦ inr (for is) ]

-- so too beside others
pub owes_beside :
    (from to others : List Owing) (old new : ℕ → Standing) → OwesOnly from to old new →
    OwesOnly (from ++ others) (to ++ others) old new
owes_beside from to others old new owes client debt owed =
    let one = owing debt client in
    let so = owes client debt owed in (
      λ all.
          elim (Contains-append_cases {X = Owing} from others one all) [
            | inl first ↦ Contains-append_left {X = Owing} to others one (so.0 first)
            | inr rest ↦ Contains-append_right {X = Owing} to others one rest
          ],
      elim so.1 [
        | inl was ↦ inl was
        | inr found ↦ inr (Contains-append_left {X = Owing} to others one found)
      ],
    )

-- where less is asked
pub owes_fewer :
    (from : List Owing) (old new : ℕ → Standing) → OwesOnly from [] old new → OwesOnly [] [] old new
owes_fewer from old new owes client debt owed = (λ none. none, (owes client debt owed).1)

-- one client stands otherwise: what it is owed so is one of `to`, or it was, and is none of `from`
pub owes_one :
    (from to : List Owing) (client : ℕ) (standing : Standing) (stands : ℕ → Standing) →
    ((debt : Debt) → IsOwed standing debt →
    (Contains from (owing debt client) → Contains to (owing debt client))
    × (IsOwed (stands client) debt ⊎ Contains to (owing debt client))) →
    ((other : ℕ) (debt : Debt) → other ≢ client → Contains from (owing debt other) →
    Contains to (owing debt other)) →
    OwesOnly from to stands (with_standing client standing stands)
owes_one from to client standing stands own others =
    by_client
    (λ each.
    (debt : Debt) → IsOwed (with_standing client standing stands each) debt
    → (Contains from (owing debt each) → Contains to (owing debt each))
    × (IsOwed (stands each) debt ⊎ Contains to (owing debt each)))
    client
    (λ debt owed.
    own debt (subst (λ (s : Standing). IsOwed s debt) (standing-own client standing stands) owed))
    (λ other differ debt owed. (
      others other debt differ,
      inl
          (subst (λ (s : Standing). IsOwed s debt) (standing-other client other standing stands differ)
          owed),
    ))

pub keeps_one :
    (why : Type 0) (client : ℕ) (standing : Standing) (stands : ℕ → Standing) →
    (standing ≡ Kept → (stands client ≡ Kept) ⊎ why) →
    KeepsOnly why stands (with_standing client standing stands)
keeps_one why client standing stands own =
    by_client
    (λ each. with_standing client standing stands each ≡ Kept → (stands each ≡ Kept) ⊎ why) client
    (λ kept. own (sym (standing-own client standing stands) ∙ kept))
    (λ other differ kept. inl (sym (standing-other client other standing stands differ) ∙ kept))

-- nobody else is one of these
not_other :
    (debt each : Debt) (client other : ℕ) → other ≢ client →
    Contains (owing debt client ∷ []) (owing each other) → ⊥
not_other debt each client other differ found =
    differ (sym (ap (λ (one : Owing). one.client) (one_in (owing debt client) (owing each other) found)))

own_debt :
    (debt each : Debt) (client : ℕ) → Contains (owing debt client ∷ []) (owing each client) →
    debt ≡ each
own_debt debt each client found =
    ap (λ (one : Owing). one.debt) (one_in (owing debt client) (owing each client) found)

-- one client is owed this no more
pub owes_less :
    (debt : Debt) (client : ℕ) (standing : Standing) (stands : ℕ → Standing) →
    (IsOwed standing debt → ⊥) →
    ((each : Debt) → IsOwed standing each → IsOwed (stands client) each) →
    OwesOnly (owing debt client ∷ []) [] stands (with_standing client standing stands)
owes_less debt client standing stands unowed was =
    owes_one (owing debt client ∷ []) [] client standing stands
    (λ each owed. (
      λ found.
          absurd
          (unowed
          (subst (λ (d : Debt). IsOwed standing d) (sym (own_debt debt each client found)) owed)),
      inl (was each owed),
    ))
    (λ other each differ found. absurd (not_other debt each client other differ found))

-- one client is owed nothing
pub owes_none :
    (debt : Debt) (client : ℕ) (standing : Standing) (stands : ℕ → Standing) →
    ((each : Debt) → IsOwed standing each → ⊥) →
    OwesOnly (owing debt client ∷ []) [] stands (with_standing client standing stands)
owes_none debt client standing stands unowed =
    owes_less debt client standing stands (unowed debt) (λ each owed. absurd (unowed each owed))

-- who has no seat is owed no turn, and no end
pub owes_nobody :
    (debt : Debt) (stands : ℕ → Standing) (client : ℕ) → debt ≢ A_seat →
    has_seat (stands client) ≡ false → OwesOnly (owing debt client ∷ []) [] stands stands
owes_nobody debt stands client other nobody each every owed = (
  λ found.
      let one = one_in (owing debt client) (owing every each) found in
      absurd
      (unseated_owed (stands client) debt nobody other
      (subst (λ (o : Owing). IsOwed (stands o.client) o.debt) (sym one) owed)),
  inl owed,
)

-- behind deeds nothing more is owed
pub owes_after :
    (deeds : List Act) (stands : ℕ → Standing) → OwesOnly [] [] stands (stands_after deeds stands)
owes_after [] stands = λ client debt owed. (λ none. none, inl owed)
owes_after (deed ∷ deeds) stands =
    let own = client_of deed in
    let next = with_standing own (begun (stands own)) stands in
    owes_then [] [] [] stands next (stands_after deeds next)
    (owes_one [] [] own (begun (stands own)) stands
    (λ debt owed. (λ none. none, inl (begun_owed (stands own) debt owed)))
    (λ other debt differ none. none))
    (owes_after deeds next)

pub keeps_after :
    (why : Type 0) (deeds : List Act) (stands : ℕ → Standing) →
    KeepsOnly why stands (stands_after deeds stands)
keeps_after why [] stands = λ client kept. inl kept
keeps_after why (deed ∷ deeds) stands =
    let own = client_of deed in
    let next = with_standing own (begun (stands own)) stands in
    keeps_then why stands next (stands_after deeds next)
    (keeps_one why own (begun (stands own)) stands (λ kept. inl ((none_kept (stands own)).begins kept)))
    (keeps_after why deeds next)

-- what is told is owed behind it
owes_more :
    (debt : Debt) (client : ℕ) (standing : Standing) (debts : List Owing) (stands : ℕ → Standing) →
    ((each : Debt) → IsOwed standing each → IsOwed (stands client) each ⊎ (each ≡ debt)) →
    OwesOnly debts (owing debt client ∷ debts) stands (with_standing client standing stands)
owes_more debt client standing debts stands was =
    owes_one debts (owing debt client ∷ debts) client standing stands
    (λ each owed. (
      λ found. later_in (owing debt client) debts (owing each client) found,
      elim (was each owed) [
        | inl before ↦ inl before
        | inr same ↦
            inr
            (subst (λ (d : Debt). Contains (owing debt client ∷ debts) (owing d client)) (sym same)
            (first_in (owing debt client) debts))
      ],
    ))
    (λ other each differ found. later_in (owing debt client) debts (owing each other) found)

pub owes_told :
    (fresh : ℕ) (told : Told) (debts : List Owing) (stands : ℕ → Standing) →
    OwesOnly debts (told_of fresh told ++ debts) stands (stands_behind (Said fresh told) stands)
owes_told fresh Joined debts stands =
    owes_more A_seat fresh (greeted (stands fresh)) debts stands (greeted_owed (stands fresh))
owes_told fresh (Ready client) debts stands =
    owes_more A_turn client (woken (stands client)) debts stands (woken_owed (stands client))
owes_told fresh (Late client) debts stands =
    owes_more An_end client (expired (stands client)) debts stands (expired_owed (stands client))
owes_told fresh Nothing debts stands = owes_still debts debts stands (λ one found. found)

pub keeps_told :
    (why : Type 0) (fresh : ℕ) (told : Told) (stands : ℕ → Standing) →
    KeepsOnly why stands (stands_behind (Said fresh told) stands)
keeps_told why fresh Joined stands =
    keeps_one why fresh (greeted (stands fresh)) stands
    (λ kept. inl ((none_kept (stands fresh)).greets kept))
keeps_told why fresh (Ready client) stands =
    keeps_one why client (woken (stands client)) stands
    (λ kept. inl ((none_kept (stands client)).wakes kept))
keeps_told why fresh (Late client) stands =
    keeps_one why client (expired (stands client)) stands
    (λ kept. inl ((none_kept (stands client)).expires kept))
keeps_told why fresh Nothing stands = keeps_still why stands
