-- Serving as a run of deeds.
use Rattle.std.proofs.Common.{◌≡◌, refl, sym, ap, ◌∙◌, subst, ℕ, List, [], ◌++◌, Option, Some, None, is_some, arith}
use Rattle.std.proofs.lemmas.Bool.{false≢true}
use Rattle.std.proofs.lemmas.List.{append-nil}
use Rattle.clients.specs.Deeds.{Room, Act, Lives}
use Rattle.service.specs.InTurn.{Nothing, More}
use Rattle.clients.specs.Talk.{Talk}
use Rattle.polling.specs.Serving.{Hall, Terms, Occurs, Did, Tells, Stirs, Puts_off, Joins, Goes, Again, Rests, Passes, Fails, Begin, Then}
use Rattle.polling.specs.Serving.{IsGiven, rounds_of, rounds_in}
use Rattle.polling.specs.Standing.{Away, StandsIn}
use Rattle.polling.specs.Laws.{AreLives, BeginsEmpty}
use Rattle.polling.specs.Seating.{seats_in}

-- the same room, and no deed more
stays :
    {S C P : Type 0} (r : Terms S C P) (first last : Room S C) (deeds : List Act) →
    Lives S C r.means r.gives first deeds last →
    Lives S C r.means r.gives first (deeds ++ []) last
stays {S} {C} r first last deeds lives =
    subst (λ (all : List Act). Lives S C r.means r.gives first all last) (sym (append-nil deeds)) lives

one_more :
    {S C P : Type 0} (r : Terms S C P) →
    ((given : Option ℕ) (old new : S) → r.renews given old new → (given ≡ None) × (new ≡ old)) →
    (first : Room S C) (last next : Hall S C P) (deeds more : List Act) →
    Lives S C r.means r.gives first deeds last.room → (happens : Occurs S C P r last more next) →
    rounds_of happens ≡ 0 →
    Lives S C r.means r.gives first (deeds ++ more) next.room
one_more r same first last next deeds more lives (Did deed room peers live done settled hands) none =
    More deeds last.room deed room lives done
one_more r same first last next deeds more lives (Tells fresh told peers free does) none =
    stays r first last.room deeds lives
one_more r same first last next deeds more lives (Stirs doing peers may does) none =
    stays r first last.room deeds lives
one_more r same first last next deeds more lives (Puts_off client peers is does) none =
    stays r first last.room deeds lives
one_more r same first last next deeds more lives (Joins client away) none =
    stays r first last.room deeds lives
one_more r same first last next deeds more lives (Goes client peers may) none =
    stays r first last.room deeds lives
one_more {S} {C} r same first last next deeds more lives (Again ledgers moments given asked renews) none =
    let is = same given last.room.ledgers ledgers renews in
    let unasked : moments ≡ last.room.moments =
    subst (λ (g : Option ℕ). IsGiven r.gives last.room.moments g moments) is.0 asked in
    subst
    (λ (l : S).
    Lives S C r.means r.gives first (deeds ++ []) (record last.room { ledgers = l; moments = moments }))
    (sym is.1)
    (subst
    (λ (m : C). Lives S C r.means r.gives first (deeds ++ []) (record last.room { moments = m }))
    (sym unasked) (stays r first last.room deeds lives))
one_more r same first last next deeds more lives (Rests ledgers before) none =
    absurd (omega (arith, none))
one_more r same first last next deeds more lives (Passes moments given passed) none =
    absurd (omega (arith, none))
one_more r same first last next deeds more lives (Fails also room ledgers stands lived told failed begun) none =
    absurd (omega (arith, none))

pub are_lives : {S C P : Type 0} (r : Terms S C P) → AreLives r
are_lives r same first last deeds Begin none = Nothing
are_lives r same first last deeds (Then before mid more next serves happens) none =
    let earlier : rounds_in serves ≡ 0 = omega (arith, none) in
    one_more r same first.room mid next before more
    (are_lives r same first mid before serves earlier) happens (omega (arith, none))

pub begins_empty : {S C P : Type 0} → BeginsEmpty S C P
begins_empty ledgers moments peers seats empty =
    let nobody : (client : ℕ) (talk : Talk) → seats_in seats.clients client ≡ Some talk → ⊥ =
    λ client talk is. false≢true (ap is_some (sym (empty.0 client) ∙ is)) in
    record {
      ledgers = refl;
      moments = refl;
      peers = refl;
      seated = λ client talk is. absurd (nobody client talk is);
      there = λ client talk is. refl;
      below = λ client talk is. absurd (nobody client talk is);
      unused = λ client beyond. refl;
      not_gone = λ client beyond. refl;
      stands = λ client.
          subst (λ (seat : Option Talk). StandsIn seat Away) (sym (empty.0 client)) refl;
    }
