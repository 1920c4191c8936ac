-- What was done behind what was done before.
use Rattle.std.proofs.Common.{◌≡◌, ◌≢◌, ◌≤◌, ◌<◌, refl, ℕ, List, [], ◌++◌, Result, Ok, OnErr}
use Rattle.service.specs.Openings.{run_meaning, IsSettled}
use Rattle.clients.specs.Deeds.{Act}
use Rattle.polling.specs.Courses.{IsCourse, CoursesServeEachAlone, BooksOnlyWhatIsAsked, MomentsRise}
use Rattle.polling.specs.Ending.{Ends, Quiet, Long, most_turns}
use Rattle.polling.specs.Ending as ending
use Rattle.polling.specs.Laws.{EachIsServed, empty_hall}
use Rattle.polling.specs.Seating.{Held, HoldsHall, replies_in}
use Rattle.polling.specs.Serving.{Hall, Terms, Proceeds, Begin, Then, tellings}
use Rattle.command_texts.specs.declared.fault.Fault.{Fault}
use Rattle.commands.specs.Serving.{AreEachServed, AtEachPoint, ServesClients}
use Rattle.commands.specs.declared.serving.Served.{Served}
use Rattle.commands.specs.declared.serving.Served.TheVariants.{Enough}

module _ {S C P : Type 0} (r : Terms S C P) where
  -- serving that ended otherwise than by enough
  pub ended_short :
      (is_enough : Type 0) (old new : Held S C P) (replies : ℕ) → (is_enough → ⊥) →
      Ends S C P r is_enough old new replies → Ends S C P r ⊥ old new replies
  ended_short is_enough old new replies short (ending.Enough enough) = absurd (short enough)
  ended_short is_enough old new replies short (Quiet quiet) = Quiet quiet
  ended_short is_enough old new replies short (Long turns) = Long turns

  -- what holds of whatever was done did at each point
  at_each_point :
      {first : Hall S C P}
      (Holds : (deeds : List Act) (last : Hall S C P) → Proceeds S C P r first deeds last → Type 0) →
      ((deeds : List Act) (last : Hall S C P) (serves : Proceeds S C P r first deeds last) →
      Holds deeds last serves) →
      {deeds : List Act} {last : Hall S C P} (serves : Proceeds S C P r first deeds last) →
      AtEachPoint Holds serves
  at_each_point {first} Holds holds Begin = holds [] first Begin
  at_each_point Holds holds (Then deeds last more next serves happens) = (
    at_each_point Holds holds serves,
    holds (deeds ++ more) next (Then deeds last more next serves happens),
  )

  -- what was served of whom nothing had come
  pub serves_so :
      EachIsServed r → IsCourse r → CoursesServeEachAlone r → BooksOnlyWhatIsAsked r → MomentsRise r →
      (ledgers : S) (moments : C) (peers : P) → IsSettled (run_meaning r.means) ledgers →
      (last : Hall S C P) (deeds : List Act)
      (served : Proceeds S C P r (empty_hall ledgers moments peers) deeds last) (now : Held S C P) →
      HoldsHall now last → (most : ℕ) (result : Result Served Fault) →
      (result ≡ Ok Enough → replies_in deeds ≡ most) →
      (result ≢ Ok Enough → replies_in deeds < most) → OnErr result (most_turns ≤ tellings served) →
      ServesClients r ledgers moments peers most now.ledgers now.moments now.peers result
  serves_so each course alone booked rise ledgers moments peers settled last deeds served now keeps most result
      enough few asked =
      let first = empty_hall ledgers moments peers in
      record {
        deeds = deeds;
        last = last;
        served = served;
        ledgers_left = keeps.ledgers;
        moments_left = keeps.moments;
        peers_left = keeps.peers;
        each =
            at_each_point (AreEachServed r)
            (λ deeds last so_far before client reads later may.
            each first last deeds so_far before client reads refl later may)
            served;
        course = λ renewals live. course renewals first last deeds served live settled;
        alone = λ renewals events began end is. alone renewals first last deeds served events began end is;
        booked = λ renewals events began since.
            booked renewals first last deeds served events began since;
        rise = λ told rising renewals events began since.
            rise told rising renewals first last deeds served events began since;
        enough = enough;
        few = few;
        asked = asked;
      }
