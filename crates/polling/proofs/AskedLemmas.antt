-- What was asked for in a course, and what a service did of its own accord.
use Rattle.std.proofs.Common.{◌≡◌, ◌⊎◌, inl, inr, refl, sym, subst, ℕ, List, [], Option}
use Rattle.std.specs.List.{AllByRecursion}
use Rattle.ledger_http.specs.declared.reply.Reply.{Reply}
use Rattle.chain.specs.Ledgers.{LedgersMeaning, Tenants}
use Rattle.service.specs.Attending.{IsAskedOrOfService, ServiceBooksNothing}
use Rattle.service.specs.Connections.{Connection, IsFirstAnswered, IsTurnedAway, LacksMemory}
use Rattle.service.specs.ConnectionEvents.{event_in}
use Rattle.service.specs.Courses.{Event}
use Rattle.service.specs.EventLaws.{all_append}
use Rattle.service.specs.InTurn.{Nothing, More}
use Rattle.service.specs.Openings.{RunMeaning, run_meaning}
use Rattle.clients.specs.Deeds.{Room, Act, Came, Ended, Replied, Continued, Wrote, IsActed, Lives}
use Rattle.polling.specs.Serving.{Hall, Terms, Occurs, Did, Tells, Stirs, Puts_off, Joins, Goes, Again, Rests, Passes, Fails, Proceeds}
use Rattle.polling.specs.Serving.{events_by, events_of}
use Rattle.polling.specs.Courses.{Renewed, Stayed, Opened, Anew, Refused, Tried, Rested, AreOfOpening}
use Rattle.polling.specs.Courses.{AreRenewals, AreOf, IsSince, Start, Onward, From, BooksOnlyWhatIsAsked}

abbrev AreAsked : List Event → Type 0
AreAsked events = AllByRecursion IsAskedOrOfService events

-- so it is where there are no events
none_asked : (events : List Event) → events ≡ [] → AreAsked events
none_asked events are = subst AreAsked (sym are) tt

exchange_asked :
    {S C : Type 0} (t : LedgersMeaning S) (gives : C → ℕ → C → Type 0) (old new : Connection S C)
    (reply : Reply)
    (by :
    IsFirstAnswered t gives old reply new ⊎ (IsTurnedAway old reply new ⊎ LacksMemory old reply new)) →
    AreAsked (event_in reply by)
exchange_asked t gives old new reply (inl answered) = (tt, tt)
exchange_asked t gives old new reply (inr refused) = tt

deed_asked :
    {S C : Type 0} (t : LedgersMeaning S) (gives : C → ℕ → C → Type 0) (old new : Room S C)
    (deed : Act) (done : IsActed t gives old deed new) → AreAsked (events_by deed done)
deed_asked t gives old new (Replied client reply) done =
    exchange_asked t gives _ _ reply (done.does.0.exchange [] (λ ended. refl)).by
deed_asked t gives old new (Came client piece) done = tt
deed_asked t gives old new (Ended client) done = tt
deed_asked t gives old new (Continued client part) done = tt
deed_asked t gives old new (Wrote client bytes) done = tt

deeds_asked :
    {S C : Type 0} (t : LedgersMeaning S) (gives : C → ℕ → C → Type 0) (first last : Room S C)
    (deeds : List Act) (lives : Lives S C t gives first deeds last) → AreAsked (events_of lives)
deeds_asked t gives first last deeds Nothing = tt
deeds_asked t gives first last deeds (More before mid deed next lives done) =
    all_append IsAskedOrOfService (events_of lives) (events_by deed done)
    (deeds_asked t gives first mid before lives) (deed_asked t gives mid next deed done)

opening_asked :
    {S : Type 0} (t : RunMeaning S) (given : Option ℕ) (old new : S) → ServiceBooksNothing →
    (renewed : Renewed t given old new) (events : List Event) → AreOfOpening renewed events →
    AreAsked events
opening_asked t given old new books (Stayed same) events are = none_asked events are
opening_asked t given old new books (Opened opened) events are = subst AreAsked (sym are.1) (tt, tt)
opening_asked t given old new books (Anew settled) events are = absurd are
opening_asked t given old new books (Refused dead) events are = absurd are
opening_asked t given old new books (Tried deed ending may moves) events are =
    subst AreAsked (sym are) (books given deed may, tt)
opening_asked t given old new books (Rested rest) events are = none_asked events are

module _ {S C P : Type 0} (r : Terms S C P) (books : ServiceBooksNothing) (renewals : AreRenewals r) where
  one_asked :
      (last next : Hall S C P) (more : List Act) (happens : Occurs S C P r last more next)
      (events : List Event) → AreOf renewals happens events → AreAsked events
  one_asked last next more (Did deed room peers stays done settled hands) events are =
      subst AreAsked (sym are) (deed_asked r.means r.gives last.room room deed done)
  one_asked last next more (Tells fresh told peers free does) events are = none_asked events are
  one_asked last next more (Stirs doing peers may does) events are = none_asked events are
  one_asked last next more (Puts_off client peers is does) events are = none_asked events are
  one_asked last next more (Joins client away) events are = none_asked events are
  one_asked last next more (Goes client peers may) events are = none_asked events are
  one_asked last next more (Again ledgers moments given asked renewed) events are =
      opening_asked (run_meaning r.means) given last.room.ledgers ledgers books
      (renewals given last.room.ledgers ledgers renewed) events are
  one_asked last next more (Rests ledgers same) events are = none_asked events are
  one_asked last next more (Passes moments given passed) events are = none_asked events are
  one_asked last next more (Fails deeds room ledgers stands lives told failed begun) events are =
      subst AreAsked (sym are) (deeds_asked r.means r.gives last.room room deeds lives)

  all_asked :
      (first last : Hall S C P) (deeds : List Act) (serves : Proceeds S C P r first deeds last)
      (events : List Event) (began : Tenants) →
      IsSince renewals first deeds last serves events began → AreAsked events
  all_asked first last deeds serves events began Start = tt
  all_asked first last deeds serves events began
      (Onward before mid more next earlier happens done behind since_then since are) =
      all_append IsAskedOrOfService done behind
      (all_asked first mid before earlier done since_then since)
      (one_asked mid next more happens behind are)
  all_asked first last deeds serves events began (From before mid more next earlier happens anew is) = tt

pub books_only_asked :
    {S C P : Type 0} (r : Terms S C P) → ServiceBooksNothing → BooksOnlyWhatIsAsked r
books_only_asked r books renewals first last deeds serves events began since =
    all_asked r books renewals first last deeds serves events began since
