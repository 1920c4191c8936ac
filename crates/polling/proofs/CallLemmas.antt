-- Serving as a run of calls.
use Rattle.std.proofs.Common.{◌≡◌, ◌⊎◌, inl, inr, refl, sym, subst, List, []}
use Rattle.ledger_http.specs.declared.reply.Reply.{Reply}
use Rattle.service.specs.Connections.{Connection, IsFirstAnswered, IsTurnedAway, LacksMemory}
use Rattle.clients.specs.Deeds.{Room, Act, Came, Ended, Replied, Continued, Wrote, IsActed}
use Rattle.polling.specs.Serving.{Hall, Terms, Occurs, Did, Tells, Stirs, Puts_off, Joins, Goes, Again, Rests, Passes, Fails}
use Rattle.polling.specs.Serving.{Proceeds, Begin, Then}
use Rattle.polling.specs.Laws.{AreCalls, IsRunOfCalls}

module _ {S C P : Type 0} (r : Terms S C P) (stays : (a : S) → r.means.follows a a) where
  same_follows : (old new : S) → new ≡ old → r.means.follows old new
  same_follows old new same = subst (r.means.follows old) (sym same) (stays old)

  exchange_follows :
      (old new : Connection S C) (reply : Reply) →
      IsFirstAnswered r.means r.gives old reply new
      ⊎ (IsTurnedAway old reply new ⊎ LacksMemory old reply new) →
      r.means.follows old.ledgers new.ledgers
  exchange_follows old new reply (inl answered) = answered.follows
  exchange_follows old new reply (inr (inl away)) =
      same_follows old.ledgers new.ledgers away.cut.ledgers
  exchange_follows old new reply (inr (inr lacks)) =
      same_follows old.ledgers new.ledgers lacks.cut.ledgers

  deed_follows :
      (old new : Room S C) (deed : Act) → IsActed r.means r.gives old deed new →
      r.means.follows old.ledgers new.ledgers
  deed_follows old new (Replied client reply) done =
      exchange_follows _ _ reply (done.does.0.exchange [] (λ ended. refl)).by
  deed_follows old new (Came client piece) done =
      same_follows old.ledgers new.ledgers done.does.0.ledgers_same
  deed_follows old new (Ended client) done =
      same_follows old.ledgers new.ledgers done.does.ledgers_same
  deed_follows old new (Continued client part) done =
      same_follows old.ledgers new.ledgers done.does.0.ledgers_same
  deed_follows old new (Wrote client bytes) done =
      same_follows old.ledgers new.ledgers done.does.ledgers_same

  -- one thing that happens
  pub step_follows : AreCalls r
  step_follows last next more (Did deed room peers turn done settled hands) none =
      deed_follows last.room room deed done
  step_follows last next more (Tells fresh told peers free does) none = stays last.room.ledgers
  step_follows last next more (Stirs doing peers may does) none = stays last.room.ledgers
  step_follows last next more (Puts_off client peers is does) none = stays last.room.ledgers
  step_follows last next more (Joins client away) none = stays last.room.ledgers
  step_follows last next more (Goes client peers may) none = stays last.room.ledgers
  step_follows last next more (Again ledgers moments given asked renewed) follows = follows
  step_follows last next more (Rests ledgers same) none = same.follows
  step_follows last next more (Passes moments given passed) none = stays last.room.ledgers
  step_follows last next more (Fails deeds room ledgers stands lives told failed begun) none =
      failed.follows

  -- all that is done
  module _ (then : (a b c : S) → r.means.follows a b → r.means.follows b c → r.means.follows a c) where
    pub run_of_calls : IsRunOfCalls r
    run_of_calls first last deeds Begin none = stays first.room.ledgers
    run_of_calls first last deeds (Then before mid more next serves happens) none =
        then first.room.ledgers mid.room.ledgers next.room.ledgers
        (run_of_calls first mid before serves none.0) (step_follows mid next more happens none.1)
