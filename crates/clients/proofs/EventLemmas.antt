-- Turns as a course.
use Rattle.std.proofs.Common.{ℕ, List, [], ◌++◌, append_assoc, sym, subst}
use Rattle.std.proofs.lemmas.List.{append-nil}
use Rattle.chain.specs.Ledgers.{LedgersMeaning}
use Rattle.service.specs.Courses.{Event, Course, Begin}
use Rattle.service.specs.ConnectionEvents.{event_in, ExchangesLeadOn}
use Rattle.service.specs.ExchangeLaws.{live_before}
use Rattle.service.specs.OwnDeeds.{EachSeesItself}
use Rattle.service.specs.InTurn.{Nothing, More}
use Rattle.clients.specs.Turns.{connection_of, events_in_turns}
use Rattle.clients.specs.Turns.{TurnsLeadOn, ServeEachAlone}

-- ledgers that are no longer live stay so
abbrev pub StaysDead : {S : Type 0} → LedgersMeaning S → Type 0
StaysDead {S} t = (a b : S) → t.follows a b → t.is_live b → t.is_live a

-- turns lead a course on, each by its exchange
pub turns_lead_on :
    {S C : Type 0} (t : LedgersMeaning S) (gives : C → ℕ → C → Type 0) → ExchangesLeadOn t gives →
    StaysDead t → TurnsLeadOn t gives
turns_lead_on t gives exchanges lived first last all Nothing live began events course =
    subst (λ (es : List Event). Course began es (t.tenants first.ledgers)) (sym (append-nil events)) course
turns_lead_on t gives exchanges lived first last all (More before mid told next turns turn) live began events course =
    let old = connection_of told.client mid in
    let new = connection_of told.client next in
    subst (λ (es : List Event). Course began es (t.tenants next.ledgers))
    (append_assoc events (events_in_turns turns) (event_in told.reply turn.exchange.by))
    (exchanges began (events ++ events_in_turns turns) old new told.reply turn.exchange live
    (turns_lead_on t gives exchanges lived first mid before turns
    (live_before t gives old new told.reply lived turn.exchange.by live) began events course))

-- each tenant sees its own requests alone
pub serve_each_alone :
    {S C : Type 0} (t : LedgersMeaning S) (gives : C → ℕ → C → Type 0) → EachSeesItself →
    TurnsLeadOn t gives → ServeEachAlone t gives
serve_each_alone t gives sees lead first last all turns live digest =
    sees (t.tenants first.ledgers) (t.tenants last.ledgers) (events_in_turns turns)
    (lead first last all turns live (t.tenants first.ledgers) [] Begin) digest
