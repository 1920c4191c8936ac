-- What serving many clients comes to, until so many messages were replied to.
use Rattle.std.specs.Prelude.{◌≡◌, ◌≢◌, ◌≤◌, ◌<◌, ℕ, List, [], ◌++◌, Option, Result, Ok, OnErr}
use Rattle.std.specs.List.{AllByRecursion}
use Rattle.sqlite_disk.specs.declared.Disk as disk
use Rattle.sqlite_disk.specs.declared.Files.{Files}
use Rattle.chain.specs.Backends.{in_use}
use Rattle.chain.specs.Ledgers.{Tenants}
use Rattle.service.specs.Courses.{Event}
use Rattle.service.specs.Attending.{IsAskedOrOfService}
use Rattle.service.specs.Openings.{run_meaning, IsFoundLive, CourseSince, HasLed}
use Rattle.service.specs.OwnDeeds.{SeesItself}
use Rattle.service.specs.Rising.{GivesRising, Rise}
use Rattle.service.specs.Seen.{SeenAt, Whole}
use Rattle.clients.specs.Answering.{MayCome}
use Rattle.clients.specs.Deeds.{Act, IsClientServed, come_from, written_to}
use Rattle.polling.specs.Courses.{AreRenewals, IsSince}
use Rattle.polling.specs.Ending.{most_turns}
use Rattle.polling.specs.Laws.{ReadsThrough, empty_hall, machines_in}
use Rattle.polling.specs.Peers.{Doing}
use Rattle.polling.specs.Seating.{replies_in}
use Rattle.polling.specs.Serving.{Hall, Terms, Proceeds, Begin, Then, rules, tellings}
use Rattle.store.specs.StoreLaws.{store_meaning}
use Rattle.store.specs.declared.store.Store.{Store}
use Rattle.commands.specs.Behind.{MayWait}
use Rattle.commands.specs.Kept.{kept_meaning, kept_store, IsFoundLiveKept, MayBeCalled, Renews}
use Rattle.commands.specs.Kept.{renewal_seen}
use Rattle.commands.specs.declared.serving.Served.{Served}
use Rattle.commands.specs.declared.serving.Served.TheVariants.{Enough}
use Rattle.commands.specs.declared.kept.Kept.{Kept}
use Rattle.command_texts.specs.declared.fault.Fault.{Fault}

module _ {S C P : Type 0} {r : Terms S C P} {first : Hall S C P}
    (Holds : (deeds : List Act) (last : Hall S C P) → Proceeds S C P r first deeds last → Type 0)
  where
    -- it holds of all that was done, and did at each point of it
    abbrev pub AtEachPoint :
        {deeds : List Act} {last : Hall S C P} → Proceeds S C P r first deeds last → Type 0
    AtEachPoint Begin = Holds [] first Begin
    AtEachPoint (Then deeds last more next serves happens) =
        AtEachPoint serves × Holds (deeds ++ more) next (Then deeds last more next serves happens)

-- What is written to a client is a beginning of the replies to its own messages, in order, one a
-- message. That holds as long as its replies went on as they were begun.
abbrev pub AreEachServed :
    {S C P : Type 0} (r : Terms S C P) {first : Hall S C P} (deeds : List Act) (last : Hall S C P)
    → Proceeds S C P r first deeds last → Type 0
AreEachServed r deeds last so_far =
    (before : Tenants) (client : ℕ)
    → ReadsThrough before client so_far
    → (later : List ℕ)
    → MayCome (last.room.talks client).unread later
    → IsClientServed r.means r.gives (come_from client deeds) later (written_to client deeds)
    (machines_in before so_far client) (last.room.talks client)

-- Clients were served from the first that came, until as many messages were replied to as there were
-- to be. Or fewer were, since it was asked to end. Or with a fault fewer were, and peers told
-- 2^64 - 1 times at least what had happened. At each point of it each client was served its own
-- replies. All that was done is a course, in which each tenant sees its own deeds alone. What no
-- message asked for books nothing, and moments do not fall if those that are given do not.
pub record ServesClients {S C P : Type 0} (r : Terms S C P) (ledgers : S) (moments : C) (peers : P)
    (most : ℕ) (ledgers_now : S) (moments_now : C) (peers_now : P) (result : Result Served Fault) :
    Type 0 where
  pub deeds : List Act
  pub last : Hall S C P
  pub served : Proceeds S C P r (empty_hall ledgers moments peers) deeds last
  pub ledgers_left : last.room.ledgers ≡ ledgers_now
  pub moments_left : last.room.moments ≡ moments_now
  pub peers_left : last.peers ≡ peers_now
  pub each : AtEachPoint (AreEachServed r) served
  pub course :
      (renewals : AreRenewals r)
      → IsFoundLive (run_meaning r.means) ledgers
      → HasLed (run_meaning r.means)
      (IsSince renewals (empty_hall ledgers moments peers) deeds last served) last.room.ledgers
  pub alone :
      (renewals : AreRenewals r) (events : List Event) (began now : Tenants)
      → CourseSince (IsSince renewals (empty_hall ledgers moments peers) deeds last served) events
      began now
      → (digest : List ℕ) → SeesItself began events now digest
  pub booked :
      (renewals : AreRenewals r) (events : List Event) (began : Tenants)
      → IsSince renewals (empty_hall ledgers moments peers) deeds last served events began
      → AllByRecursion IsAskedOrOfService events
  pub rise :
      (told : C → ℕ)
      → GivesRising r.gives told
      → (renewals : AreRenewals r) (events : List Event) (began : Tenants)
      → IsSince renewals (empty_hall ledgers moments peers) deeds last served events began
      → Rise (told moments) events (told last.room.moments)
  pub enough : result ≡ Ok Enough → replies_in deeds ≡ most
  pub few : result ≢ Ok Enough → replies_in deeds < most
  pub asked : OnErr result (most_turns ≤ tellings served)

module _ {D : Type 0} {g : disk.Ghosts D} {C P : Type 0}
    (opens : Option (Files D) → Result Tenants Fault → Type 0) (gives : C → ℕ → C → Type 0)
    (does : P → Doing → P → Type 0) where
  -- messages are answered by a store, or by ledgers that are not there; a store that answers calls
  -- stays as it is; and only a batch waits of which a tenant is behind
  abbrev pub store_rules : Terms (SeenAt (Kept (Store D g))) C P
  store_rules = rules (kept_meaning (in_use store_meaning)) gives (Renews opens) MayWait does

  -- Clients were served by a store, whenever it was opened again, or by what stood in its place. What
  -- stands there in the end may be called. All that was done is a course of what happened to it, if
  -- what was there first is live where an opening may find anything of it. It begins anew only where
  -- an opening was refused or a store opened anew.
  pub record ServesStore (first : Kept (Store D g)) (moments : C) (peers : P) (most : ℕ)
      (moments_now : C)
      (peers_now : P) (result : Result Served Fault) : Type 0 where
    pub kept : Kept (Store D g)
    pub usable : MayBeCalled kept
    pub served :
        ServesClients store_rules (Whole first) moments peers most (Whole kept) moments_now
        peers_now result
    pub course :
        IsFoundLiveKept first
        → HasLed kept_store
        (IsSince (renewal_seen opens) (empty_hall (Whole first) moments peers) served.deeds
        served.last served.served) kept

  -- so it was, and this was kept of the store in the end
  pub record ServesKept (first : Kept (Store D g)) (moments : C) (peers : P) (most : ℕ)
      (left : Kept (Store D g)) (moments_now : C) (peers_now : P) (result : Result Served Fault)
      : Type 0 where
    pub serves : ServesStore first moments peers most moments_now peers_now result
    pub kept : serves.kept ≡ left
