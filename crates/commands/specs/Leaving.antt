-- What has served, as it is left, and how that has come.
use Rattle.std.specs.Prelude.{◌≡◌, ℕ, Bool, List, Option, None, Result, Ok, Err, IfSome, IsTrue, ⊤}
use Rattle.std.specs.Net.Socket.{socket_ip, socket_port}
use Rattle.sqlite_disk.specs.declared.Disk as disk
use Rattle.sqlite_disk.specs.declared.Files.{Files}
use Rattle.chain.specs.Ledgers.{Tenants}
use Rattle.polling.specs.Courses.{IsSince}
use Rattle.polling.specs.Laws.{empty_hall}
use Rattle.polling.specs.Peers.{Doing}
use Rattle.service.specs.Openings.{HasLed}
use Rattle.service.specs.Rising.{GivesTold}
use Rattle.service.specs.Seen.{Whole}
use Rattle.store.specs.Stores.{AnswersCalls, IsUsable}
use Rattle.store.specs.declared.store.Store.{Store}
use Rattle.commands.specs.Kept.{kept_of, kept_store, renewal_seen}
use Rattle.listener.specs.Listening.{ReadsListening}
use Rattle.commands.specs.Serving.{ServesKept}
use Rattle.commands.specs.declared.kept.Kept.{Kept}
use Rattle.listener.specs.declared.listening.Listening.{Listening}
use Rattle.commands.specs.declared.store_serving.EndedService.{EndedService}
use Rattle.command_texts.specs.declared.fault.Fault.{Fault}

-- a service listens at this port of the address that a word asks for
pub record ListensAt (word : Option (List ℕ)) (number : ℕ) (listening : Listening) : Type 0 where
  pub ip : ReadsListening word (Ok (socket_ip listening.asked))
  pub port : socket_port listening.asked ≡ number

module _ {D : Type 0} {g : disk.Ghosts D} where
  -- what is served first: a store that was opened, or none where the file is waited for
  pub record IsServedFirst (standby : Bool) (first : Option (Store D g)) : Type 0 where
    pub usable : IfSome first IsUsable
    pub ready : IfSome first AnswersCalls
    pub waits : first ≡ None → IsTrue standby

module _ {D : Type 0} {g : disk.Ghosts D} {C : Type 0} where
  -- these peers were served so, and that ended with a fault, behind which nothing of it is left
  pub record HasFailedServing {P : Type 0}
      (opens : Option (Files D) → Result Tenants Fault → Type 0)
      (gives : C → ℕ → C → Type 0) (does : P → Doing → P → Type 0) (first : Kept (Store D g))
      (moments : C) (peers : P) (most : ℕ) (fault : Fault) : Type 0 where
    pub kept : Kept (Store D g)
    pub moments_now : C
    pub peers_now : P
    pub served :
        ServesKept opens gives does first moments peers most kept moments_now peers_now (Err fault)

module _ {D : Type 0} {g : disk.Ghosts D} {C O : Type 0} where
  -- what is left has served these peers a store, or what stands in its place, from these moments
  -- on, until so many messages were replied to, or it was asked to end
  abbrev pub HasServedStore :
      {P : Type 0} → (Option (Files D) → Result Tenants Fault → Type 0) → (C → ℕ → C → Type 0)
      → (P → Doing → P → Type 0) → Kept (Store D g) → C → P → ℕ → EndedService D P C O g → Type 0
  HasServedStore opens gives does first moments peers most ended =
      ServesKept opens gives does first moments peers most ended.kept ended.moments ended.peers
      (Ok ended.why)

  -- What is left has served a file to those who connected at an address. Its moments did not fall.
  -- All that was done is a course of what happened to its store, whatever that was first. Nothing is
  -- known of its opener, of the clock or of what clients do.
  pub record HasServedFile (word : Option (List ℕ)) (number : ℕ) (standby : Bool) (most : ℕ)
      (ended : EndedService D Listening C O g) (told : C → ℕ) : Type 0 where
    pub listening : Listening
    pub listens : ListensAt word number listening
    pub first : Option (Store D g)
    pub begins : IsServedFirst standby first
    pub moments : C
    pub served :
        HasServedStore (λ files told. Unit {0}) (GivesTold told) (λ old doing new. ⊤)
        (kept_of first) moments listening most ended
    pub course :
        HasLed kept_store
        (IsSince (renewal_seen (λ files told. Unit {0}))
        (empty_hall (Whole (kept_of first)) moments listening) served.serves.served.deeds
        served.serves.served.last served.serves.served.served) ended.kept
