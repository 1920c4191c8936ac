-- A store that is opened again, or anew in its place.
use Rattle.std.proofs.Common.{◌≡◌, refl, ℕ, Bool, true, false, Option, Some, None, IfSome, Result, Ok, Err, OnOk, OnErr}
use Rattle.std.proofs.Common.{IsTrue, sym, subst}
use Rattle.sqlite_disk.specs.declared.Disk as disk
use Rattle.sqlite_disk.specs.declared.Files.{Files}
use Rattle.chain.specs.Backends.{in_use}
use Rattle.chain.specs.Ledgers.{Tenants}
use Rattle.openings.specs.declared.opening.OpenFault.{OpenFault}
use Rattle.polling.specs.Serving.{HasAttended, Unasked, Asked_once}
use Rattle.service.specs.Openings.{run_meaning, IsSettled, IsFoundLive, IsOpened}
use Rattle.service.specs.OpeningLaws.{is_opened}
use Rattle.stored_ledgers.specs.DueSets.{DueSets}
use Rattle.store.specs.StoreLaws.{store_meaning, opened_is_found, opened_is_live}
use Rattle.store.specs.Stores.{AnswersCalls, IsHonest, IsHonestAt, IsLiveAt, IsUsable, IsUsableAt}
use Rattle.store.specs.Stores.{StoreFinds, may_find}
use Rattle.store.specs.declared.place.Place.{Place}
use Rattle.store.specs.declared.place.Place.TheVariants as at
use Rattle.store.specs.declared.store.Store.{Store}
use Rattle.command_texts.specs.declared.fault.Fault.{Fault}
use Rattle.commands.specs.Kept.{kept_meaning, kept_of, kept_store, IsFoundLiveKept}
use Rattle.commands.specs.Kept.{answers, WasRefused}
use Rattle.commands.specs.Kept.{Attends, IsGivenUp, IsOpenedAnew, IsRefusedAgain, MayBeCalled}
use Rattle.commands.specs.Kept.{Renews, Stays, Again, Anew, Stands, Refuses, Gives_up, Tries, Looks}
use Rattle.commands.specs.declared.kept.Kept.{Kept}
use Rattle.commands.specs.declared.kept.Kept.TheVariants.{Open, Closed}

module _ {D : Type 0} {g : disk.Ghosts D} where
  -- where a store is live if an opening may find anything, it is live in use, where it may be called
  pub found_live_used :
      (kept : Kept (Store D g)) → MayBeCalled kept → IsFoundLiveKept kept →
      IsFoundLive (run_meaning (kept_meaning (in_use store_meaning))) kept
  found_live_used (Open store) usable live found may = (live found may, usable)
  found_live_used Closed usable live found may = may

  live_where_ready :
      (ready : Bool) (sets : DueSets) (place : Place D g) → IsUsableAt ready sets place →
      IsTrue ready → IsHonestAt place → IsLiveAt place
  live_where_ready ready sets (at.Open conn) usable is honest = (honest, usable.1 is honest)
  live_where_ready ready sets (at.Shut files) usable is honest = absurd (cc)

  -- a store that answers calls is live where an opening may find anything
  pub found_live_first :
      (first : Option (Store D g)) → IfSome first IsUsable → IfSome first AnswersCalls →
      IsFoundLiveKept (kept_of first)
  found_live_first (Some store) usable ready found may =
      live_where_ready store.ready store.due store.place usable ready may.honest
  found_live_first None usable ready found may = may

  -- a store that was opened again is what was to be found
  pub opened_so :
      (old new : Store D g) (result : Result (Unit {0}) OpenFault) → IsUsable new →
      (IsHonest new → OnOk result (StoreFinds new (may_find old))) →
      (IsHonest new → OnOk result (IsHonest old)) →
      IsSettled (run_meaning (in_use store_meaning)) new →
      OnOk result (IsOpened (run_meaning (in_use store_meaning)) old new)
  opened_so old new (Ok done) usable finds honest settled =
      is_opened (run_meaning (in_use store_meaning)) old new
      (λ live. opened_is_found old new finds honest live.0)
      (λ found may. (opened_is_live old new finds found may, usable)) settled
  opened_so old new (Err fault) usable finds honest settled = tt

  -- a store was opened anew where one was refused, or that was refused too
  pub anew_so :
      (opens : Option (Files D) → Result Tenants Fault → Type 0) (old left new : Kept (Store D g))
      (result : Result (Unit {0}) Fault) → answers old ≡ false → WasRefused old left →
      OnOk result (IsOpenedAnew opens left new) → OnOk result (IsTrue (answers new)) →
      OnOk result (IsSettled kept_store new) → OnErr result (IsGivenUp opens left) →
      OnErr result (new ≡ Closed) → Renews opens None old new
  anew_so opens old left new (Ok done) silent refused anew answering settled given_up closed =
      Anew left silent refused anew answering settled
  anew_so opens old left new (Err fault) silent refused anew answering settled given_up closed =
      Gives_up left silent refused given_up closed

  refused_by :
      (opens : Option (Files D) → Result Tenants Fault → Type 0) (old left : Store D g)
      (fault : OpenFault) → answers (Open old) ≡ false → (again : IsRefusedAgain fault old left) →
      (stands : Bool) → again.refused.stands ≡ stands → Renews opens None (Open old) (Open left)
  refused_by opens old left fault silent again true is = Stands silent (fault, again, is)
  refused_by opens old left fault silent again false is = Refuses silent (fault, again, is)

  -- opening it again over its own files was refused, and the files hold what they held or do not
  pub refused_so :
      (opens : Option (Files D) → Result Tenants Fault → Type 0) (old left : Store D g)
      (fault : OpenFault) → answers (Open old) ≡ false → IsRefusedAgain fault old left →
      Renews opens None (Open old) (Open left)
  refused_so opens old left fault silent again =
      refused_by opens old left fault silent again again.refused.stands refl

  -- what is done where no store is opened anew is done where some may be
  pub attends_so :
      (opens : Option (Files D) → Result Tenants Fault → Type 0) (given : Option ℕ)
      (old new : Kept (Store D g))
      → Attends given old new → Renews opens given old new
  attends_so opens given old new (Stays same) = Stays same
  attends_so opens given old new (Again silent answering opened) = Again silent answering opened
  attends_so opens given old new (Anew left silent refused anew answering settled) =
      absurd anew.2
  attends_so opens given old new (Stands silent refused) = Stands silent refused
  attends_so opens given old new (Refuses silent refused) = Refuses silent refused
  attends_so opens given old new (Gives_up left silent refused given_up closed) =
      absurd given_up.told
  attends_so opens given old new (Tries deed ending may stays moves) = Tries deed ending may stays moves
  attends_so opens given old new (Looks stays rest) = Looks stays rest

  -- so it is of what was done with a moment or without one
  pub attended_so :
      {C : Type 0} (opens : Option (Files D) → Result Tenants Fault → Type 0) (gives : C → ℕ → C → Type 0)
      (old new : Kept (Store D g)) (moments moments_now : C) →
      HasAttended gives Attends old moments new moments_now →
      HasAttended gives (Renews opens) old moments new moments_now
  attended_so opens gives old new moments moments_now (Unasked same renews) =
      Unasked same (attends_so opens None old new renews)
  attended_so opens gives old new moments moments_now (Asked_once moment given renews) =
      Asked_once moment given (attends_so opens (Some moment) old new renews)

  -- a store that is there is settled
  pub kept_settled :
      (kept : Kept (Store D g)) (store : Store D g) → kept ≡ Open store →
      IsSettled (run_meaning (in_use store_meaning)) store → IsSettled kept_store kept
  kept_settled kept store is settled =
      subst (λ (each : Kept (Store D g)). IsSettled kept_store each) (sym is) settled
