-- A digest that is told to be taken is a tenant's.
use Rattle.std.proofs.Common.{◌≡◌, ◌≢◌, ℕ, Bool, None, Result, List, [], subst}
use Rattle.sqlite_disk.specs.declared.Disk as disk
use Rattle.sqlite.specs.Effect.{Database}
use Rattle.stored_ledgers.specs.Directory.{with_digest}
use Rattle.stored_ledgers.specs.DueSets.{DueSets}
use Rattle.openings.specs.OpenTables.{open_state}
use Rattle.store.specs.NameLaws.{held}
use Rattle.store.specs.Stores.{AnswersUnless, IsUsable, IsUsableAt, IsLive, IsLiveAt, OfDatabases, OfDatabaseAt}
use Rattle.store.specs.Stores.{tenants_of, tenants_at}
use Rattle.store.specs.declared.place.Place.{Place}
use Rattle.store.specs.declared.place.Place.TheVariants as at
use Rattle.store.specs.declared.store.Store.{Store}

module _ {D : Type 0} {g : disk.Ghosts D} where
  held_at :
      (digest : List ℕ) (P : Database → Database → Type 0) →
      ((before after : Database) → P before after → with_digest digest before.trees ≢ []) →
      (ready : Bool) (sets : DueSets) (place place' : Place D g) → IsUsableAt ready sets place →
      IsLiveAt place → OfDatabaseAt (λ before. OfDatabaseAt (P before) place') place →
      tenants_at place digest ≢ None
  held_at digest P tells ready sets (at.Open tables) (at.Open tables') usable live of =
      held digest (open_state tables).now (usable.0 live).ledgers
      (tells (open_state tables).now (open_state tables').now of)
  held_at digest P tells ready sets (at.Open tables) (at.Shut files) usable live of = absurd of
  held_at digest P tells ready sets (at.Shut files) place' usable live of = absurd of

  -- where it is told of a change of which tenants there are, or of their keys
  pub told_taken :
      {R F : Type 0} (digest : List ℕ) (Told : Database → Database → Result R F → Type 0)
      (taken : Result R F) →
      ((before after : Database) → Told before after taken → with_digest digest before.trees ≢ []) →
      {fault : F} {old new : Store D g} {result : Result R F} → IsUsable old →
      AnswersUnless fault old new result →
      (IsLive new → OfDatabases (λ before after. Told before after result) old new) → IsLive new →
      result ≡ taken → tenants_of old digest ≢ None
  told_taken digest Told taken tells {fault} {old} {new} {result} usable answers told live is =
      held_at digest (λ before after. Told before after taken) tells old.ready old.due old.place new.place
      usable (answers.follows.lived live)
      (subst (λ r. OfDatabases (λ before after. Told before after r) old new) is (told live))
