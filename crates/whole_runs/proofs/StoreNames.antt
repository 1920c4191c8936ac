-- The names of a store's tenants, behind each call.
use Rattle.std.proofs.Common.{◌≡◌, ◌≢◌, ℕ, Bool, List, [], ◌∷◌, Option, Some, None, unwrap_or, Result}
use Rattle.std.proofs.Common.{Ok, Err, refl, sym, ap, ◌∙◌}
use Rattle.sqlite_disk.specs.declared.Disk as disk
use Rattle.sqlite_value.specs.Order.{Row}
use Rattle.sqlite.specs.Effect.{Database}
use Rattle.ledger_sql.specs.TableRows.{with_name as rows_with_name}
use Rattle.stored_ledgers.specs.Directory.{digest_in, first_digest, with_name}
use Rattle.stored_ledgers.specs.DueSets.{DueSets}
use Rattle.stored_ledgers.specs.Joining.{HasJoined}
use Rattle.stored_ledgers.specs.Keying.{HasKeyed}
use Rattle.stored_ledgers.specs.Ledger.{HoldsLedgers}
use Rattle.stored_ledgers.specs.Names.{Names, KeepsNames, first_named, names_in}
use Rattle.stored_ledgers.specs.Names.{JoiningGivesName, KeyingGivesName}
use Rattle.stored_ledgers.specs.Outcomes.{KeepsTables}
use Rattle.stored_ledgers.specs.declared.joining.AddTenant.{AddTenant}
use Rattle.stored_ledgers.specs.declared.joining.AddTenant.TheVariants as add
use Rattle.stored_ledgers.specs.declared.keying.ChangeKey.{ChangeKey}
use Rattle.stored_ledgers.specs.declared.keying.ChangeKey.TheVariants as key
use Rattle.openings.specs.OpenTables.{open_state}
use Rattle.store.specs.Names.{digest_named, names_at, names_of}
use Rattle.store.specs.Stores.{Continues, IsLive, IsLiveAt}
use Rattle.store.specs.Stores.{IsUsable, IsUsableAt, OfDatabases}
use Rattle.store.specs.Stores.{OfDatabaseAt}
use Rattle.store.specs.declared.place.Place.{Place}
use Rattle.store.specs.declared.place.Place.TheVariants as at
use Rattle.store.specs.declared.store.Store.{Store}
use Rattle.whole_runs.specs.Names.{JoinsNames, KeysNames}

-- whoever has a row is there
has_first : (rows : List Row) → rows ≢ [] → first_named rows ≢ None
has_first [] some = absurd (some refl)
has_first (row ∷ rows) some = λ none. absurd (cc)

has_digest : (rows : List Row) (digest : List ℕ) → first_digest rows ≡ Some digest
    → first_named rows ≡ Some digest
has_digest [] digest is = absurd (cc)
has_digest (row ∷ rows) digest is = ap (λ (found : Option (List ℕ)). Some (unwrap_or found [])) is

-- nothing has changed
unchanged : (before after : Database) → after ≡ before
    → KeepsNames (names_in before.trees) (names_in after.trees)
unchanged before after same name = ap (λ (db : Database). names_in db.trees name) same

joins_in : JoiningGivesName → (name digest : List ℕ) (before after : Database)
    (result : Result (Unit {0}) AddTenant) → HoldsLedgers before
    → HasJoined name digest before after result
    → JoinsNames name digest (names_in before.trees) result (names_in after.trees)
joins_in law name digest before after (Ok done) ledgers told =
    law name digest before after ledgers told.0 told.1
joins_in law name digest before after (Err add.NameTaken) ledgers told =
    (has_first (with_name name before.trees) told.0, unchanged before after told.1)
joins_in law name digest before after (Err add.DigestTaken) ledgers told =
    (ap first_named told.0.0, unchanged before after told.1)
joins_in law name digest before after (Err (add.Unavailable why)) ledgers told =
    unchanged before after told

-- what is there is the same as the bytes that it has, or none
some_or_none : (found : Option (List ℕ)) (digest : List ℕ) → found ≡ Some digest
    → unwrap_or found [] ≡ digest
some_or_none found digest is = ap (λ (o : Option (List ℕ)). unwrap_or o []) is

there : (found : Option (List ℕ)) (digest : List ℕ) → found ≡ Some digest
    → found ≡ Some (unwrap_or found [])
there found digest is = is ∙ ap Some (sym (some_or_none found digest is))

keys_in : KeyingGivesName → (name digest : List ℕ) (before after : Database)
    (result : Result (Unit {0}) ChangeKey) → HoldsLedgers before
    → HasKeyed name digest before after result
    → KeysNames name (unwrap_or (names_in before.trees name) []) digest (names_in before.trees)
    result (names_in after.trees)
unfolding digest_in
keys_in law name digest before after (Ok done) ledgers keyed =
    let given = law name digest before after ledgers keyed in
    (there (names_in before.trees name) keyed.was given.0, given.1)
keys_in law name digest before after (Err key.NoTenant) ledgers told =
    (ap first_named told.0, unchanged before after told.1)
keys_in law name digest before after (Err key.DigestTaken) ledgers told =
    let had = told.0.1 in
    let is = has_digest (with_name name before.trees) had.0 had.1 in (
      there (names_in before.trees name) had.0 is,
      (λ same. had.2 (sym (some_or_none (names_in before.trees name) had.0 is) ∙ same)),
      unchanged before after told.1,
    )
keys_in law name digest before after (Err (key.Unavailable why)) ledgers told =
    unchanged before after told

module _ {D : Type 0} {g : disk.Ghosts D} where
  kept_at : (old new : Place D g)
      → OfDatabaseAt (λ before. OfDatabaseAt (KeepsTables before) new) old
      → KeepsNames (names_at old) (names_at new)
  kept_at (at.Open tables) (at.Open tables') same name =
      ap (λ (rows : List Row). first_named (rows_with_name name rows)) same.directory
  kept_at (at.Open tables) (at.Shut files) same name = absurd same
  kept_at (at.Shut files) new same name = absurd same

  -- messages
  pub names_stay : (old new : Store D g) → Continues old new → IsLive new
      → KeepsNames (names_of old) (names_of new)
  names_stay old new continues live = kept_at old.place new.place (continues.tables live)

  -- what is so of two open databases that hold ledgers is so of their names
  named_at : (P : Names → Names → Type 0) (Told : Database → Database → Type 0)
      → ((before after : Database) → HoldsLedgers before → Told before after
      → P (names_in before.trees) (names_in after.trees))
      → (ready : Bool) (sets : DueSets) (old new : Place D g) → IsUsableAt ready sets old
      → IsLiveAt old → OfDatabaseAt (λ before. OfDatabaseAt (Told before) new) old
      → P (names_at old) (names_at new)
  named_at P Told so ready sets (at.Open tables) (at.Open tables') usable live told =
      so (open_state tables).now (open_state tables').now (usable.0 live).ledgers told
  named_at P Told so ready sets (at.Open tables) (at.Shut files) usable live told = absurd told
  named_at P Told so ready sets (at.Shut files) new usable live told = absurd told

  -- a tenant that joins
  pub joins_names : JoiningGivesName → (name digest : List ℕ) (old new : Store D g)
      (result : Result (Unit {0}) AddTenant) → IsUsable old → IsLive old
      → OfDatabases (λ before after. HasJoined name digest before after result) old new
      → JoinsNames name digest (names_of old) result (names_of new)
  joins_names law name digest old new result usable live told =
      named_at (λ before after. JoinsNames name digest before result after)
      (λ before after. HasJoined name digest before after result)
      (λ before after. joins_in law name digest before after result)
      old.ready old.due old.place new.place usable live told

  -- another key
  pub keys_names : KeyingGivesName → (name digest : List ℕ) (old new : Store D g)
      (result : Result (Unit {0}) ChangeKey) → IsUsable old → IsLive old
      → OfDatabases (λ before after. HasKeyed name digest before after result) old new
      → KeysNames name (digest_named old name) digest (names_of old) result (names_of new)
  keys_names law name digest old new result usable live told =
      named_at (λ before after. KeysNames name (unwrap_or (before name) []) digest before result after)
      (λ before after. HasKeyed name digest before after result)
      (λ before after. keys_in law name digest before after result)
      old.ready old.due old.place new.place usable live told
