-- What every run of calls on a store keeps, what a live one holds, and what an opening finds.
use Rattle.std.proofs.Common.{◌≡◌, inl, inr, Bool, true, false, not, IsTrue, List, ℕ}
use Rattle.std.proofs.Common.{refl, sym, ap, subst, ◌∙◌}
use Rattle.std.proofs.Math.Logic.{∥∥₁_elim, ∥∥₁_map}
use Rattle.sqlite_disk.specs.declared.Disk as disk
use Rattle.chain.specs.Backends.{BackendMeaning}
use Rattle.chain.specs.Ledgers.{Tenants, KeepsAll, AreValid}
use Rattle.sqlite_trees.specs.Tree.{Trees}
use Rattle.sqlite_schema.specs.declared.schema.Schema.{Schema}
use Rattle.sqlite.specs.Effect.{Database}
use Rattle.ledger_sql.specs.TableRows.{directory_rows}
use Rattle.stored_ledgers.specs.Directory.{tenants_in, KeepsDirectory}
use Rattle.stored_ledgers.specs.DueSets.{DueSets}
use Rattle.stored_ledgers.specs.Outcomes.{KeepsTables}
use Rattle.stored_ledgers.specs.RoundLaws.{valid_in}
use Rattle.openings.specs.OpenTables.{OpenTables, open_state}
use Rattle.store.specs.Stores.{IsUsable, IsUsableAt, IsLive, IsLiveAt, IsHonest, IsHonestAt, StoreFollows}
use Rattle.store.specs.Stores.{tenants_of, tenants_at, may_find, may_find_at, FindsBy, FindsTenants, StoreFinds}
use Rattle.store.specs.Stores.{FindsAt, IsSettledStore, IsSettledAt, Continues, OfDatabaseAt}
use Rattle.store.specs.Stores.{AreKeptAt, StaysFound, StaysShut}
use Rattle.store.specs.declared.place.Place.{Place}
use Rattle.store.specs.declared.place.Place.TheVariants as at
use Rattle.store.specs.declared.store.Store.{Store}

silent_at :
    (old new : Bool) → (IsTrue new → IsTrue old) → not old ≡ true → not new ≡ true
silent_at false false ready failed = refl
silent_at false true ready failed = absurd (let e = ready refl in cc)
silent_at true new ready failed = absurd (cc)

kept_then : (a b c : Database) → KeepsTables a b → KeepsTables b c → KeepsTables a c
kept_then a b c first second = record {
  schema = second.schema ∙ first.schema;
  directory = second.directory ∙ first.directory;
  strangers = second.strangers ∙ first.strangers;
}

module _ {D : Type 0} {g : disk.Ghosts D} where
  -- what a store means as what keeps ledgers
  abbrev pub store_meaning : BackendMeaning (Store D g)
  store_meaning = record {
    ledgers = record {
      tenants = λ store. tenants_of store;
      is_live = λ store. IsLive store;
      has_failed = λ store. not store.ready;
      follows = λ old new. Continues old new;
      may_find = λ store found. FindsTenants store found;
    };
    is_usable = λ store. IsUsable store;
  }

  -- no call at all is a run of calls
  follows_itself : (a : Store D g) → StoreFollows a a
  follows_itself a = record {
    lived = λ live. live;
    honest = λ honest. honest;
    unready = λ ready. ready;
  }

  -- a run of calls behind another is one
  follows_then : (a b c : Store D g) → StoreFollows a b → StoreFollows b c → StoreFollows a c
  follows_then a b c first second = record {
    lived = λ live. first.lived (second.lived live);
    honest = λ honest. first.honest (second.honest honest);
    unready = λ ready. first.unready (second.unready ready);
  }

  -- a store that stays shut in two runs stays so in both
  pub shut_then : (a b c : Store D g) → StaysShut a b → StaysShut b c → StaysShut a c
  shut_then a b c first second shut =
      let same = first shut in second (ap (λ (s : Store D g). s.ready) same ∙ shut) ∙ same

  -- two open places have one schema, one directory, and the same tables of strangers
  abbrev AreAlike : Place D g → Place D g → Type 0
  AreAlike old new = OfDatabaseAt (λ before. OfDatabaseAt (KeepsTables before) new) old

  alike_itself : (place : Place D g) → IsLiveAt place → AreAlike place place
  alike_itself (at.Open tables) live = record { schema = refl; directory = refl; strangers = refl }
  alike_itself (at.Shut files) live = absurd live

  alike_then : (a b c : Place D g) → AreAlike a b → AreAlike b c → AreAlike a c
  alike_then (at.Open a) (at.Open b) (at.Open c) first second =
      kept_then (open_state a).now (open_state b).now (open_state c).now first second
  alike_then (at.Open a) (at.Open b) (at.Shut files) first second = absurd second
  alike_then (at.Open a) (at.Shut files) c first second = absurd first
  alike_then (at.Shut files) b c first second = absurd first

  kept_back : (a b : Place D g) (was db : Trees) → AreAlike a b → AreKeptAt b was db
      → AreKeptAt a was db
  kept_back (at.Open a) (at.Open b) was db alike kept =
      subst (λ (s : Schema). KeepsTables (record { schema = s; trees = was })
      (record { schema = s; trees = db })) alike.schema kept
  kept_back (at.Open a) (at.Shut files) was db alike kept = absurd alike
  kept_back (at.Shut files) b was db alike kept = absurd alike

  kept_both : (a : Place D g) (was mid db : Trees) → AreKeptAt a was mid → AreKeptAt a mid db
      → AreKeptAt a was db
  kept_both (at.Open a) was mid db first second =
      kept_then (record { schema = (open_state a).now.schema; trees = was })
      (record { schema = (open_state a).now.schema; trees = mid })
      (record { schema = (open_state a).now.schema; trees = db }) first second
  kept_both (at.Shut files) was mid db first second = absurd first

  stays_then : (a b : Store D g) (was mid db : Trees) → Continues a b → StaysFound a was mid
      → StaysFound b mid db → StaysFound a was db
  stays_then a b was mid db f first (inl same) = subst (StaysFound a was) (sym same) first
  stays_then a b was mid db f (inl same) (inr kept) =
      let alike = f.tables kept.0 in
      inr (
        f.follows.lived kept.0,
        kept_back a.place b.place was db alike
            (subst (λ (t : Trees). AreKeptAt b.place t db) same kept.1),
      )
  stays_then a b was mid db f (inr first) (inr second) =
      let alike = f.tables second.0 in
      inr (
        first.0,
        kept_both a.place was mid db first.1
            (kept_back a.place b.place mid db alike second.1),
      )

  directory_at : (place : Place D g) (was db : Trees) → AreKeptAt place was db
      → KeepsDirectory was db
  directory_at (at.Open tables) was db kept = kept.directory
  directory_at (at.Shut files) was db kept = absurd kept

  -- what stays so has the same directory
  pub found_directory : (old : Store D g) (was db : Trees) → StaysFound old was db
      → KeepsDirectory was db
  found_directory old was db (inl same) = ap directory_rows same
  found_directory old was db (inr kept) = directory_at old.place was db kept.1

  -- no message at all is a run of messages
  pub continues_itself : (a : Store D g) → Continues a a
  continues_itself a = record {
    follows = follows_itself a;
    shut = λ shut. refl;
    tables = λ live. alike_itself a.place live;
    found = λ honest db may. ∣ (db, may, inl refl) ∣₁;
  }

  -- a run of messages behind another is one
  pub continues_then : (a b c : Store D g) → Continues a b → Continues b c → Continues a c
  continues_then a b c first second = record {
    follows = follows_then a b c first.follows second.follows;
    shut = shut_then a b c first.shut second.shut;
    tables = λ live. alike_then a.place b.place c.place
        (first.tables (second.follows.lived live)) (second.tables live);
    found = λ honest db may. ∥∥₁_elim (second.found honest db may) squash₁ (λ mid.
        ∥∥₁_map (first.found (second.follows.honest honest) mid.0 mid.1)
        (λ was. (was.0, was.1, stays_then a b was.0 mid.0 db first was.2 mid.2)));
  }

  -- a store that answers no calls stays so
  pub stays_failed :
      (a b : Store D g) → Continues a b → not a.ready ≡ true → not b.ready ≡ true
  stays_failed a b continues failed = silent_at a.ready b.ready continues.follows.unready failed

  valid_at : (ready : _) (sets : DueSets) (place : Place D g) → IsLiveAt place
      → IsUsableAt ready sets place → AreValid (tenants_at place)
  valid_at ready sets (at.Open tables) live usable =
      valid_in (open_state tables).now (usable.0 live).ledgers
  valid_at ready sets (at.Shut files) live usable = absurd live

  -- the machines of a live store are valid
  pub valid_tenants : (a : Store D g) → IsLive a → IsUsable a → AreValid (tenants_of a)
  valid_tenants a live usable = valid_at a.ready a.due a.place live usable

  -- what is read of a database, as it is shown of the place where that is open
  module _ {X : Type 0} (read : Trees → List ℕ → X) (shown : Place D g → List ℕ → X)
      (same : (tables : OpenTables D g) → shown (at.Open tables) ≡ read (open_state tables).now.trees) where
    settled_at : (ready : Bool) (sets : DueSets) (place : Place D g) (db : Trees) → IsSettledAt place
        → IsUsableAt ready sets place → IsLiveAt place → may_find_at place db
        → (key : List ℕ) → read db key ≡ shown place key
    settled_at ready sets (at.Open tables) db settled usable live may key =
        ap (λ (trees : Trees). read trees key)
        (settled.only live.1 db may
        ∙ sym (ap (λ (now : Database). now.trees) (usable.0 live).quiet.settled))
        ∙ sym (ap (λ all. all key) (same tables))
    settled_at ready sets (at.Shut files) db settled usable live may key = absurd live

    -- while a store is open, an opening finds what is there
    pub finds_shown : (store : Store D g) → IsSettledStore store → IsUsable store → IsLive store
        → (found : List ℕ → X) → FindsBy read store found
        → (key : List ℕ) → found key ≡ shown store.place key
    finds_shown store settled usable live found f key =
        f.agrees key
        ∙ settled_at store.ready store.due store.place f.db settled usable live f.may key

    -- and what one has found was to be found
    pub opened_shown : (old : Store D g) (place : Place D g) → IsHonest old
        → FindsAt (may_find old) place → ∥ FindsBy read old (shown place) ∥₁
    opened_shown old (at.Open tables) honest finds =
        ∥∥₁_map finds.1 (λ may. record {
          honest = honest;
          db = (open_state tables).now.trees;
          may = may;
          agrees = λ key. ap (λ all. all key) (same tables);
        })
    opened_shown old (at.Shut files) honest finds = absurd finds

  -- so each machine is found
  pub finds_itself :
      (store : Store D g) → IsSettledStore store → IsUsable store → IsLive store →
      (found : Tenants) → FindsTenants store found → KeepsAll (tenants_of store) found
  finds_itself = finds_shown tenants_in tenants_at (λ tables. refl)

  pub honest_at : (place : Place D g) → IsLiveAt place → IsHonestAt place
  honest_at (at.Open tables) live = live.0
  honest_at (at.Shut files) live = absurd live

  -- a store that is opened again is what might have been found before
  pub opened_is_found :
      (old new : Store D g) → (IsHonest new → StoreFinds new (may_find old)) →
      (IsHonest new → IsHonest old) → IsLive new → ∥ FindsTenants old (tenants_of new) ∥₁
  opened_is_found old new finds honest live =
      let now = honest_at new.place live in
      opened_shown tenants_in tenants_at (λ tables. refl) old new.place (honest now) (finds now)

  pub found_live_at :
      (X : Trees → Type 0) (place : Place D g) → IsHonestAt place → FindsAt X place → IsLiveAt place
  found_live_at X (at.Open tables) honest finds = (honest, finds.0)
  found_live_at X (at.Shut files) honest finds = absurd finds

  -- and where an opening may find something, it is live
  pub opened_is_live :
      (old new : Store D g) → (IsHonest new → StoreFinds new (may_find old)) → (found : Tenants) →
      FindsTenants new found → IsLive new
  opened_is_live old new finds found f =
      found_live_at (may_find old) new.place f.honest (finds f.honest)
