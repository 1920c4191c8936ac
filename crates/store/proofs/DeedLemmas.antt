-- What was tried on a store, as an event of a course.
use Rattle.std.proofs.Common.{◌≡◌, ◌≢◌, ◌↔◌, inl, inr, ℕ, Bool, false, true, not, IsTrue, List, [], None, unwrap_or, Result}
use Rattle.std.proofs.Common.{Ok, Err, refl, sym, ap, subst, ◌∙◌}
use Rattle.records.specs.declared.unavailable.Unavailable.TheVariants.{Disk as DiskFailed}
use Rattle.sqlite_disk.specs.declared.Disk as disk
use Rattle.sqlite_trees.specs.Tree.{Trees}
use Rattle.sqlite.specs.Effect.{Database}
use Rattle.chain.specs.Ledgers.{Tenants, KeepsAll}
use Rattle.stored_ledgers.specs.declared.joining.AddTenant.{AddTenant}
use Rattle.stored_ledgers.specs.declared.joining.AddTenant.TheVariants as add
use Rattle.stored_ledgers.specs.declared.keying.ChangeKey.{ChangeKey}
use Rattle.stored_ledgers.specs.declared.keying.ChangeKey.TheVariants as key
use Rattle.stored_ledgers.specs.Calls.{ChangesTenants}
use Rattle.stored_ledgers.specs.Directory.{tenants_in}
use Rattle.stored_ledgers.specs.DueSets.{DueSets}
use Rattle.stored_ledgers.specs.Joining.{AreTaken, IsJoined, HasJoined, Joined, JoiningAddsOne}
use Rattle.stored_ledgers.specs.Keying.{IsKeyed, HasKeyed, Keyed, KeyingMovesKey}
use Rattle.stored_ledgers.specs.Names.{names_in, first_named}
use Rattle.stored_ledgers.specs.Ledger.{HoldsLedgers}
use Rattle.stored_ledgers.specs.Transactions.{Answer}
use Rattle.service.specs.Deeds as deed
use Rattle.service.specs.Deeds.{Deed, IsDeedDone, joined}
use Rattle.service.specs.DeedLaws.{key_changed}
use Rattle.service.specs.Courses as course
use Rattle.service.specs.Courses.{Ending, Tried, Happens}
use Rattle.service.specs.Openings.{run_meaning, IsSettled, Moves, FoundAfter, As_now, As_before, As_done}
use Rattle.openings.specs.OpenTables.{OpenTables, open_state}
use Rattle.store.specs.Deeds.{ending_of, key_ending}
use Rattle.store.specs.Names.{names_at}
use Rattle.store.specs.StoreLaws.{store_meaning, finds_itself}
use Rattle.store.specs.Stores.{IsUsable, IsUsableAt, IsLive, IsLiveAt, IsHonest, IsSettledAt, tenants_of}
use Rattle.store.specs.Stores.{tenants_at, AnswersUnless, FindsTenants, StoreFollows, Goes, OfDatabase, OfDatabaseAt, OfDatabases}
use Rattle.store.specs.declared.place.Place.{Place}
use Rattle.store.specs.declared.place.Place.TheVariants as at
use Rattle.store.specs.declared.store.Store.{Store}
use Rattle.store.proofs.FindsLemmas.{found_after}
use Rattle.store.proofs.ReadLemmas.{answers_as, finds_open, serves_open}

-- a change that was not made leaves each machine
keeps_machines : (old new : Database) → new ≡ old → KeepsAll (tenants_in old.trees) (tenants_in new.trees)
keeps_machines old new same d = ap (λ (db : Database). tenants_in db.trees d) same

-- a tenant has joined
joined_in : JoiningAddsOne → (name digest : List ℕ) (old new : Database) → HoldsLedgers old
    → AreTaken name digest old.trees None × IsJoined name digest old new
    → IsDeedDone (deed.Joined digest) (tenants_in old.trees) (tenants_in new.trees)
joined_in law name digest old new ledgers is =
    let adds = law name digest old new ledgers is.0 is.1 in record {
      may = adds.none;
      own = adds.own ∙ sym (ap joined adds.none);
      others = adds.others;
    }

-- or that was tried
joining_in : JoiningAddsOne → (name digest : List ℕ) (old new : Database)
    (result : Result (Unit {0}) AddTenant) → HoldsLedgers old
    → HasJoined name digest old new result
    → Happens (tenants_in old.trees) (Tried (deed.Joined digest) (ending_of result)) (tenants_in new.trees)
joining_in law name digest old new (Ok done) ledgers told = joined_in law name digest old new ledgers told
joining_in law name digest old new (Err add.NameTaken) ledgers told = keeps_machines old new told.1
joining_in law name digest old new (Err add.DigestTaken) ledgers told = keeps_machines old new told.1
joining_in law name digest old new (Err (add.Unavailable why)) ledgers told = keeps_machines old new told

-- the digest of the tenant with this name, or none
abbrev digest_now : List ℕ → Trees → List ℕ
digest_now name trees = unwrap_or (names_in trees name) []

-- a tenant has another key
keyed_in : KeyingMovesKey → (name digest : List ℕ) (old new : Database) → HoldsLedgers old
    → IsKeyed name digest old new
    → IsDeedDone (deed.Keyed (digest_now name old.trees) digest) (tenants_in old.trees) (tenants_in new.trees)
keyed_in law name digest old new ledgers keyed =
    let moves = law name digest old new ledgers keyed in
    let had : digest_now name old.trees ≡ keyed.was = ap (λ rows. unwrap_or (first_named rows) []) keyed.named in
    subst (λ was. IsDeedDone (deed.Keyed was digest) (tenants_in old.trees) (tenants_in new.trees)) (sym had)
    (key_changed keyed.was digest (tenants_in old.trees) (tenants_in new.trees) moves.machine moves.had
    moves.has moves.free moves.gone moves.others)

-- or that was tried
keying_in : KeyingMovesKey → (name digest : List ℕ) (old new : Database)
    (result : Result (Unit {0}) ChangeKey) → HoldsLedgers old → HasKeyed name digest old new result
    → Happens (tenants_in old.trees)
    (Tried (deed.Keyed (digest_now name old.trees) digest) (key_ending result)) (tenants_in new.trees)
keying_in law name digest old new (Ok done) ledgers told = keyed_in law name digest old new ledgers told
keying_in law name digest old new (Err key.NoTenant) ledgers told = keeps_machines old new told.1
keying_in law name digest old new (Err key.DigestTaken) ledgers told = keeps_machines old new told.1
keying_in law name digest old new (Err (key.Unavailable why)) ledgers told = keeps_machines old new told

module _ {D : Type 0} {g : disk.Ghosts D} where
  -- what is so of two open databases that hold ledgers is so of their tenants
  now_at : (P : Place D g → Tenants → Type 0) (Told : Database → Database → Type 0)
      → ((tables : OpenTables D g) (new : Database) → HoldsLedgers (open_state tables).now
      → Told (open_state tables).now new → P (at.Open tables) (tenants_in new.trees))
      → (ready : Bool) (sets : DueSets) (old new : Place D g) → IsUsableAt ready sets old
      → IsLiveAt old → IsLiveAt new → OfDatabaseAt (λ before. OfDatabaseAt (Told before) new) old
      → P old (tenants_at new)
  now_at P Told so ready sets (at.Open tables) (at.Open tables') usable live live' told =
      so tables (open_state tables').now (usable.0 live).ledgers told
  now_at P Told so ready sets (at.Open tables) (at.Shut files) usable live live' told = absurd live'
  now_at P Told so ready sets (at.Shut files) new usable live live' told = absurd live

  -- and so of one that a crash leaves
  crashed_at : (P : Place D g → Tenants → Type 0) (After : Database → Trees → Type 0)
      → ((tables : OpenTables D g) (db : Trees) → HoldsLedgers (open_state tables).now
      → After (open_state tables).now db → P (at.Open tables) (tenants_in db))
      → (ready : Bool) (sets : DueSets) (place : Place D g) → IsUsableAt ready sets place
      → IsLiveAt place → (db : Trees) (found : Tenants)
      → ((d : List ℕ) → found d ≡ tenants_in db d) → OfDatabaseAt (λ was. After was db) place
      → P place found
  crashed_at P After so ready sets (at.Open tables) usable live db found agrees after =
      let same : tenants_in db ≡ found = λ i digest. sym (agrees digest) i in
      subst (P (at.Open tables)) same (so tables db (usable.0 live).ledgers after)
  crashed_at P After so ready sets (at.Shut files) usable live db found agrees after = absurd live

  -- a deed that was tried on a store that is settled, and what a crash in it may leave
  module _ (deed : Deed) (After : Database → Trees → Type 0) (old new : Store D g)
      (usable : IsUsable old) (follows : StoreFollows old new) (unready : old.ready ≡ false → new ≡ old)
      (goes : Goes old new (λ db. OfDatabase (λ was. After was db) old))
      (done : IsLive old → (db : Trees) (found : Tenants)
      → ((d : List ℕ) → found d ≡ tenants_in db d) → OfDatabase (λ was. After was db) old
      → IsDeedDone deed (tenants_of old) found)
      (settled : IsSettled (run_meaning store_meaning.ledgers) new) where
    found_so : (ending : Ending) (found : Tenants)
        → (IsHonest new → ending ≢ course.Unavailable → IsLive new) → FindsTenants new found
        → FoundAfter (run_meaning store_meaning.ledgers) old (Tried deed ending) new found
    found_so course.Done found open_yet f =
        let live = open_yet f.honest (λ is. cc) in As_now live (settled live found f)
    found_so course.Declined found open_yet f =
        let live = open_yet f.honest (λ is. cc) in As_now live (settled live found f)
    found_so course.Unavailable found open_yet f =
        elim (found_after old new usable follows unready After (IsDeedDone deed) done goes found f) [
          | inl before ↦ As_before tt before
          | inr is ↦ As_done deed [] refl is.0 (found, is.1, λ d. refl)
        ]

    tried_so : (ending : Ending)
        → (IsLive new → Happens (tenants_of old) (Tried deed ending) (tenants_of new))
        → (IsHonest new → ending ≢ course.Unavailable → IsLive new)
        → Moves (run_meaning store_meaning.ledgers) old (Tried deed ending) new
    tried_so ending happens open_yet = record {
      happens = happens;
      lived = follows.lived;
      found = λ found f. found_so ending found open_yet f;
    }

  -- which event of a course a change of an open store's tenants is, that is told so, and what a
  -- crash in it may leave
  pub record IsDeedOf {F : Type 0} (deed_of : Place D g → Deed) (ending : Result (Unit {0}) F → Ending) (fault : F)
      (Told : Database → Database → Result (Unit {0}) F → Type 0) (After : Database → Trees → Type 0) : Type 0 where
    pub unavailable : ending (Err fault) ≡ course.Unavailable
    pub done : (tables : OpenTables D g) (db : Trees) → HoldsLedgers (open_state tables).now
        → After (open_state tables).now db
        → IsDeedDone (deed_of (at.Open tables)) (tenants_in (open_state tables).now.trees) (tenants_in db)
    pub tried : (tables : OpenTables D g) (new : Database) (result : Result (Unit {0}) F)
        → HoldsLedgers (open_state tables).now → Told (open_state tables).now new result
        → Happens (tenants_in (open_state tables).now.trees) (Tried (deed_of (at.Open tables)) (ending result))
        (tenants_in new.trees)

  -- the adding of a tenant
  pub joining_deed : JoiningAddsOne → (name digest : List ℕ)
      → IsDeedOf (λ (place : Place D g). deed.Joined digest) ending_of (add.Unavailable DiskFailed) (HasJoined name digest)
      (Joined name digest)
  joining_deed law name digest = record {
    unavailable = refl;
    done = λ tables db. joined_in law name digest (open_state tables).now
        (record { schema = (open_state tables).now.schema; trees = db });
    tried = λ tables. joining_in law name digest (open_state tables).now;
  }

  -- the change of a tenant's key: of whoever has the name
  pub keying_deed : KeyingMovesKey → (name digest : List ℕ)
      → IsDeedOf (λ (place : Place D g). deed.Keyed (unwrap_or (names_at place name) []) digest) key_ending
      (key.Unavailable DiskFailed) (HasKeyed name digest) (Keyed name digest)
  keying_deed law name digest = record {
    unavailable = refl;
    done = λ tables db. keyed_in law name digest (open_state tables).now
        (record { schema = (open_state tables).now.schema; trees = db });
    tried = λ tables. keying_in law name digest (open_state tables).now;
  }

  -- what such a change leaves of a store that is open
  pub record IsDeedMade {F : Type 0} (deed_of : Place D g → Deed) (ending : Result (Unit {0}) F → Ending) (fault : F)
      (Told : Database → Database → Result (Unit {0}) F → Type 0) (After : Database → Trees → Type 0)
      (old new : Store D g) (result : Result (Unit {0}) F) : Type 0 where
    pub told : IsLive new → OfDatabases (λ before after. Told before after result) old new
    pub finds : Goes old new (λ db. OfDatabase (λ was. After was db) old)
    pub answers : AnswersUnless fault old new result
    pub moves : Moves (run_meaning store_meaning.ledgers) old (Tried (deed_of old.place) (ending result)) new

  module _ {F R : Type 0} {deed_of : Place D g → Deed} {ending : Result (Unit {0}) F → Ending} {fault : F}
      {Told : Database → Database → Result (Unit {0}) F → Type 0} {After : Database → Trees → Type 0}
      (change : IsDeedOf deed_of ending fault Told After) (old : Store D g) (tables tables' : OpenTables D g)
      (is_open : old.place ≡ at.Open tables) (ready : old.ready ≡ true) {failed : Bool} {made : Answer (Unit {0}) R}
      (fault_told : IsTrue failed ↔ (made ≡ Err DiskFailed)) (usable : IsUsable old)
      (words : Answer (Unit {0}) R → Result (Unit {0}) F) {result : Result (Unit {0}) F} (is : result ≡ words made)
      (in_words : words (Err DiskFailed) ≡ Err fault) (only : result ≡ Err fault → made ≡ Err DiskFailed)
      {sets : DueSets} (changed : ChangesTenants DiskFailed (λ before after. Told before after (words made)) After sets
      (open_state tables) (open_state tables') made)
      (settled : IsSettledAt (at.Open tables')) where
    abbrev new : Store D g
    new = record old { place = at.Open tables'; ready = not failed; due = sets }

    tells_so : IsLive new → OfDatabases (λ before after. Told before after result) old new
    tells_so live =
        subst (OfDatabaseAt (λ before. Told before (open_state tables').now result)) (sym is_open)
        (subst (Told (open_state tables).now (open_state tables').now) (sym is) (changed.told live))

    answers_so : AnswersUnless fault old new result
    answers_so =
        answers_as g fault old new made result (only, λ disk. is ∙ ap words disk ∙ in_words) ready
        (serves_open g made failed old new tables tables' is_open refl ready refl fault_told usable
        changed.serves changed.survives)

    pub deed_made : IsDeedMade deed_of ending fault Told After old new result
    deed_made =
        let finds : Goes old new (λ db. OfDatabase (λ was. After was db) old) =
        finds_open g After old.place tables tables' is_open changed.survives in record {
          told = tells_so;
          finds = finds;
          answers = answers_so;
          moves =
              tried_so (deed_of old.place) After old new usable answers_so.follows
              (λ shut. (answers_so.refuses shut).1) finds
              (crashed_at (λ place found. IsDeedDone (deed_of place) (tenants_at place) found) After change.done
              old.ready old.due old.place usable)
              (finds_itself new settled answers_so.usable) (ending result)
              (λ live. now_at (λ place found. Happens (tenants_at place) (Tried (deed_of place) (ending result)) found)
              (λ before after. Told before after result) (λ tables after. change.tried tables after result)
              old.ready old.due old.place new.place usable (answers_so.follows.lived live) live (tells_so live))
              (λ honest differs. answers_so.open_yet honest (λ same. differs (ap ending same ∙ change.unavailable)));
        }
