-- The names that an opening may find in a store's files, behind each call.
use Rattle.std.proofs.Common.{◌≡◌, ◌≢◌, ◌⊎◌, inl, inr, Bool, true, List, Result, Ok, Err, OnOk, IfErr}
use Rattle.std.proofs.Common.{refl, sym, ap, subst, ◌∙◌}
use Rattle.std.proofs.Math.Logic.{∥∥₁_map}
use Rattle.std.proofs.lemmas.Bool.{both_ways, cases_Bool}
use Rattle.sqlite_disk.specs.declared.Disk as disk
use Rattle.sqlite_value.specs.Order.{Row}
use Rattle.sqlite_trees.specs.Tree.{Trees}
use Rattle.sqlite.specs.Effect.{Database}
use Rattle.chain.specs.Backends.{in_use}
use Rattle.ledger_sql.specs.TableRows.{with_name as rows_with_name}
use Rattle.service.specs.Courses.{Ending, Done, Declined, Unavailable}
use Rattle.service.specs.Openings.{run_meaning}
use Rattle.openings.specs.OpenTables.{open_state}
use Rattle.openings.specs.declared.refused.Refused.{Refused}
use Rattle.stored_ledgers.specs.DueSets.{DueSets}
use Rattle.stored_ledgers.specs.Ledger.{HoldsLedgers}
use Rattle.stored_ledgers.specs.Names.{Names, KeepsNames, first_named, names_in}
use Rattle.store.specs.Names.{FindsNames, names_at, names_of}
use Rattle.store.specs.StoreLaws.{store_meaning, found_directory, finds_shown, opened_shown, honest_at, found_live_at}
use Rattle.store.specs.Stores.{AnswersUnless, Continues, StoreFinds, Goes, IsHonest, IsHonestAt, IsLive}
use Rattle.store.specs.Stores.{IsLiveAt, IsSettledAt, IsSettledStore, IsUsable, IsUsableAt, LeavesStore}
use Rattle.store.specs.Stores.{OfDatabase, OfDatabaseAt, may_find, may_find_at}
use Rattle.store.specs.declared.place.Place.{Place}
use Rattle.store.specs.declared.place.Place.TheVariants as at
use Rattle.store.specs.declared.store.Store.{Store}
use Rattle.whole_runs.specs.Names.{AsEnded, LeavesNames, ReopensNames}
use Rattle.whole_runs.specs.StoredNames.{store_names}
use Rattle.whole_runs.proofs.StoreNames.{names_stay}

module _ {D : Type 0} {g : disk.Ghosts D} where
  -- while a store is open, an opening finds the names that are there
  pub finds_own : (store : Store D g) → IsSettledStore store → IsUsable store → IsLive store
      → (found : Names) → FindsNames store found → KeepsNames (names_of store) found
  finds_own = finds_shown names_in names_at (λ tables. refl)

  stays_at : (ready : Bool) (sets : DueSets) (place : Place D g) → IsSettledAt place
      → IsUsableAt ready sets place → IsLiveAt place
      → (db : Trees) × may_find_at place db × (names_at place ≡ names_in db)
  stays_at ready sets (at.Open tables) settled usable live = (
    (open_state tables).now.trees,
    subst (λ (db : Database). (open_state tables).may_leave db.trees)
        (sym (usable.0 live).quiet.settled) (settled.stays live.1),
    refl,
  )
  stays_at ready sets (at.Shut files) settled usable live = absurd live

  -- and it may find them
  found_own : (store : Store D g) → IsSettledStore store → IsUsable store → IsLive store
      → (found : Names) → KeepsNames (names_of store) found → FindsNames store found
  found_own store settled usable live found keeps =
      let stays = stays_at store.ready store.due store.place settled usable live in
      record {
        honest = honest_at store.place live;
        db = stays.0;
        may = stays.1;
        agrees = λ name. keeps name ∙ ap (λ (names : Names). names name) stays.2;
      }

  -- messages
  pub names_left : (old new : Store D g) → Continues old new
      → LeavesNames (run_meaning (in_use store_meaning)) store_names old new
  names_left old new continues = record {
    same = λ live. names_stay old new continues live.0;
    found = λ found f. ∥∥₁_map (continues.found f.honest f.db f.may) (λ was. record {
      honest = continues.follows.honest f.honest;
      db = was.0;
      may = was.1;
      agrees = λ name.
          f.agrees name
          ∙ ap (λ (rows : List Row). first_named (rows_with_name name rows))
          (found_directory old was.0 f.db was.2);
    });
  }

  live_at : (ready : Bool) (sets : DueSets) (place : Place D g) → ready ≡ true
      → IsUsableAt ready sets place → IsHonestAt place → IsLiveAt place
  live_at ready sets (at.Open tables) answers usable clean = (clean, usable.1 answers clean)
  live_at ready sets (at.Shut files) answers usable clean = absurd (both_ways ready usable answers)

  -- a change that was tried on a store, and what a crash in it may leave
  module _ (Changes : Names → Names → Type 0) (After : Database → Trees → Type 0)
      (law : (before : Database) (db : Trees) → HoldsLedgers before → After before db
      → Changes (names_in before.trees) (names_in db))
      (old new : Store D g) (settled : IsSettledStore old) (usable : IsUsable old)
      (goes : Goes old new (λ db. OfDatabase (λ was. After was db) old)) (settled' : IsSettledStore new)
      {F : Type 0} {fault : F} {result : Result (Unit {0}) F} (answers : AnswersUnless fault old new result) where
    abbrev Ends : Ending → Names → Type 0
    Ends ending found =
        ∥ AsEnded ending (FindsNames old found) ((IsLive old × IsUsable old) × Changes (names_of old) found) ∥₁

    crash_at : (ready : Bool) (sets : DueSets) (place : Place D g) → IsUsableAt ready sets place
        → IsLiveAt place → (db : Trees) → OfDatabaseAt (λ was. After was db) place
        → Changes (names_at place) (names_in db)
    crash_at ready sets (at.Open tables) usable live db after =
        law (open_state tables).now db (usable.0 live).ledgers after
    crash_at ready sets (at.Shut files) usable live db after = absurd live

    after_crash : (found : Names) (f : FindsNames new found) → old.ready ≡ true
        → may_find old f.db ⊎ OfDatabase (λ was. After was f.db) old → Ends Unavailable found
    after_crash found f ready (inl before) = ∣ inl (record {
      honest = answers.follows.honest f.honest;
      db = f.db;
      may = before;
      agrees = f.agrees;
    }) ∣₁
    after_crash found f ready (inr after) =
        let live = live_at old.ready old.due old.place ready usable (answers.follows.honest f.honest) in
        let same : names_in f.db ≡ found = λ i name. sym (f.agrees name) i in
        ∣ inr (
          (live, usable),
          subst (Changes (names_of old)) same
              (crash_at old.ready old.due old.place usable live f.db after),
        ) ∣₁

    found_by_ending : (ending : Ending)
        → (IsLive new → AsEnded ending (KeepsNames (names_of old) (names_of new))
        (Changes (names_of old) (names_of new)))
        → (IsHonest new → ending ≢ Unavailable → IsLive new)
        → (found : Names) → FindsNames new found → Ends ending found
    found_by_ending Done told open_yet found f =
        let live = open_yet f.honest (λ is. cc) in
        let same : names_of new ≡ found =
        λ i name. sym (finds_own new settled' answers.usable live found f name) i in
        ∣ ((answers.follows.lived live, usable), subst (Changes (names_of old)) same (told live)) ∣₁
    found_by_ending Declined told open_yet found f =
        let live = open_yet f.honest (λ is. cc) in
        ∣ found_own old settled usable (answers.follows.lived live) found
        (λ name. finds_own new settled' answers.usable live found f name ∙ told live name) ∣₁
    found_by_ending Unavailable told open_yet found f = elim (cases_Bool old.ready) [
      | inl ready ↦ after_crash found f ready (goes f.honest f.db f.may)
      | inr shut ↦ ∣ inl (subst (λ (s : Store D g). FindsNames s found) (answers.refuses shut).1 f) ∣₁
    ]

    pub found_tried : (ending : Result (Unit {0}) F → Ending) → ending (Err fault) ≡ Unavailable
        → (IsLive new → AsEnded (ending result) (KeepsNames (names_of old) (names_of new))
        (Changes (names_of old) (names_of new)))
        → (found : Names) → FindsNames new found → Ends (ending result) found
    found_tried ending unavailable told =
        found_by_ending (ending result) told
        (λ honest differs. answers.open_yet honest (λ is. differs (ap ending is ∙ unavailable)))

  -- an opening again
  pub names_reopened : (old new : Store D g) (result : Result (Unit {0}) Refused)
      → IsSettledStore new → IsUsable new
      → (IsHonest new → OnOk result (StoreFinds new (may_find old)))
      → (IsHonest new → OnOk result (IsHonest old))
      → IfErr result (λ refused. LeavesStore refused old new)
      → ReopensNames (run_meaning (in_use store_meaning)) store_names old result new
  names_reopened old new (Ok done) settled usable finds honest left = record {
    member = λ live.
        let now = honest_at new.place live.0 in
        opened_shown names_in names_at (λ tables. refl) old new.place (honest now) (finds now);
    found = λ found f.
        let live = found_live_at (may_find old) new.place f.honest (finds f.honest) in
        ((live, usable), finds_own new settled usable live found f);
  }
  names_reopened old new (Err refused) settled usable finds honest left =
      λ is found f. ∥∥₁_map ((left.stand is).found f.honest f.db f.may) (λ may. record {
        honest = (left.stand is).honest f.honest;
        db = f.db;
        may = may;
        agrees = f.agrees;
      })
