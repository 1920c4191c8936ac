-- What an opening may find after a call, as the machines of tenants.
use Rattle.std.proofs.Common.{◌≡◌, ◌≢◌, ◌⊎◌, inl, inr, ℕ, Bool, true, false, List, Result, Ok, Err, IsOk, refl, ap, sym, subst, ◌∙◌}
use Rattle.std.proofs.lemmas.Bool.{cases_Bool, both_ways}
use Rattle.records.specs.declared.unavailable.Unavailable.{Unavailable}
use Rattle.records.specs.declared.unavailable.Unavailable.TheVariants.{Disk as DiskFailed}
use Rattle.records.specs.Machine.{Machine}
use Rattle.sqlite_disk.specs.declared.Disk as disk
use Rattle.sqlite.specs.Effect.{Database}
use Rattle.sqlite_trees.specs.Tree.{Trees}
use Rattle.chain.specs.declared.ledgers.BatchFault.{BatchFault}
use Rattle.chain.specs.declared.ledgers.BatchFault.TheVariants as batch_fault
use Rattle.chain.specs.Ledgers.{Tenants, Finds, IsAnswered, LeadsBy, LeadsByRound}
use Rattle.ledger_sql.specs.Strangers.{strangers_in}
use Rattle.ledger_sql.specs.TableRows.{directory_rows}
use Rattle.stored_ledgers.specs.Directory.{tenants_in}
use Rattle.stored_ledgers.specs.DueSets.{DueSets}
use Rattle.stored_ledgers.specs.Outcomes.{IsAfterBatch, KeepsTables}
use Rattle.stored_ledgers.specs.Rounds.{IsAfterRound}
use Rattle.openings.specs.OpenTables.{open_state}
use Rattle.store.specs.StoreLaws.{store_meaning}
use Rattle.store.specs.Stores.{IsUsable, IsUsableAt, IsLive, IsLiveAt, IsHonest, IsHonestAt, tenants_of, tenants_at}
use Rattle.store.specs.Stores.{FindsTenants, StoreFollows, Goes, OfDatabase, OfDatabaseAt, AnswersUnless, ReadsStore, may_find}
use Rattle.store.specs.Stores.{IsSettledAt, IsSettledStore, MayHold, may_find_at}
use Rattle.store.specs.Stores.{AreKeptAt, StaysFound}
use Rattle.store.specs.declared.place.Place.{Place}
use Rattle.store.specs.declared.place.Place.TheVariants as at
use Rattle.store.specs.declared.store.Store.{Store}

not_failed :
    {O : Type 0} (result : Result O BatchFault) → IsAnswered result →
    result ≢ Err (batch_fault.Unavailable DiskFailed)
not_failed (Ok output) answered is = cc
not_failed (Err batch_fault.UnknownKey) answered is = cc
not_failed (Err (batch_fault.Unavailable why)) answered is = absurd answered

ok_reached : {A : Type 0} (result : Result A Unavailable) → IsOk result → result ≢ Err DiskFailed
ok_reached (Ok answer) ok is = cc
ok_reached (Err why) ok is = absurd (cc)

module _ {D : Type 0} {g : disk.Ghosts D} where
  -- a store whose calls are answered is open
  live_at :
      (ready : Bool) (sets : DueSets) (place : Place D g) → ready ≡ true →
      IsUsableAt ready sets place → IsHonestAt place → IsLiveAt place
  live_at ready sets (at.Open tables) answers usable clean = (clean, usable.1 answers clean)
  live_at ready sets (at.Shut files) answers usable clean = absurd (both_ways ready usable answers)

  leads_at :
      {O : Type 0} (gives : Machine → O → Machine → Type 0) (digest : List ℕ) (place : Place D g)
      (db : Trees) (found : Tenants) → ((d : List ℕ) → found d ≡ tenants_in db d) →
      OfDatabaseAt (λ old. IsAfterBatch gives digest old db) place →
      LeadsBy gives digest (tenants_at place) found
  leads_at gives digest (at.Open tables) db found agrees after = (
    after.output,
    record {
      before = after.done.before;
      after = after.done.after;
      held = after.done.held;
      given = after.done.given;
      holds = agrees digest ∙ after.done.holds;
      others = λ other differs. agrees other ∙ after.done.others other differs;
    },
  )
  leads_at gives digest (at.Shut files) db found agrees after = absurd after

  round_at :
      {O : Type 0} (gives : Tenants → O → Tenants → Type 0) (place : Place D g) (db : Trees)
      (found : Tenants) → ((d : List ℕ) → found d ≡ tenants_in db d) →
      OfDatabaseAt (λ old. IsAfterRound gives old db) place →
      LeadsByRound gives (tenants_at place) found
  round_at gives (at.Open tables) db found agrees after =
      let same : tenants_in db ≡ found = λ i digest. sym (agrees digest) i in (
        after.output,
        subst (gives (tenants_in (open_state tables).now.trees) after.output) same after.done,
      )
  round_at gives (at.Shut files) db found agrees after = absurd after

  -- where the database is as before, so are the directory and the tables of strangers
  pub still_keeps : (old new : Place D g)
      → OfDatabaseAt (λ before. OfDatabaseAt (λ after. after ≡ before) new) old
      → OfDatabaseAt (λ before. OfDatabaseAt (KeepsTables before) new) old
  still_keeps (at.Open tables) (at.Open tables') same = record {
    schema = ap (λ (db : Database). db.schema) same;
    directory = ap (λ (db : Database). directory_rows db.trees) same;
    strangers = ap strangers_in same;
  }
  still_keeps (at.Open tables) (at.Shut files) same = absurd same
  still_keeps (at.Shut files) new same = absurd same

  -- what a call may leave in the files leads to the machines of its work
  module _ (old new : Store D g) (usable : IsUsable old) (follows : StoreFollows old new)
      (unready : old.ready ≡ false → new ≡ old) (After : Database → Trees → Type 0)
      (Leads : Tenants → Tenants → Type 0)
      (leads : IsLive old → (db : Trees) (found : Tenants) →
      ((d : List ℕ) → found d ≡ tenants_in db d) → OfDatabase (λ was. After was db) old →
      Leads (tenants_of old) found)
      (goes : Goes old new (λ db. OfDatabase (λ was. After was db) old)) where
    after_crash :
        (found : Tenants) (f : FindsTenants new found) → old.ready ≡ true →
        may_find old f.db ⊎ OfDatabase (λ was. After was f.db) old →
        FindsTenants old found ⊎ (IsLive old × Leads (tenants_of old) found)
    after_crash found f ready (inl before) = inl (record {
      honest = follows.honest f.honest;
      db = f.db;
      may = before;
      agrees = f.agrees;
    })
    after_crash found f ready (inr after) =
        let live = live_at old.ready old.due old.place ready usable (follows.honest f.honest) in
        inr (live, leads live f.db found f.agrees after)

    pub found_after :
        (found : Tenants) → FindsTenants new found →
        FindsTenants old found ⊎ (IsLive old × Leads (tenants_of old) found)
    found_after found f = elim (cases_Bool old.ready) [
      | inl ready ↦ after_crash found f ready (goes f.honest f.db f.may)
      | inr shut ↦ inl (subst (λ (s : Store D g). FindsTenants s found) (unready shut) f)
    ]

  -- the database of a live store is one that an opening may find
  stays_at :
      (ready : Bool) (sets : DueSets) (place : Place D g) → IsSettledAt place →
      IsUsableAt ready sets place → IsLiveAt place →
      OfDatabaseAt (λ db. may_find_at place db.trees) place
  stays_at ready sets (at.Open tables) settled usable live =
      subst (λ (db : Database). (open_state tables).may_leave db.trees)
      (sym (usable.0 live).quiet.settled) (settled.stays live.1)
  stays_at ready sets (at.Shut files) settled usable live = absurd live

  kept_in :
      (After : Database → Trees → Type 0) (db : Trees)
      (keeps : (was : Database) → After was db
      → KeepsTables was (record { schema = was.schema; trees = db }))
      (place found : Place D g) → OfDatabaseAt (λ now. may_find_at found now.trees) place
      → OfDatabaseAt (λ was. After was db) place
      → (was : Trees) × may_find_at found was × AreKeptAt place was db
  kept_in After db keeps (at.Open tables) found stays after =
      ((open_state tables).now.trees, stays, keeps (open_state tables).now after)
  kept_in After db keeps (at.Shut files) found stays after = absurd after

  -- what a call may leave in the files has the directory and the tables of strangers of what might
  -- have been found before
  module _ (old new : Store D g) (settled : IsSettledStore old) (usable : IsUsable old)
      (follows : StoreFollows old new) (unready : old.ready ≡ false → new ≡ old)
      (After : Database → Trees → Type 0)
      (keeps : (was : Database) (db : Trees) → After was db
      → KeepsTables was (record { schema = was.schema; trees = db }))
      (goes : Goes old new (λ db. OfDatabase (λ was. After was db) old)) where
    kept_after :
        (db : Trees) → old.ready ≡ true → IsHonest old →
        may_find old db ⊎ OfDatabase (λ was. After was db) old →
        MayHold old (λ was. StaysFound old was db)
    kept_after db ready honest (inl before) = ∣ (db, before, inl refl) ∣₁
    kept_after db ready honest (inr after) =
        let live = live_at old.ready old.due old.place ready usable honest in
        let kept = kept_in After db (λ was. keeps was db) old.place old.place
        (stays_at old.ready old.due old.place settled usable live) after in
        ∣ (kept.0, kept.1, inr (live, kept.2)) ∣₁

    pub found_tables :
        IsHonest new → (db : Trees) → may_find new db → MayHold old (λ was. StaysFound old was db)
    found_tables honest db may = elim (cases_Bool old.ready) [
      | inl ready ↦ kept_after db ready (follows.honest honest) (goes honest db may)
      | inr shut ↦ ∣ (db, subst (λ (s : Store D g). may_find s db) (unready shut) may, inl refl) ∣₁
    ]

  -- after a batch
  pub finds_batch :
      {O : Type 0} (gives : Machine → O → Machine → Type 0) (digest : List ℕ) (old new : Store D g) →
      IsUsable old → StoreFollows old new →
      Goes old new (λ db. OfDatabase (λ was. IsAfterBatch gives digest was db) old) →
      (result : Result O BatchFault) → (old.ready ≡ false → new ≡ old)
      → (IsHonest new → result ≢ Err (batch_fault.Unavailable DiskFailed) → IsLive new)
      → Finds store_meaning.ledgers (IsAnswered result) (LeadsBy gives digest) old new
  finds_batch gives digest old new usable follows goes result unready open_yet = record {
    found = found_after old new usable follows unready (IsAfterBatch gives digest)
        (LeadsBy gives digest) (λ live. leads_at gives digest old.place) goes;
    live = λ answered found f. open_yet f.honest (not_failed result answered);
  }

  -- after a round
  pub finds_round :
      {O : Type 0} (gives : Tenants → O → Tenants → Type 0) (old new : Store D g)
      (result : Result O Unavailable) → IsUsable old → AnswersUnless DiskFailed old new result →
      Goes old new (λ db. OfDatabase (λ was. IsAfterRound gives was db) old) →
      Finds store_meaning.ledgers (result ≢ Err DiskFailed) (LeadsByRound gives) old new
  finds_round gives old new result usable answers goes = record {
    found = found_after old new usable answers.follows (λ shut. (answers.refuses shut).1)
        (IsAfterRound gives) (LeadsByRound gives) (λ live. round_at gives old.place) goes;
    live = λ reached found f. answers.open_yet f.honest reached;
  }

  -- a call that only reads leaves what might have been found before
  pub found_unchanged :
      {T : Type 0} (old new : Store D g) (result : Result T Unavailable) → ReadsStore old new result →
      IsHonest new → (db : Trees) → may_find new db → MayHold old (λ was. StaysFound old was db)
  found_unchanged old new result reads honest db may = elim (reads.finds honest db may) [
    | inl before ↦ ∣ (db, before, inl refl) ∣₁
    | inr none ↦ absurd none
  ]

  -- after a call that only reads
  pub finds_known :
      {T : Type 0} (old new : Store D g) (result : Result T Unavailable)
      (Leads : Tenants → Tenants → Type 0) → ReadsStore old new result →
      Finds store_meaning.ledgers (IsOk result) Leads old new
  finds_known old new result Leads reads = record {
    found = λ found f. elim (reads.finds f.honest f.db f.may) [
      | inl before ↦ inl (record {
        honest = reads.answers.follows.honest f.honest;
        db = f.db;
        may = before;
        agrees = f.agrees;
      })
      | inr none ↦ absurd none
    ];
    live = λ ok found f. reads.answers.open_yet f.honest (ok_reached result ok);
  }
