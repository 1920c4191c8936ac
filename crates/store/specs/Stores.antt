-- What a store means: its tenants' machines, whether it answers, what may be found in its files.
use Rattle.std.specs.Prelude.{◌≡◌, ◌≢◌, ◌⊎◌, ℕ, List, Bool, false, None, Result, Err, IsTrue}
use Rattle.sqlite_disk.specs.declared.Disk as disk
use Rattle.sqlite_disk.specs.declared.Files.{Files}
use Rattle.sqlite_trees.specs.Tree.{Trees}
use Rattle.sqlite_wal.specs.Files.{outcomes}
use Rattle.sqlite_wal.specs.Reads.{AreClean}
use Rattle.sqlite_wal.specs.Recovery.{Image}
use Rattle.sqlite.specs.Effect.{Database}
use Rattle.sqlite.specs.Files.{HoldsDatabase, AreFoundIn}
use Rattle.sqlite.specs.State.{HasCleanDisk}
use Rattle.records.specs.declared.unavailable.Unavailable.{Unavailable}
use Rattle.records.specs.declared.unavailable.Unavailable.TheVariants.{Disk as DiskFailed}
use Rattle.chain.specs.Ledgers.{Tenants, KeepsAll}
use Rattle.ledger_sql.specs.Frames.{Live}
use Rattle.stored_ledgers.specs.Directory.{tenants_in}
use Rattle.stored_ledgers.specs.DueSets.{DueSets}
use Rattle.stored_ledgers.specs.Outcomes.{KeepsTables}
use Rattle.openings.specs.Found.{IsOfLedger, LeavesCommitted, LeavesUnopened, Yields}
use Rattle.openings.specs.OpenTables.{OpenTables, open_state}
use Rattle.openings.specs.Opened.{WasOpenedOn}
use Rattle.openings.specs.Told.{IsSoundLedger, IsFaultTold}
use Rattle.openings.specs.declared.opening.OpenFault.{OpenFault}
use Rattle.openings.specs.declared.refused.Refused.{Refused}
use Rattle.stored_ledgers.specs.Resting.{IsResting}
use Rattle.store.specs.declared.place.Place.{Place}
use Rattle.store.specs.declared.place.Place.TheVariants as at
use Rattle.store.specs.declared.store.Store.{Store}

-- what an opening may find in two files after a crash: what an outcome holds, where that is a
-- database at all
abbrev pub left_in : {D : Type 0} → disk.Ghosts D → Files D → Trees → Type 0
left_in g files db =
    (image : Image) × outcomes g files.log files.db image × AreFoundIn image db
    × ((other : Trees) → HoldsDatabase image other → db ≡ other)

module _ {D : Type 0} {g : disk.Ghosts D} where
  -- the database is open, and the disk was honest so far
  abbrev pub IsLiveAt : Place D g → Type 0
  IsLiveAt (at.Open tables) = Live (open_state tables)
  IsLiveAt (at.Shut files) = ⊥

  -- the disk was honest so far
  abbrev pub IsHonestAt : Place D g → Type 0
  IsHonestAt (at.Open tables) = HasCleanDisk (open_state tables)
  IsHonestAt (at.Shut files) = AreClean g files.log files.db

  -- each tenant's machine
  abbrev pub tenants_at : Place D g → Tenants
  tenants_at (at.Open tables) = tenants_in (open_state tables).now.trees
  tenants_at (at.Shut files) = λ digest. None

  -- what an opening may find there after a crash
  abbrev pub may_find_at : Place D g → Trees → Type 0
  may_find_at (at.Open tables) = (open_state tables).may_leave
  may_find_at (at.Shut files) = left_in g files

  -- the database, if it is open, holds ledgers and the sets cover them; where calls are answered it
  -- is open
  abbrev pub IsUsableAt : Bool → DueSets → Place D g → Type 0
  IsUsableAt ready sets (at.Open tables) =
      (Live (open_state tables) → IsResting sets (open_state tables))
      × (IsTrue ready → HasCleanDisk (open_state tables) → IsTrue (open_state tables).is_open)
  IsUsableAt ready sets (at.Shut files) = ready ≡ false

  -- the store is open, on a disk that was honest so far
  abbrev pub IsLive : Store D g → Type 0
  IsLive store = IsLiveAt store.place

  abbrev pub IsHonest : Store D g → Type 0
  IsHonest store = IsHonestAt store.place

  -- the machine of each tenant
  abbrev pub tenants_of : Store D g → Tenants
  tenants_of store = tenants_at store.place

  -- the store's tables, as long as it is open, are those of valid machines
  abbrev pub IsUsable : Store D g → Type 0
  IsUsable store = IsUsableAt store.ready store.due store.place

  -- what an opening may find in the store's files after a crash
  abbrev pub may_find : Store D g → Trees → Type 0
  may_find store = may_find_at store.place

  -- what is read of a database that an opening may find; and so each tenant's machine
  pub record FindsBy {X : Type 0} (read : Trees → List ℕ → X) (store : Store D g)
      (found : List ℕ → X) : Type 0 where
    pub honest : IsHonest store
    pub db : Trees
    pub may : may_find store db
    pub agrees : (key : List ℕ) → found key ≡ read db key

  abbrev pub FindsTenants : Store D g → Tenants → Type 0
  FindsTenants = FindsBy tenants_in

  -- the store is open, and its database is one of these
  abbrev pub FindsAt : (Trees → Type 0) → Place D g → Type 0
  FindsAt X (at.Open tables) = IsTrue (open_state tables).is_open × ∥ X (open_state tables).now.trees ∥₁
  FindsAt X (at.Shut files) = ⊥

  abbrev pub StoreFinds : Store D g → (Trees → Type 0) → Type 0
  StoreFinds store X = FindsAt X store.place

  -- what every run of calls keeps: what was lost stays so, and no reopening is among them
  pub record StoreFollows (old new : Store D g) : Type 0 where
    pub lived : IsLive new → IsLive old
    pub honest : IsHonest new → IsHonest old
    pub unready : IsTrue new.ready → IsTrue old.ready

  -- what an opening may find after a call: what it might have found before, or one of these
  abbrev pub Goes : Store D g → Store D g → (Trees → Type 0) → Type 0
  Goes old new X = IsHonest new → (db : Trees) → may_find new db → may_find old db ⊎ X db

  -- something holds of the open database
  abbrev pub OfDatabaseAt : (Database → Type 0) → Place D g → Type 0
  OfDatabaseAt P (at.Open tables) = P (open_state tables).now
  OfDatabaseAt P (at.Shut files) = ⊥

  abbrev pub OfDatabase : (Database → Type 0) → Store D g → Type 0
  OfDatabase P store = OfDatabaseAt P store.place

  -- something holds of the open databases of two moments
  abbrev pub OfDatabases : (Database → Database → Type 0) → Store D g → Store D g → Type 0
  OfDatabases P old new = OfDatabase (λ before. OfDatabase (P before) new) old

  -- a crash of the store may have left such a database
  abbrev pub MayHold : Store D g → (Trees → Type 0) → Type 0
  MayHold store P = ∥ ((trees : Trees) × may_find store trees × P trees) ∥₁

  -- over the open schema, the directory and the tables of strangers are in these rows what they are
  -- in those
  abbrev pub AreKeptAt : Place D g → Trees → Trees → Type 0
  AreKeptAt place was db =
      OfDatabaseAt (λ now. KeepsTables (record { schema = now.schema; trees = was })
      (record { schema = now.schema; trees = db })) place

  -- all is as it was, or the store is open, and the directory and the tables of strangers are
  abbrev pub StaysFound : Store D g → Trees → Trees → Type 0
  StaysFound old was db = (db ≡ was) ⊎ (IsLive old × AreKeptAt old.place was db)

  -- a store that answers no calls stays as it is
  abbrev pub StaysShut : Store D g → Store D g → Type 0
  StaysShut old new = old.ready ≡ false → new ≡ old

  -- what every run of batches and reads keeps: that, the schema, the number, name and digest of
  -- each tenant, and the tables of strangers, also in whatever an opening may find
  pub record Continues (old new : Store D g) : Type 0 where
    pub follows : StoreFollows old new
    pub shut : StaysShut old new
    pub tables : IsLive new → OfDatabases KeepsTables old new
    pub found : IsHonest new → (db : Trees) → may_find new db
        → MayHold old (λ was. StaysFound old was db)

  -- a crash leaves what is there, and nothing else
  abbrev pub IsSettledAt : Place D g → Type 0
  IsSettledAt (at.Open tables) = LeavesCommitted (open_state tables)
  IsSettledAt (at.Shut files) = Unit {0}

  abbrev pub IsSettledStore : Store D g → Type 0
  IsSettledStore store = IsSettledAt store.place

  -- the files that a store gives back: a crash leaves in them what may be found
  abbrev pub GivesBackAt : Place D g → Files D → Type 0
  GivesBackAt (at.Open tables) files = Yields g files (open_state tables).may_leave
  GivesBackAt (at.Shut kept) files = files ≡ kept

  abbrev pub GivesBack : Store D g → Files D → Type 0
  GivesBack store = GivesBackAt store.place

  -- calls are answered
  abbrev pub AnswersCalls : Store D g → Type 0
  AnswersCalls store = IsTrue store.ready

  -- the store is over this open database
  abbrev pub IsStoreOver : OpenTables D g → Store D g → Type 0
  IsStoreOver tables store = store.place ≡ at.Open tables

  -- a store that answers no calls tells this fault, and is as before
  abbrev pub RefusesUnready : {T E : Type 0} → E → Store D g → Store D g → Result T E → Type 0
  RefusesUnready fault old new result = old.ready ≡ false → (result ≡ Err fault) × (new ≡ old)

  -- where a call is answered with this fault, that the disk failed, no call is answered from then
  -- on; otherwise the store is open, if the disk was honest
  pub record AnswersUnless {T E : Type 0} (fault : E) (old new : Store D g) (result : Result T E)
      : Type 0 where
    pub usable : IsUsable new
    pub follows : StoreFollows old new
    pub open_yet : IsHonest new → result ≢ Err fault → IsLive new
    pub unready : result ≡ Err fault → new.ready ≡ false
    pub refuses : RefusesUnready fault old new result

  -- a call that only reads changes nothing in the database, so it keeps every machine, and what may
  -- be found
  pub record ReadsStore {T : Type 0} (old new : Store D g) (result : Result T Unavailable)
      : Type 0 where
    pub answers : AnswersUnless DiskFailed old new result
    pub unchanged : IsLive new → OfDatabases (λ before after. after ≡ before) old new
    pub same : IsLive new → KeepsAll (tenants_of old) (tenants_of new)
    pub finds : Goes old new (λ db. ⊥)

  -- a store was opened on what the files held, which was a sound ledger
  abbrev pub IsOpenedAt : Image → Place D g → Type 0
  IsOpenedAt image (at.Open tables) =
      WasOpenedOn image (open_state tables) × IsSoundLedger (open_state tables).now
  IsOpenedAt image (at.Shut files) = ⊥

  abbrev pub IsOpenedOn : Image → Store D g → Type 0
  IsOpenedOn image store = IsOpenedAt image store.place

  -- what an opening may find is what it might have found before, unless the disk has lied
  pub record KeepsFound (old new : Store D g) : Type 0 where
    pub honest : IsHonest new → IsHonest old
    pub found : IsHonest new → (db : Trees) → may_find new db → ∥ may_find old db ∥₁

  -- the database's own opening refused the files, and the store has them as that left them
  pub record IsLeftUnopened (old new : Store D g) : Type 0 where
    pub files : Files D
    pub back : GivesBack old files
    pub left : Files D
    pub place : new.place ≡ at.Shut left
    pub unopened : LeavesUnopened g files left

  -- an opening refused the files that the old store gives back, in this fault's case, and the new
  -- one has them as that left them
  pub record IsRefusedFor (fault : OpenFault) (old new : Store D g) : Type 0 where
    pub files : Files D
    pub back : GivesBack old files
    pub left : Files D
    pub place : new.place ≡ at.Shut left
    pub told : AreClean g left.log left.db → IsFaultTold g files fault left

  -- what a reopening that was refused leaves, as it tells: where it is told that the files stand,
  -- an opening finds what it might have found before, and so it is told of each fault of the ledger
  -- that is there; else the database's own opening refused them
  pub record LeavesStore (refused : Refused) (old new : Store D g) : Type 0 where
    pub stand : IsTrue refused.stands → KeepsFound old new
    pub unopened : refused.stands ≡ false → IsLeftUnopened old new
    pub of_ledger : IsOfLedger refused.fault → IsTrue refused.stands
    pub cause : IsRefusedFor refused.fault old new
