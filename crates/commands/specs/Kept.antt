-- Ledgers that may not be there, and a store that is opened again where its disk fails.
use Rattle.std.specs.Prelude.{◌≡◌, ℕ, Bool, true, false, Option, Some, None, Result, Ok, Err, IsTrue}
use Rattle.std.proofs.Common.{inl, refl, subst}
use Rattle.std.proofs.Math.Logic.{∥∥₁_map}
use Rattle.sqlite_disk.specs.declared.Disk as disk
use Rattle.sqlite_disk.specs.declared.Files.{Files}
use Rattle.records.specs.declared.unavailable.Unavailable.TheVariants.{Disk as DiskFailed}
use Rattle.chain.specs.Backends.{in_use}
use Rattle.chain.specs.Ledgers.{LedgersMeaning, Tenants, AreValid}
use Rattle.service.specs.Attending.{MayTry}
use Rattle.service.specs.Courses as course
use Rattle.service.specs.Deeds.{Deed}
use Rattle.service.specs.Openings.{RunMeaning, run_meaning, IsSettled, IsFoundLive, IsOpened, Moves}
use Rattle.service.specs.Seen.{SeenAt, Whole, Within, seen}
use Rattle.polling.specs.Courses.{IsAtRest, Renewed, Stayed, Opened, Tried, Rested, renewed_seen}
use Rattle.polling.specs.Courses as renewed
use Rattle.polling.specs.Serving.{renews_seen}
use Rattle.store.specs.StoreLaws.{store_meaning}
use Rattle.openings.specs.declared.opening.OpenFault.{OpenFault}
use Rattle.openings.specs.declared.opening.OpenFault.TheVariants as opening
use Rattle.openings.specs.declared.refused.Refused.{Refused}
use Rattle.store.specs.Stores.{GivesBack, IsLive, IsUsable, LeavesStore}
use Rattle.store.specs.declared.store.Store.{Store}
use Rattle.command_texts.specs.declared.fault.Fault.{Fault}
use Rattle.commands.specs.Openings.{RefusesSome}
use Rattle.commands.specs.declared.kept.Kept.{Kept}
use Rattle.commands.specs.declared.kept.Kept.TheVariants.{Open, Closed}

-- ledgers, or none where they are still to be opened
abbrev pub kept_of : {S : Type 0} → Option S → Kept S
kept_of (Some ledgers) = Open ledgers
kept_of None = Closed

module _ {S : Type 0} (t : LedgersMeaning S) where
  -- where there are no ledgers there is no tenant
  abbrev pub tenants_kept : Kept S → Tenants
  tenants_kept (Open ledgers) = t.tenants ledgers
  tenants_kept Closed = λ digest. None

  -- that there are none says nothing of any tenant
  abbrev pub IsLiveKept : Kept S → Type 0
  IsLiveKept (Open ledgers) = t.is_live ledgers
  IsLiveKept Closed = ⊥

  -- whether there are none, or they have failed
  abbrev pub has_failed_kept : Kept S → Bool
  has_failed_kept (Open ledgers) = t.has_failed ledgers
  has_failed_kept Closed = true

  -- no call opens ledgers, and none takes them away
  abbrev pub FollowsKept : Kept S → Kept S → Type 0
  FollowsKept (Open old) (Open new) = t.follows old new
  FollowsKept Closed Closed = Unit {0}
  FollowsKept (Open old) Closed = ⊥
  FollowsKept Closed (Open new) = ⊥

  abbrev pub MayFindKept : Kept S → Tenants → Type 0
  MayFindKept (Open ledgers) found = t.may_find ledgers found
  MayFindKept Closed found = ⊥

  -- ledgers that are there mean what they mean
  abbrev pub kept_meaning : LedgersMeaning (Kept S)
  kept_meaning = record {
    tenants = λ kept. tenants_kept kept;
    is_live = λ kept. IsLiveKept kept;
    has_failed = λ kept. has_failed_kept kept;
    follows = λ old new. FollowsKept old new;
    may_find = λ kept found. MayFindKept kept found;
  }

  pub kept_stays : ((a : S) → t.follows a a) → (a : Kept S) → FollowsKept a a
  kept_stays stays (Open ledgers) = stays ledgers
  kept_stays stays Closed = tt

  pub kept_then :
      ((a b c : S) → t.follows a b → t.follows b c → t.follows a c)
      → (a b c : Kept S) → FollowsKept a b → FollowsKept b c → FollowsKept a c
  kept_then then (Open a) (Open b) (Open c) first second = then a b c first second
  kept_then then (Open a) (Open b) Closed first second = absurd second
  kept_then then (Open a) Closed c first second = absurd first
  kept_then then Closed (Open b) c first second = absurd first
  kept_then then Closed Closed (Open c) first second = absurd second
  kept_then then Closed Closed Closed first second = tt

  pub kept_lived :
      ((a b : S) → t.follows a b → t.is_live b → t.is_live a)
      → (a b : Kept S) → FollowsKept a b → IsLiveKept b → IsLiveKept a
  kept_lived lived (Open a) (Open b) follows live = lived a b follows live
  kept_lived lived (Open a) Closed follows live = absurd live
  kept_lived lived Closed b follows live = absurd (closed_follows b follows live)
    where
      closed_follows : (b : Kept S) → FollowsKept Closed b → IsLiveKept b → ⊥
      closed_follows (Open b) follows live = follows
      closed_follows Closed follows live = live

  pub kept_fails :
      ((a b : S) → t.follows a b → t.has_failed a ≡ true → t.has_failed b ≡ true)
      → (a b : Kept S) → FollowsKept a b → has_failed_kept a ≡ true → has_failed_kept b ≡ true
  kept_fails fails (Open a) (Open b) follows failed = fails a b follows failed
  kept_fails fails a Closed follows failed = refl
  kept_fails fails Closed (Open b) follows failed = absurd follows

  pub kept_valid :
      ((a : S) → t.is_live a → AreValid (t.tenants a))
      → (a : Kept S) → IsLiveKept a → AreValid (tenants_kept a)
  kept_valid valid (Open a) live = valid a live
  kept_valid valid Closed live = absurd live

module _ {D : Type 0} {g : disk.Ghosts D} where
  -- whether a store is there that answers calls
  abbrev pub answers : Kept (Store D g) → Bool
  answers (Open store) = store.ready
  answers Closed = false

  -- the store, if it is there, may be called
  abbrev pub MayBeCalled : Kept (Store D g) → Type 0
  MayBeCalled (Open store) = IsUsable store
  MayBeCalled Closed = Unit {0}

  -- what a store that may not be there means, where it is opened again
  abbrev pub kept_store : RunMeaning (Kept (Store D g))
  kept_store = run_meaning (kept_meaning (in_use store_meaning))

  -- where an opening may find anything of a store, that is live; so it is of none
  abbrev pub IsFoundLiveKept : Kept (Store D g) → Type 0
  IsFoundLiveKept = IsFoundLive (run_meaning (kept_meaning store_meaning.ledgers))

  -- no store is taken away, and none is put where there was none
  abbrev pub IsInPlace : (old new : Kept (Store D g)) → Type 0
  IsInPlace (Open old) (Open new) = Unit {0}
  IsInPlace (Open old) Closed = ⊥
  IsInPlace Closed (Open new) = ⊥
  IsInPlace Closed Closed = Unit {0}

  -- opening a store again over its own files was refused with this fault, and what is left of it
  -- answers no calls and is not live
  pub record IsRefusedAgain (fault : OpenFault) (old left : Store D g) : Type 0 where
    pub refused : Refused
    pub why : refused.fault ≡ fault
    pub leaves : LeavesStore refused old left
    pub silent : left.ready ≡ false
    pub shut : IsLive left → ⊥

  -- so it was, and the files hold what they held
  abbrev pub StandsRefused : (old new : Kept (Store D g)) → Type 0
  StandsRefused (Open old) (Open new) =
      (fault : OpenFault) × (again : IsRefusedAgain fault old new) × IsTrue again.refused.stands
  StandsRefused (Open old) Closed = ⊥
  StandsRefused Closed new = ⊥

  -- or the database's own opening refused them
  abbrev pub FallsRefused : (old new : Kept (Store D g)) → Type 0
  FallsRefused (Open old) (Open new) =
      (fault : OpenFault) × (again : IsRefusedAgain fault old new) × (again.refused.stands ≡ false)
  FallsRefused (Open old) Closed = ⊥
  FallsRefused Closed new = ⊥

  -- it was refused since the disk failed; or there was no store
  abbrev pub WasRefused : (old left : Kept (Store D g)) → Type 0
  WasRefused (Open old) (Open left) = IsRefusedAgain (opening.Unavailable DiskFailed) old left
  WasRefused (Open old) Closed = ⊥
  WasRefused Closed (Open left) = ⊥
  WasRefused Closed Closed = Unit {0}

  -- the files that a store gives back, if there is one
  abbrev pub GivesFiles : Kept (Store D g) → Option (Files D) → Type 0
  GivesFiles (Open store) (Some files) = GivesBack store files
  GivesFiles (Open store) None = ⊥
  GivesFiles Closed (Some files) = ⊥
  GivesFiles Closed None = Unit {0}

  -- an opener was given the files of what is left as they were, and has opened a store in its place
  abbrev pub IsOpenedAnew :
      (Option (Files D) → Result Tenants Fault → Type 0) → (left new : Kept (Store D g)) → Type 0
  IsOpenedAnew opens left new =
      (files : Option (Files D)) × GivesFiles left files
      × opens files (Ok (tenants_kept (in_use store_meaning) new))

  -- an opener was given the files of what is left as they were, and has refused with this fault
  pub record IsGivenUp (opens : Option (Files D) → Result Tenants Fault → Type 0)
      (left : Kept (Store D g)) : Type 0 where
    pub files : Option (Files D)
    pub given : GivesFiles left files
    pub fault : Fault
    pub found : RefusesSome g fault
    pub told : opens files (Err fault)

  -- What is made of a store between turns, given this moment if one was asked for, where an opener
  -- answers these. It stays as it is. Or one that answers no calls is opened again over its own
  -- files, and is what was to be found there. Or that is refused, and the files hold what they held,
  -- or the database's own opening refuses them. Or it is refused since the disk failed, and the
  -- opener opens a store in its place, or refuses that too. Or a deed was tried on it that a service
  -- may do, and this came of it. Or an operator has asked for what is there, and nothing has changed.
  pub data Renews (opens : Option (Files D) → Result Tenants Fault → Type 0) (given : Option ℕ)
      (old new : Kept (Store D g)) : Type 0 where
    Stays : new ≡ old → Renews opens given old new
    Again :
        answers old ≡ false → IsTrue (answers new) → IsOpened kept_store old new
        → Renews opens given old new
    Anew :
        (left : Kept (Store D g)) → answers old ≡ false → WasRefused old left →
        IsOpenedAnew opens left new → IsTrue (answers new) → IsSettled kept_store new
        → Renews opens given old new
    Stands : answers old ≡ false → StandsRefused old new → Renews opens given old new
    Refuses : answers old ≡ false → FallsRefused old new → Renews opens given old new
    Gives_up :
        (left : Kept (Store D g)) → answers old ≡ false → WasRefused old left →
        IsGivenUp opens left → new ≡ Closed → Renews opens given old new
    Tries :
        (deed : Deed) (ending : course.Ending) → MayTry given deed → IsInPlace old new
        → Moves kept_store old (course.Tried deed ending) new → Renews opens given old new
    Looks : IsInPlace old new → IsAtRest kept_store old new → Renews opens given old new

  -- the same where no store is opened in the place of another
  abbrev pub Attends : (given : Option ℕ) (old new : Kept (Store D g)) → Type 0
  Attends given old new = Renews (λ files told. ⊥) given old new

  -- files that were refused, and hold what they held, are at rest
  pub refused_rests : (old new : Kept (Store D g)) → StandsRefused old new → IsAtRest kept_store old new
  refused_rests (Open old) (Open new) refused =
      let again = refused.1 in
      let keeps = again.leaves.stand refused.2 in
      record {
        lived = λ live. absurd (again.shut live.0);
        same = λ live. absurd (again.shut live.0);
        found = λ found may.
            ∥∥₁_map (keeps.found may.honest may.db may.may) (λ was.
            inl (record {
              honest = keeps.honest may.honest;
              db = may.db;
              may = was;
              agrees = may.agrees;
            }));
      }
  refused_rests (Open old) Closed refused = absurd refused
  refused_rests Closed new refused = absurd refused

  -- files that the database's own opening refused are not live
  pub refused_falls :
      (old new : Kept (Store D g)) → FallsRefused old new → kept_store.is_live new → ⊥
  refused_falls (Open old) (Open new) refused live = refused.1.shut live.0
  refused_falls (Open old) Closed refused live = refused
  refused_falls Closed new refused live = refused

  -- the same as it is told of any ledgers
  abbrev pub renewal_of :
      (opens : Option (Files D) → Result Tenants Fault → Type 0) (given : Option ℕ) (old new : Kept (Store D g))
      → Renews opens given old new → Renewed kept_store given old new
  renewal_of opens given old new (Stays same) = Stayed same
  renewal_of opens given old new (Again silent answering opened) = Opened opened
  renewal_of opens given old new (Anew left silent refused anew answering settled) =
      renewed.Anew settled
  renewal_of opens given old new (Stands silent refused) = Rested (refused_rests old new refused)
  renewal_of opens given old new (Refuses silent refused) =
      renewed.Refused (refused_falls old new refused)
  renewal_of opens given old new (Gives_up left silent refused given_up closed) =
      renewed.Refused
      (λ live. subst (λ (kept : Kept (Store D g)). kept_store.is_live kept) closed live)
  renewal_of opens given old new (Tries deed ending may stays moves) = Tried deed ending may moves
  renewal_of opens given old new (Looks stays rest) = Rested rest

  -- and as it is seen between messages: nothing is opened inside of a round
  abbrev pub renewal_seen :
      (opens : Option (Files D) → Result Tenants Fault → Type 0) (given : Option ℕ)
      (old new : SeenAt (Kept (Store D g)))
      → renews_seen (Renews opens) given old new
      → Renewed (run_meaning (seen (kept_meaning (in_use store_meaning)))) given old new
  renewal_seen opens given (Whole old) (Whole new) renews =
      renewed_seen (kept_meaning (in_use store_meaning)) (renewal_of opens given old new renews)
  renewal_seen opens given (Whole old) (Within ledgers machines) renews = absurd renews
  renewal_seen opens given (Within ledgers machines) new renews = absurd renews
