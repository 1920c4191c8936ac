-- What the texts of a transaction and its marks mean, and what begin, commit and roll back do.
use Rattle.std.proofs.Common.{◌≡◌, ℕ, inl, inr, List, [], codes, IsTrue, Ok, Err, Result, None, OnOk, refl}
use Rattle.std.proofs.lemmas.Bool.{both_ways}
use Rattle.sqlite_trees.specs.Tree.{Trees}
use Rattle.sqlite_schema.specs.declared.schema.Schema.{Schema}
use Rattle.sqlite_schema.specs.declared.command.Command.{Command}
use Rattle.sqlite_schema.specs.declared.command.Command.TheVariants.{Begin, Commit, Rollback, Savepoint as Save, Release, RollbackTo}
use Rattle.sqlite_tied.specs.Compute.{everything}
use Rattle.sqlite.specs.declared.error.Error.{Error}
use Rattle.sqlite.specs.declared.error.Error.TheVariants.{SqliteFailure}
use Rattle.sqlite.specs.declared.error.ErrorCode.TheVariants.{TransactionState}
use Rattle.sqlite.specs.Listing.{understood}
use Rattle.sqlite.specs.State.{State, HasCleanDisk, IsRolledBack, IsUnchanged, IsMisplaced, Survives, Executes, Runs, MayCommit, CommitsBy}
use Rattle.sqlite.proofs.Callers.{IsPlain, command_of, statement_of, runs_as}
use Rattle.sqlite.proofs.StateLemmas.{survives_weaker}
use Rattle.ledger_sql.specs.Causes.{done_of}
use Rattle.ledger_sql.specs.Frames.{Follows}
use Rattle.ledger_sql.specs.Stages.{HasBegun, HasCommitted}
use Rattle.ledger_sql.proofs.RunLemmas.{Suits, commits_as, fails_as, fails_other, never_stored, shown_stays, stays_left, follows_from, done_ok, done_stays}
use Rattle.ledger_sql.proofs.WriteLemmas.{WritesBy, writes_quietly}

-- whatever the schema is, the text means this command
pub record Means (sql : List ℕ) (command : Command) : Type 0 where
  pub is : (schema : Schema) → command_of (understood schema sql) ≡ command
  pub plain : (schema : Schema) → IsPlain (understood schema sql)

pub record StageTexts : Type 0 where
  pub begins : Means (codes "BEGIN") Begin
  pub commits : Means (codes "COMMIT") Commit
  pub rolls_back : Means (codes "ROLLBACK") Rollback
  pub marks : Means (codes "SAVEPOINT mark") (Save (codes "mark"))
  pub goes_back : Means (codes "ROLLBACK TO mark") (RollbackTo (codes "mark"))
  pub releases : Means (codes "RELEASE mark") (Release (codes "mark"))

pub stages : StageTexts
unfolding understood everything
stages = record {
  begins = record { is = λ _. refl; plain = λ _. (refl, refl) };
  commits = record { is = λ _. refl; plain = λ _. (refl, refl) };
  rolls_back = record { is = λ _. refl; plain = λ _. (refl, refl) };
  marks = record { is = λ _. refl; plain = λ _. (refl, refl) };
  goes_back = record { is = λ _. refl; plain = λ _. (refl, refl) };
  releases = record { is = λ _. refl; plain = λ _. (refl, refl) };
}

-- a command that writes nothing and ends nothing
abbrev pub IsIdle : Command → Type 0
IsIdle Begin = Unit {0}
IsIdle Rollback = Unit {0}
IsIdle (Save name) = Unit {0}
IsIdle (RollbackTo name) = Unit {0}
IsIdle _ = ⊥

idle_commits : (s : State) (command : Command) (text : List ℕ) (db : Trees) → IsIdle command → ¬ MayCommit s None command text [] db
idle_commits s Begin text db idle (inl (inl is, _)) = absurd (cc)
idle_commits s Begin text db idle (inl (inr is, _)) = absurd (let e = is.2 in cc)
idle_commits s Begin text db idle (inr w) = absurd (let e = w.3 in cc)
idle_commits s Rollback text db idle (inl (inl is, _)) = absurd (cc)
idle_commits s Rollback text db idle (inl (inr is, _)) = absurd (let e = is.2 in cc)
idle_commits s Rollback text db idle (inr w) = absurd (let e = w.3 in cc)
idle_commits s (Save name) text db idle (inl (inl is, _)) = absurd (cc)
idle_commits s (Save name) text db idle (inl (inr is, _)) = absurd (let e = is.2 in cc)
idle_commits s (Save name) text db idle (inr w) = absurd (let e = w.3 in cc)
idle_commits s (RollbackTo name) text db idle (inl (inl is, _)) = absurd (cc)
idle_commits s (RollbackTo name) text db idle (inl (inr is, _)) = absurd (let e = is.2 in cc)
idle_commits s (RollbackTo name) text db idle (inr w) = absurd (let e = w.3 in cc)
idle_commits s _ text db idle h = absurd idle

module _ {sql : List ℕ} {command : Command} (means : Means sql command) (old : State) where
  pub may_commit : (db : Trees) → CommitsBy sql [] old db → MayCommit old None command (statement_of sql (understood old.now.schema sql)) [] db
  may_commit = commits_as sql [] old old.now.schema refl command (means.is old.now.schema) (means.plain old.now.schema)

  pub idle_quiet : IsIdle command → (db : Trees) → ¬ CommitsBy sql [] old db
  idle_quiet idle db h = idle_commits old command _ db idle (may_commit db h)

  pub ran : (new : State) (count : ℕ) → Executes sql [] old new (Ok count) → Runs old new None command (statement_of sql (understood old.now.schema sql)) [] count
  ran new = runs_as sql [] old new old.now.schema refl command (means.is old.now.schema) (means.plain old.now.schema)

-- ---- begin

-- the contract of the function that begins
pub begun : (old new : State) → WritesBy (codes "BEGIN") [] HasBegun old new
begun old new = writes_quietly (codes "BEGIN") [] old new HasBegun (λ _. idle_quiet stages.begins old tt) (λ _ count h.
    let it = ran stages.begins old new count h in (
      record { was = it.0; is_open = it.1.is_open; now = it.1.now_is; committed = it.1.committed_is; mode = it.1.mode; marks = it.4 },
      shown_stays old new old.now it.1,
    ))

-- ---- commit

abbrev pub commit_text : List ℕ
commit_text = codes "COMMIT"

commit_may : (s : State) (text : List ℕ) (db : Trees) → MayCommit s None Commit text [] db → db ≡ s.now.trees
commit_may s text db (inl h) = h.1
commit_may s text db (inr w) = absurd (let e = w.3 in cc)

module _ (old new : State) where
  pub committed : (r : Result ℕ Error) → Executes commit_text [] old new r → OnOk (done_of r) (HasCommitted old new)
  committed = done_ok commit_text [] old new _ (λ count h.
      let it = ran stages.commits old new count h in
      record { was = it.0; is_open = it.1.is_open; now = it.1.now_is; committed = it.1.committed_is; mode = it.1.mode; marks = it.4 })

  pub commit_survives : Survives old new (CommitsBy commit_text [] old) → Survives old new (λ db. db ≡ old.now.trees)
  commit_survives = survives_weaker old new _ _ (λ _ db h. commit_may old (statement_of commit_text (understood old.now.schema commit_text)) db (may_commit stages.commits old db h))

-- ---- rollback

abbrev pub rollback_text : List ℕ
rollback_text = codes "ROLLBACK"

rollback_suits : (schema : Schema) → Suits rollback_text 0 (understood schema rollback_text)
unfolding understood everything
rollback_suits schema = (refl, refl)

module _ (old new : State) where
  module _ (inside : IsTrue old.in_transaction) where
    misplaced : (e : Error) → ¬ IsMisplaced old Rollback e
    misplaced e (inl (_, inl (is, _))) = absurd (cc)
    misplaced e (inl (_, inr (_, outside))) = both_ways _ outside inside
    misplaced e (inr (_, name, inl is, _)) = absurd (cc)
    misplaced e (inr (_, name, inr is, _)) = absurd (cc)

    pub undone : (r : Result ℕ Error) → Executes rollback_text [] old new r → IsRolledBack old new
    undone (Ok count) h = (ran stages.rolls_back old new count h).1
    undone (Err e) h =
        let is = stages.rolls_back in
        elim (fails_as rollback_text [] old new old.now.schema refl Rollback (is.is old.now.schema) (is.plain old.now.schema) (rollback_suits old.now.schema) (refl, refl) e h) [
          | inl (inl wrong, _) ↦ absurd (misplaced e wrong)
          | inl (inr does, _) ↦ absurd does.0
          | inr failed ↦ failed.3
        ]

  pub told_outside : Executes rollback_text [] old new (Err (SqliteFailure TransactionState)) → IsUnchanged old new
  told_outside h = fails_other rollback_text [] old new (SqliteFailure TransactionState) (never_stored (SqliteFailure TransactionState) refl) h

  pub rollback_follows : (r : Result ℕ Error) → (HasCleanDisk new → Executes rollback_text [] old new r) → Survives old new (CommitsBy rollback_text [] old) → Follows old new
  rollback_follows r executes survives = follows_from old new (survives_weaker old new _ _ (λ _. idle_quiet stages.rolls_back old tt) survives) (λ live.
      done_stays rollback_text [] old new (λ count h. stays_left old new live.1 (inr (ran stages.rolls_back old new count h).1)) r live.1 (executes live.0))
