-- What a statement does, whatever its text is.
use Rattle.std.proofs.Common.{◌≡◌, ◌≢◌, ◌⊎◌, ℕ, length, Some, inl, inr, append-nil, List, Bool, true, false, IsTrue, None, Ok, Err, Result, OnOk, OnErr, refl, sym, ap, subst, subst₂, ◌∙◌, arith}
use Rattle.std.proofs.lemmas.Bool.{cases_Bool}
use Rattle.sqlite_value.specs.Order.{Row}
use Rattle.sqlite_trees.specs.Tree.{Trees}
use Rattle.sqlite_schema.specs.declared.schema.Schema.{Schema}
use Rattle.sqlite_schema.specs.declared.command.Command.{Command}
use Rattle.sqlite_resolve.specs.declared.compiled.Compiled.{Compiled}
use Rattle.sqlite_resolve.specs.declared.error.CompileError.{CompileError}
use Rattle.sqlite_trees.specs.declared.error.StoreError.{StoreError}
use Rattle.sqlite_trees.specs.declared.error.StoreError.TheVariants.{OutOfMemory, Io, Corrupt, Full, Broken, Unstorable}
use Rattle.sqlite.specs.Effect.{Database, is_query}
use Rattle.sqlite.specs.Calls.{IsWrite}
use Rattle.sqlite.specs.Does.{Does}
use Rattle.sqlite.specs.declared.error.Error.{Error}
use Rattle.sqlite.specs.declared.error.Error.TheVariants.{SqliteFailure}
use Rattle.sqlite.specs.declared.error.ErrorCode.TheVariants.{TransactionState}
use Rattle.sqlite.specs.Listing.{understood}
use Rattle.sqlite.specs.State.{State, Shows, IsUnchanged, IsNotRun, IsMisplaced, HasCause, Fails, Survives, Executes, ExecutesIn, RunsCommand, MayCommit, CommitsBy, mode_of, text_of, is_pragma, shows_rows, store_error}
use Rattle.sqlite.proofs.Callers.{IsPlain, command_of, statement_of}
use Rattle.sqlite.proofs.InsideLemmas.{fails_whole}
use Rattle.ledger_sql.specs.Causes.{done_of}
use Rattle.ledger_sql.specs.Frames.{Live, IsKeptOrUndone, IsUnmarked, Follows}

module _ (sql : List ℕ) (params : Row) (s : State) (schema : Schema) (has : s.now.schema ≡ schema) (command : Command) (is : command_of (understood schema sql) ≡ command)
    (plain : IsPlain (understood schema sql)) where
  pub commits_as : (db : Trees) → CommitsBy sql params s db → MayCommit s None command (statement_of sql (understood schema sql)) params db
  unfolding CommitsBy
  commits_as db h =
      let known = sym h.1.is ∙ ap (λ s. understood s sql) has in
      let bare = subst IsPlain (sym known) plain in
      subst₂ (λ k t. MayCommit s None k t params db) (ap command_of known ∙ is) (ap (statement_of sql) known) (rw (bare.0, bare.1, append-nil params) at h.2)

-- a part that gave a value did not stop on the way
pub went : {B E R : Type 0} {b : B} {Stops : E → Type 0} → ((stop : E) × Stops stop × (Ok b ≡ Err stop)) ⊎ R → R
went (inl stopped) = absurd (let e = stopped.2 in cc)
went (inr on) = on

pub same_value : {B E : Type 0} {a b : B} → ◌≡◌ {A = Result B E} (Ok a) (Ok b) → a ≡ b
same_value e = cc

-- the text is one statement to its end, with so many parameters
abbrev pub Suits : List ℕ → ℕ → Result Compiled CompileError → Type 0
Suits sql count (Ok c) = (c.tail ≡ length sql) × (length c.names ≡ count)
Suits sql count (Err e) = ⊥

-- so it is run, or the store fails
pub not_run : (sql : List ℕ) (params : Row) (old new : State) (schema : Schema) → old.now.schema ≡ schema → IsPlain (understood schema sql) → Suits sql (length params) (understood schema sql)
    → (e : Error) → IsNotRun old new sql params e → Fails old new ⊥ e
unfolding IsNotRun
not_run sql params old new schema has plain suits e (inr failed) = failed
not_run sql params old new schema has plain suits e (inl (inl it, _)) =
    absurd (subst (Suits sql (length params)) (sym (ap (λ s. understood s sql) has) ∙ it.1) suits)
not_run sql params old new schema has plain suits e (inl (inr it, _)) =
    let known : understood schema sql ≡ Ok it.0 = sym (ap (λ s. understood s sql) has) ∙ it.1 in
    let fit : Suits sql (length params) (Ok it.0) = subst (Suits sql (length params)) known suits in
    let bare : IsPlain (Ok it.0) = subst IsPlain known plain in
    absurd (elim it.2 [
      | inl long ↦ long.0 (omega (arith, fit.0))
      | inr (inl given) ↦ given.0 (sym fit.1)
      | inr (inr timed) ↦ timed.0 bare.1
    ])

-- why a command that was compiled did not run
abbrev pub Refuses : State → State → Command → List ℕ → Row → Error → Type 0
Refuses old new command text params e =
    ((IsMisplaced old command e ⊎ (IsWrite command × Does old.step_limit (mode_of old) params old.now text None command (Err (Some e)))) × IsUnchanged old new)
    ⊎ Fails old new (Does old.step_limit (mode_of old) params old.now text None command (Err None)) e

weaker_cause : (old new : State) (P : Type 0) (e : Error) → Fails old new ⊥ e → Fails old new P e
weaker_cause old new P e h = (h.0, h.1, weaker h.0 h.2, h.3, h.4)
  where
    weaker : (cause : StoreError) → HasCause old new ⊥ cause → HasCause old new P cause
    weaker OutOfMemory h = h
    weaker Io h = h
    weaker Corrupt h = h
    weaker Full h = h
    weaker Broken h = h
    weaker Unstorable h = absurd h

module _ (sql : List ℕ) (params : Row) (old new : State) (schema : Schema) (has : old.now.schema ≡ schema) (command : Command) (is : command_of (understood schema sql) ≡ command)
    (plain : IsPlain (understood schema sql)) where
  pub fails_as : Suits sql (length params) (understood schema sql) → (is_query command ≡ false) × (is_pragma command ≡ false) → (e : Error) → Executes sql params old new (Err e)
      → Refuses old new command (statement_of sql (understood schema sql)) params e
  unfolding ExecutesIn
  fails_as suits silent e (inl stopped) = inr (weaker_cause old new _ e (not_run sql params old new schema has plain suits e stopped))
  fails_as suits silent e (inr h) =
      let known = sym h.1.is ∙ ap (λ s. understood s sql) has in
      let bare = subst IsPlain (sym known) plain in
      let named : h.0.command ≡ command = ap command_of known ∙ is in
      let shows : shows_rows false h.0 ≡ false = rw (named, silent.0, silent.1, bare.0) refl in
      let it = rw (shows, bare.1, append-nil params) at h.2 in
      let there : Refuses old new h.0.command (text_of sql h.0) params e = settle h.0 bare it in
      subst₂ (λ k t. Refuses old new k t params e) named (ap (statement_of sql) known) there
    where
      settle : (c : Compiled) → IsPlain (Ok c) → RunsCommand old new sql c params (Err e) → Refuses old new c.command (text_of sql c) params e
      settle c bare (inl (inl misplaced, same)) = inl (inl misplaced, same)
      settle c bare (inl (inr (may, does), same)) = inl (inr (elim may [ inl writes ↦ writes | inr some ↦ absurd (let none = rw bare.0 at some in cc) ], rw bare.0 at does), same)
      settle c bare (inr failed) = inr (rw bare.0 at failed)

-- an error that is none of the store's has changed nothing
pub fails_other : (sql : List ℕ) (params : Row) (old new : State) (e : Error) → ((cause : StoreError) → e ≢ store_error cause) → Executes sql params old new (Err e) → IsUnchanged old new
unfolding ExecutesIn IsNotRun
fails_other sql params old new e other (inl (inl refused)) = refused.1
fails_other sql params old new e other (inl (inr failed)) = absurd (other failed.0 failed.1)
fails_other sql params old new e other (inr ran) = elim (cases_Bool (shows_rows false ran.0)) [
  | inl shows ↦ (rw shows at ran.2).1
  | inr runs ↦ elim (rw runs at ran.2) [ inl refused ↦ refused.1 | inr failed ↦ absurd (other failed.0 failed.1) ]
]

-- the errors that may be the store's, and that all of the store's are among them
abbrev pub may_be_stored : Error → Bool
may_be_stored (SqliteFailure TransactionState) = false
may_be_stored (SqliteFailure code) = true
may_be_stored e = false

stored : (cause : StoreError) → may_be_stored (store_error cause) ≡ true
stored = elim [ OutOfMemory ↦ refl | Io ↦ refl | Corrupt ↦ refl | Full ↦ refl | Broken ↦ refl | Unstorable ↦ refl ]

pub never_stored : (e : Error) → may_be_stored e ≡ false → (cause : StoreError) → e ≢ store_error cause
never_stored e never cause same = absurd (let both = sym (stored cause) ∙ ap may_be_stored (sym same) ∙ never in cc)

-- what a call without a commit keeps, beside what a crash may leave
pub record Stays (old new : State) : Type 0 where
  pub was_open : IsTrue old.is_open
  pub committed : new.committed ≡ old.committed
  pub unmarked : IsUnmarked old → IsUnmarked new

pub stays_left : (old new : State) → IsTrue new.is_open → IsKeptOrUndone old new → Stays old new
stays_left old new is_open (inl same) = record {
  was_open = same.0.was_open;
  committed = same.0.committed_is;
  unmarked = λ had outside. same.2 ∙ had (sym same.0.mode ∙ outside);
}
stays_left old new is_open (inr undone) = record {
  was_open = undone.was_open is_open;
  committed = (undone.undone is_open).1;
  unmarked = λ _ _. undone.unmarked;
}

-- a change that the transaction shows, which goes on
pub shown_stays : (old new : State) (now : Database) → Shows old new now old.committed true → Stays old new
shown_stays old new now shown = record { was_open = shown.was_open; committed = shown.committed_is; unmarked = λ _ outside. absurd (let e = sym shown.mode ∙ outside in cc) }

pub follows_from : (old new : State) → Survives old new (λ _. ⊥) → (Live new → Stays old new) → Follows old new
follows_from old new survives stays =
    record { survives = survives; live = λ h. (stays h).was_open; committed = λ h. (stays h).committed; unmarked = λ h. (stays h).unmarked }

-- the answer of a statement, without its count
module _ (sql : List ℕ) (params : Row) (old new : State) where
  pub done_err : (r : Result ℕ Error) → Executes sql params old new r → OnErr (done_of r) (IsKeptOrUndone old new)
  done_err (Ok count) h = tt
  done_err (Err e) h = fails_whole old new false sql params e h

  pub done_ok : (P : Type 0) → ((count : ℕ) → Executes sql params old new (Ok count) → P) → (r : Result ℕ Error) → Executes sql params old new r → OnOk (done_of r) P
  done_ok P ok (Ok count) h = ok count h
  done_ok P ok (Err e) h = tt

  pub done_stays : ((count : ℕ) → Executes sql params old new (Ok count) → Stays old new) → (r : Result ℕ Error) → IsTrue new.is_open → Executes sql params old new r → Stays old new
  done_stays stays (Ok count) is_open h = stays count h
  done_stays stays (Err e) is_open h = stays_left old new is_open (fails_whole old new false sql params e h)
