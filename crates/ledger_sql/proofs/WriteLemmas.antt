-- What a statement that writes rows or makes a table leaves, inside a transaction.
use Rattle.std.proofs.Common.{◌≡◌, ℕ, inl, inr, List, cond, IsTrue, None, Ok, Result, refl, ap, ◌∙◌, arith}
use Rattle.sqlite_value.specs.Order.{Row}
use Rattle.sqlite_trees.specs.Tree.{Trees}
use Rattle.sqlite_schema.specs.declared.schema.Schema.{Schema}
use Rattle.sqlite_schema.specs.declared.command.Command.{Command}
use Rattle.sqlite_schema.specs.declared.command.Command.TheVariants.{Insert, Update, CreateTable}
use Rattle.sqlite.specs.Listing.{understood}
use Rattle.sqlite.specs.State.{State, HasCleanDisk, Survives, CommitsBy, MayCommit, Writes, Executes}
use Rattle.sqlite.specs.declared.error.Error.{Error}
use Rattle.sqlite.proofs.StateLemmas.{survives_weaker}
use Rattle.std.proofs.lemmas.Bool.{both_ways}
use Rattle.ledger_sql.specs.Causes.{done_of}
use Rattle.ledger_sql.specs.Calls.{LeavesWritten}
use Rattle.ledger_sql.proofs.RunLemmas.{Stays, shown_stays, commits_as, done_ok, done_err, done_stays, follows_from}
use Rattle.ledger_sql.specs.Effects.{WritesInside}
use Rattle.sqlite.proofs.Callers.{IsPlain, command_of, statement_of}

-- what stays where a statement has written inside a transaction
pub wrote_inside : (old new : State) (command : Command) (text : List ℕ) (params : Row) (count : ℕ) → Writes old new None command text params count
    → IsTrue old.in_transaction → new.now.schema ≡ old.now.schema → WritesInside old new
wrote_inside old new command text params count w inside same = record {
  schema = same;
  shown = record {
    was_open = w.shown.was_open;
    is_open = w.shown.is_open;
    now_is = refl;
    committed_is = w.shown.committed_is ∙ ap (λ b. cond b old.committed new.now) inside;
    mode = w.shown.mode ∙ inside;
  };
  marks = w.marks;
}

pub writes_stay : (old new : State) → WritesInside old new → Stays old new
writes_stay old new w = shown_stays old new new.now w.shown

-- a command that writes rows commits nothing inside a transaction
abbrev IsOnRows : Command → Type 0
IsOnRows (Insert at from) = Unit {0}
IsOnRows (Update at q) = Unit {0}
IsOnRows CreateTable = Unit {0}
IsOnRows _ = ⊥

rows_commit : (s : State) (command : Command) (text : List ℕ) (params : Row) (db : Trees) → IsTrue s.in_transaction → IsOnRows command → ¬ MayCommit s None command text params db
rows_commit s (Insert at from) text params db inside on (inl (inl is, _)) = absurd (cc)
rows_commit s (Insert at from) text params db inside on (inl (inr is, _)) = absurd (let e = is.2 in cc)
rows_commit s (Insert at from) text params db inside on (inr w) = both_ways _ w.0 inside
rows_commit s (Update at q) text params db inside on (inl (inl is, _)) = absurd (cc)
rows_commit s (Update at q) text params db inside on (inl (inr is, _)) = absurd (let e = is.2 in cc)
rows_commit s (Update at q) text params db inside on (inr w) = both_ways _ w.0 inside
rows_commit s CreateTable text params db inside on (inl (inl is, _)) = absurd (cc)
rows_commit s CreateTable text params db inside on (inl (inr is, _)) = absurd (let e = is.2 in cc)
rows_commit s CreateTable text params db inside on (inr w) = both_ways _ w.0 inside
rows_commit s _ text params db inside on h = absurd on

-- in a transaction, over a schema by which the text is this command
abbrev pub Means : List ℕ → Command → State → Type 0
Means sql command s = IsTrue s.in_transaction × ((schema : Schema) × (s.now.schema ≡ schema) × (command_of (understood schema sql) ≡ command) × IsPlain (understood schema sql))

-- however the text was run, its call has written so
abbrev pub WritesBy : List ℕ → Row → (State → State → Type 0) → State → State → Type 0
WritesBy sql params Effect old new =
    Survives old new (CommitsBy sql params old) → (r : Result ℕ Error) → (HasCleanDisk new → Executes sql params old new r) → LeavesWritten Effect old new (done_of r)

-- the contract of a function whose text commits nothing
pub writes_quietly : (sql : List ℕ) (params : Row) (old new : State) (Effect : State → State → Type 0) → (HasCleanDisk old → (db : Trees) → ¬ CommitsBy sql params old db)
    → (HasCleanDisk old → (count : ℕ) → Executes sql params old new (Ok count) → Effect old new × Stays old new) → WritesBy sql params Effect old new
writes_quietly sql params old new Effect quiet does survives r ran =
    let was : HasCleanDisk new → HasCleanDisk old = λ clean. omega (arith, survives.clean, clean) in
    record {
      ok = λ clean. done_ok sql params old new (Effect old new) (λ count h. (does (was clean) count h).0) r (ran clean);
      err = λ clean. done_err sql params old new r (ran clean);
      follows = follows_from old new (survives_weaker old new _ _ (λ clean db h. quiet (was clean) db h) survives) (λ live. done_stays sql params old new (λ count h. (does (was live.0) count h).1) r live.1 (ran live.0));
    }

-- the contract of a function that writes inside a transaction
pub statement_writes : (sql : List ℕ) (params : Row) (old new : State) (Effect : State → State → Type 0) (command : Command) → IsOnRows command → (Effect old new → Stays old new) → (HasCleanDisk old → Means sql command old)
    → (HasCleanDisk old → (count : ℕ) → Executes sql params old new (Ok count) → Effect old new) → WritesBy sql params Effect old new
statement_writes sql params old new Effect command on stays means ok =
    writes_quietly sql params old new Effect
    (λ clean db h. let it = means clean in rows_commit old command (statement_of sql (understood it.1.0 sql)) params db it.0 on (commits_as sql params old it.1.0 it.1.1 command it.1.2 it.1.3 db h))
    (λ clean count h. let made = ok clean count h in (made, stays made))
