-- A change that is made in one transaction, or not at all.
use Rattle.std.specs.Prelude.{◌≡◌, false, true, [], Result, Ok, Err, IsTrue}
use Rattle.records.specs.declared.unavailable.Unavailable.{Unavailable}
use Rattle.sqlite.specs.Effect.{Database}
use Rattle.sqlite.specs.State.{State}
use Rattle.sqlite_trees.specs.Tree.{Trees}

-- no transaction is open, so it sees what is committed
pub record IsQuiet (s : State) : Type 0 where
  pub mode : s.in_transaction ≡ false
  pub settled : s.now ≡ s.committed
  pub unmarked : s.marks ≡ []

-- it is open and quiet, over such a database
pub record IsReady (Needs : Database → Type 0) (s : State) : Type 0 where
  pub is_open : IsTrue s.is_open
  pub quiet : IsQuiet s
  pub needs : Needs s.now

-- a transaction is open in which nothing was done yet, over such a database
pub record HasOnlyBegun (Needs : Database → Type 0) (s : State) : Type 0 where
  pub is_open : IsTrue s.is_open
  pub mode : s.in_transaction ≡ true
  pub fresh : s.now ≡ s.committed
  pub unmarked : s.marks ≡ []
  pub needs : Needs s.now

-- what it sees and what is committed are as before, and no transaction is open
pub record IsSame (old new : State) : Type 0 where
  pub now : new.now ≡ old.now
  pub committed : new.committed ≡ old.committed
  pub mode : new.in_transaction ≡ false
  pub unmarked : new.marks ≡ []

-- what a change answers: an output, a refusal, or that it could not be made
abbrev pub Answer : Type 0 → Type 0 → Type 0
Answer O R = Result (Result O R) Unavailable

-- something holds of the output where the change was made, and of the refusal where it was refused
abbrev pub IfAnswered : {O R : Type 0} → Answer O R → (O → Type 0) → (R → Type 0) → Type 0
IfAnswered (Ok (Ok output)) does refuses = does output
IfAnswered (Ok (Err refusal)) does refuses = refuses refusal
IfAnswered (Err why) does refuses = Unit {0}

-- something holds where it was not made
abbrev pub UnlessMade : {O R : Type 0} → Answer O R → Type 0 → Type 0
UnlessMade (Ok (Ok output)) P = Unit {0}
UnlessMade (Ok (Err refusal)) P = P
UnlessMade (Err why) P = P

-- what a change that was made, with some output and some memory, may leave in the files
pub record MayLeave {O M : Type 0} (does : O → M → Database → Type 0) (trees : Trees) : Type 0 where
  pub output : O
  pub memory : M
  pub after : Database
  pub done : does output memory after
  pub is : trees ≡ after.trees
