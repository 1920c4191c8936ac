-- What begin, commit and the marks of a transaction do.
use Rattle.std.specs.Prelude.{◌≡◌, true, false, List, [], ◌∷◌, ◌++◌, IsTrue}
use Rattle.sqlite.specs.Effect.{Database}
use Rattle.sqlite.specs.State.{State, Savepoint}
use Rattle.keyed_trees.specs.Kept.{the_mark}

-- a transaction is open, on what was there
pub record HasBegun (old new : State) : Type 0 where
  pub was : old.in_transaction ≡ false
  pub is_open : IsTrue new.is_open
  pub now : new.now ≡ old.now
  pub committed : new.committed ≡ old.committed
  pub mode : new.in_transaction ≡ true
  pub marks : new.marks ≡ old.marks

-- what the transaction wrote is committed
pub record HasCommitted (old new : State) : Type 0 where
  pub was : IsTrue old.in_transaction
  pub is_open : IsTrue new.is_open
  pub now : new.now ≡ old.now
  pub committed : new.committed ≡ old.now
  pub mode : new.in_transaction ≡ false
  pub marks : new.marks ≡ []

-- in a transaction, there is one more mark, of what is there
pub record HasMarked (old new : State) : Type 0 where
  pub was : IsTrue old.in_transaction
  pub is_open : IsTrue new.is_open
  pub now : new.now ≡ old.now
  pub committed : new.committed ≡ old.committed
  pub mode : new.in_transaction ≡ true
  pub marks : new.marks ≡ old.marks ++ the_mark old.now ∷ []

-- in a transaction, all is as at the newest mark, which stays
pub record HasGoneBack (old new : State) : Type 0 where
  pub was : IsTrue old.in_transaction
  pub is_open : IsTrue new.is_open
  pub back : (earlier : List Savepoint) (db : Database) → old.marks ≡ earlier ++ the_mark db ∷ []
      → new.now ≡ db
  pub committed : new.committed ≡ old.committed
  pub mode : new.in_transaction ≡ true
  pub marks : new.marks ≡ old.marks

-- in a transaction, the newest mark is gone, and what was written since stays
pub record HasReleased (old new : State) : Type 0 where
  pub was : IsTrue old.in_transaction
  pub is_open : IsTrue new.is_open
  pub now : new.now ≡ old.now
  pub committed : new.committed ≡ old.committed
  pub mode : new.in_transaction ≡ true
  pub marks : (earlier : List Savepoint) (db : Database) → old.marks ≡ earlier ++ the_mark db ∷ []
      → new.marks ≡ earlier
