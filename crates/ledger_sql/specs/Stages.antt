-- What begin, commit, roll back and the marks do to a connection.
use Rattle.std.specs.Prelude.{◌≡◌, Bool, true, false, List, [], ◌∷◌, ◌++◌, codes, IsTrue}
use Rattle.sqlite.specs.Effect.{Database}
use Rattle.sqlite.specs.State.{State, Savepoint, IsUnchanged}

-- a transaction is open, on what was there
pub record HasBegun (old new : State) : Type 0 where
  pub was : old.in_transaction ≡ false
  pub is_open : IsTrue new.is_open
  pub now : new.now ≡ old.now
  pub committed : new.committed ≡ old.committed
  pub mode : new.in_transaction ≡ true
  pub marks : new.marks ≡ old.marks

-- what the transaction wrote is committed
pub record HasCommitted (old new : State) : Type 0 where
  pub was : IsTrue old.in_transaction
  pub is_open : IsTrue new.is_open
  pub now : new.now ≡ old.now
  pub committed : new.committed ≡ old.now
  pub mode : new.in_transaction ≡ false
  pub marks : new.marks ≡ []

-- the mark of a transaction that was open before it
abbrev pub the_mark : Database → Savepoint
the_mark db = record { name = codes "mark"; begins = false; db = db }

-- the newest mark is one of ours, in a transaction that it did not open
pub record IsMarkedAt (earlier : List Savepoint) (db : Database) (s : State) : Type 0 where
  pub mode : IsTrue s.in_transaction
  pub marks : s.marks ≡ earlier ++ the_mark db ∷ []

abbrev pub IsMarked : State → Type 0
IsMarked s = (earlier : List Savepoint) × (db : Database) × IsMarkedAt earlier db s

-- there is one more mark, of what is there
pub record HasMarked (old new : State) : Type 0 where
  pub is_open : IsTrue new.is_open
  pub now : new.now ≡ old.now
  pub committed : new.committed ≡ old.committed
  pub mode : new.in_transaction ≡ true
  pub marks : new.marks ≡ old.marks ++ the_mark old.now ∷ []

-- all is as at the newest mark, which stays
pub record HasGoneBack (old new : State) : Type 0 where
  pub is_open : IsTrue new.is_open
  pub back : (earlier : List Savepoint) (db : Database) → old.marks ≡ earlier ++ the_mark db ∷ []
      → new.now ≡ db
  pub committed : new.committed ≡ old.committed
  pub mode : new.in_transaction ≡ true
  pub marks : new.marks ≡ old.marks

-- the newest mark is gone, and what was written since stays
pub record HasReleased (old new : State) : Type 0 where
  pub is_open : IsTrue new.is_open
  pub now : new.now ≡ old.now
  pub committed : new.committed ≡ old.committed
  pub mode : new.in_transaction ≡ true
  pub marks : (earlier : List Savepoint) (db : Database) → old.marks ≡ earlier ++ the_mark db ∷ []
      → new.marks ≡ earlier

-- a call that tells whether the store is open has told it rightly, and has changed nothing
abbrev pub TellsOpen : Bool → State → State → Type 0
TellsOpen true old new = IsUnchanged old new
TellsOpen false old new = Unit {0}
