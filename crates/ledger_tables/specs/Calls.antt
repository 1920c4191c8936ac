-- What a call leaves of a ledger's tables, in words that `ledger_sql` says of a connection.
use Rattle.std.specs.Prelude.{List, Option, Result, IfSome, option_map}
use Rattle.sqlite_value.specs.Order.{Row}
use Rattle.sqlite_trees.specs.Tree.{Trees}
use Rattle.sqlite.specs.State.{State, HasCleanDisk}
use Rattle.ledger_sql.specs.Calls.{LeavesFound}
use Rattle.ledger_sql.specs.Effects.{IsLedger, Picks}

-- this is so of the tables, where their disk was honest so far
abbrev pub IfHonest : (State → Type 0) → State → Type 0
IfHonest Is s = HasCleanDisk s → Is s

-- the answer is the one of these rows, and fits its columns
abbrev pub LeavesRowFound : {A E : Type 0} → (A → Type 0) → (A → Row) → (Trees → List Row)
    → State → State → Result (Option A) E → Type 0
LeavesRowFound Fits values rows old new result =
    LeavesFound (λ found. IfSome found Fits)
    (λ trees found. Picks (rows trees) (option_map values found)) old new result

-- before the call the tables were a ledger's, and the disk has been honest to its end
abbrev pub HasSeenLedger : State → State → Type 0
HasSeenLedger old new = HasCleanDisk new × IsLedger old.now.schema
