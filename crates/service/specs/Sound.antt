-- What holds of every tenant's machine.
use Rattle.std.specs.Prelude.{◌≡◌, ℕ, All, List, Some}
use Rattle.records.specs.Machine.{Machine}
use Rattle.engine.specs.Promises.{SumsFit, BooksBalance, KeepsLimits, EndingsHold, FailedIdsHold}
use Rattle.chain.specs.Ledgers.{Tenants}

-- a machine whose books balance, whose limits hold, and whose pending transfers end once at most
pub record IsSound (m : Machine) : Type 0 where
  pub sums : (id : ℕ) → SumsFit m id
  pub books : (ledger : ℕ) → BooksBalance m ledger
  pub limits : All (KeepsLimits m) m.accounts
  pub endings : EndingsHold m
  pub failed_ids : FailedIdsHold m

-- every tenant's machine is such a one
abbrev pub EachIsSound : Tenants → Type 0
EachIsSound tenants = (digest : List ℕ) (m : Machine) → tenants digest ≡ Some m → IsSound m
