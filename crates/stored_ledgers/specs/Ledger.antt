-- A database that holds ledgers.
use Rattle.std.specs.Prelude.{◌≡◌, ℕ, ℤ, List, [], ◌∷◌, Some}
use Rattle.std.specs.List.{AllByRecursion}
use Rattle.sqlite_trees.specs.Tree.{Trees}
use Rattle.sqlite.specs.Effect.{Database}
use Rattle.ledger_sql.specs.Effects.{IsLedger}
use Rattle.ledger_sql.specs.TableRows.{version_rows, directory_rows, clock_rows, account_rows, transfer_rows}
use Rattle.ledger_sql.specs.TableRows.{balance_rows, status_rows, history_rows, failed_rows}
use Rattle.ledger_sql.specs.Schema.{current_version}
use Rattle.ledger_sql.specs.Values.{version_values}
use Rattle.stored_tables.specs.Frames.{AreNumbered}
use Rattle.stored_tables.specs.Holds.{HoldsMachine}
use Rattle.stored_tables.specs.MachineOf.{machine_of}
use Rattle.stored_ledgers.specs.Directory.{with_number, AreDistinct, IsEntry, number_of}

-- no table has a row of the tenant with this number
pub record HasNoRows (number : ℤ) (trees : Trees) : Type 0 where
  pub clock : clock_rows number trees ≡ []
  pub accounts : account_rows number trees ≡ []
  pub transfers : transfer_rows number trees ≡ []
  pub balances : balance_rows number trees ≡ []
  pub statuses : status_rows number trees ≡ []
  pub history : history_rows number trees ≡ []
  pub failed : failed_rows number trees ≡ []

-- The tables are those of the current version. The tenants have names and digests, and are distinct.
-- Each has the rows of a valid machine, and there are no rows under any other number.
pub record HoldsLedgers (db : Database) : Type 0 where
  pub schema : IsLedger db.schema
  pub version : version_rows db.trees ≡ version_values current_version ∷ []
  pub numbered : AreNumbered db.trees
  pub entries : AllByRecursion IsEntry (directory_rows db.trees)
  pub distinct : AreDistinct db.trees
  pub machines : (digest : List ℕ) (number : ℤ) → number_of digest db.trees ≡ Some number
      → HoldsMachine number (machine_of number db.trees) db.trees
  pub owned : (number : ℤ) → with_number number db.trees ≡ [] → HasNoRows number db.trees
