-- What a query means and what it answered, before its rows are read.
use Rattle.std.specs.Prelude.{◌≡◌, ℕ, List, [], Option, Some, None, Result, Ok, Err}
use Rattle.sqlite_ast.specs.declared.Statement.{Statement}
use Rattle.sqlite_ast.specs.declared.Statement.TheVariants as written
use Rattle.sqlite_syntax.specs.declared.statement.Parsed.{Parsed}
use Rattle.sqlite_resolve.specs.declared.error.CompileError.{CompileError}
use Rattle.sqlite_resolve.specs.Compile.{first}
use Rattle.sqlite_value.specs.Order.{Row}
use Rattle.sqlite.specs.declared.error.Error.{Error}
use Rattle.sqlite.specs.declared.error.Error.TheVariants.{QueryReturnedNoRows}
use Rattle.sqlite.specs.State.{State, Shown, QueriesRow}
use Rattle.ledger_sql.specs.declared.table_fault.TableFault.{TableFault}
use Rattle.ledger_sql.specs.Causes.{table_fault_in}

-- the statement is a SELECT
abbrev pub IsSelect : Statement → Type 0
IsSelect (written.Select query) = Unit {0}
IsSelect _ = ⊥

-- the text was parsed as one, and does not ask for the time
abbrev pub IsTimelessSelect : Result Parsed CompileError → Type 0
IsTimelessSelect (Ok p) = IsSelect p.statement × (p.formats ≡ [])
IsTimelessSelect (Err e) = ⊥

-- the text is a SELECT that does not ask for the time: it writes nothing, whatever the tables are
unfoldable pub IsReading : List ℕ → Type 0
IsReading text = IsTimelessSelect (first text)

-- no row is an answer too
abbrev pub found_of : Result Row Error → Result (Option Row) TableFault
found_of (Ok row) = Ok (Some row)
found_of (Err QueryReturnedNoRows) = Ok None
found_of (Err e) = Err (table_fault_in e)

-- the row begins an answer, or the answer has no row
abbrev pub FindsFirst : List ℕ → Row → State → State → Option Row → Type 0
FindsFirst sql params old new (Some row) = QueriesRow sql params old new (Ok row)
FindsFirst sql params old new None = Shown sql params old new []
