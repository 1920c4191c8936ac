-- What an error of the database means to the ledger.
use Rattle.std.specs.Prelude.{ℕ, Result, Ok, Err}
use Rattle.records.specs.declared.unavailable.Unavailable.{Unavailable}
use Rattle.records.specs.declared.unavailable.Unavailable.TheVariants.{Memory, Size, Disk}
use Rattle.sqlite.specs.declared.error.Error.{Error}
use Rattle.sqlite.specs.declared.error.Error.TheVariants.{SqliteFailure, SqlInputError}
use Rattle.sqlite.specs.declared.error.ErrorCode.TheVariants as code
use Rattle.sqlite_resolve.specs.declared.error.CompileError.TheVariants.{NoSuchTable}
use Rattle.ledger_sql.specs.declared.table_fault.TableFault.{TableFault}
use Rattle.ledger_sql.specs.declared.table_fault.TableFault.TheVariants as fault

-- memory is want of memory, disk a store that failed, is corrupt, full or closed, and size the rest
abbrev pub cause_in : Error → Unavailable
cause_in (SqliteFailure code.OutOfMemory) = Memory
cause_in (SqliteFailure code.SystemIoFailure) = Disk
cause_in (SqliteFailure code.DatabaseCorrupt) = Disk
cause_in (SqliteFailure code.DiskFull) = Disk
cause_in (SqliteFailure code.Closed) = Disk
cause_in _ = Size

-- a statement's answer without its count of rows
abbrev pub done_of : Result ℕ Error → Result (Unit {0}) Unavailable
done_of (Ok count) = Ok tt
done_of (Err e) = Err (cause_in e)

-- what it means of a table that is read
abbrev pub table_fault_in : Error → TableFault
table_fault_in (SqlInputError NoSuchTable) = fault.Missing
table_fault_in e = fault.Unavailable (cause_in e)
