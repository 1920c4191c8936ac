-- What a fault means to an opening.
use Rattle.sqlite.specs.declared.error.Error.{Error}
use Rattle.sqlite.specs.declared.error.Error.TheVariants.{SqliteFailure}
use Rattle.sqlite.specs.declared.error.ErrorCode.TheVariants as code
use Rattle.records.specs.declared.unavailable.Unavailable.TheVariants.{Memory, Size, Disk}
use Rattle.audit.specs.declared.damage.AuditFault.{AuditFault}
use Rattle.audit.specs.declared.damage.AuditFault.TheVariants as audit
use Rattle.ledger_sql.specs.declared.table_fault.TableFault.{TableFault}
use Rattle.ledger_sql.specs.declared.table_fault.TableFault.TheVariants as table
use Rattle.openings.specs.declared.opening.OpenFault.{OpenFault}
use Rattle.openings.specs.declared.opening.OpenFault.TheVariants.{Unreadable, Damaged, Unavailable}

-- a table that was there a moment ago was lost by the disk
abbrev pub open_fault_of : TableFault → OpenFault
open_fault_of table.Missing = Unavailable Disk
open_fault_of (table.Unavailable cause) = Unavailable cause

-- damage is told as it is
abbrev pub damage_fault : AuditFault → OpenFault
damage_fault (audit.Damaged damage) = Damaged damage
damage_fault audit.Memory = Unavailable Memory

-- what an error of the database's own opening means
abbrev pub open_fault_in : Error → OpenFault
open_fault_in (SqliteFailure code.OutOfMemory) = Unavailable Memory
open_fault_in (SqliteFailure code.SystemIoFailure) = Unavailable Disk
open_fault_in (SqliteFailure code.DiskFull) = Unavailable Disk
open_fault_in (SqliteFailure code.Closed) = Unavailable Disk
open_fault_in (SqliteFailure code.TooBig) = Unavailable Size
open_fault_in _ = Unreadable
