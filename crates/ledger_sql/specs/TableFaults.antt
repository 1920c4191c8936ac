-- What a fault in reading a table means where its table is there.
use Rattle.records.specs.declared.unavailable.Unavailable.{Unavailable}
use Rattle.records.specs.declared.unavailable.Unavailable.TheVariants.{Size}
use Rattle.ledger_sql.specs.declared.table_fault.TableFault.{TableFault}
use Rattle.ledger_sql.specs.declared.table_fault.TableFault.TheVariants as fault

-- its cause; a table that is missing is no want of memory and no fault of the disk
abbrev pub cause_of : TableFault → Unavailable
cause_of fault.Missing = Size
cause_of (fault.Unavailable cause) = cause
