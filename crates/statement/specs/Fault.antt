-- A fault of a statement, as a sink tells it.
use Rattle.std.specs.Prelude.{◌≡◌, Bool, true, false, Result, Ok, Err}
use Rattle.records.specs.declared.row_sink.SinkFault.{SinkFault}
use Rattle.records.specs.declared.row_sink.SinkFault.TheVariants as sink
use Rattle.statement.specs.declared.fault.StatementFault.{StatementFault}
use Rattle.statement.specs.declared.fault.StatementFault.TheVariants.{Write, Memory}

-- the same fault
abbrev pub IsSinkFault : StatementFault → SinkFault → Type 0
IsSinkFault Write fault = fault ≡ sink.Write
IsSinkFault Memory fault = fault ≡ sink.Memory

-- whether a result tells that the writer failed
abbrev pub is_write_fault : {T : Type 0} → Result T StatementFault → Bool
is_write_fault (Ok value) = false
is_write_fault (Err Write) = true
is_write_fault (Err Memory) = false

-- the same of what a sink answers
abbrev pub is_sink_write : {T : Type 0} → Result T SinkFault → Bool
is_sink_write (Ok value) = false
is_sink_write (Err sink.Write) = true
is_sink_write (Err sink.Memory) = false
