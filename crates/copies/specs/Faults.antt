-- Why no copy is made.
use Rattle.std.specs.IoError.{error_kind}
use Rattle.std.specs.declared.io.ErrorKind.{ErrorKind}
use Rattle.std.specs.declared.io.ErrorKind.TheVariants.{OutOfMemory}
use Rattle.sqlite_std_file.specs.declared.pair.OpenError.{OpenError}
use Rattle.sqlite_std_file.specs.declared.pair.OpenError.TheVariants as path
use Rattle.sqlite_wal.specs.declared.error.Error.{Error}
use Rattle.sqlite_wal.specs.declared.error.Error.TheVariants as log
use Rattle.copies.specs.declared.fault.CopyFault.{CopyFault}
use Rattle.copies.specs.declared.fault.CopyFault.TheVariants.{Failed, Memory}

-- the fault behind an error of the system of this kind
abbrev pub fault_of : ErrorKind → CopyFault
fault_of OutOfMemory = Memory
fault_of _ = Failed

-- the fault behind an error of a log
abbrev pub log_fault : Error → CopyFault
log_fault (log.Io error) = fault_of (error_kind error)
log_fault log.OutOfMemory = Memory
log_fault _ = Failed

-- the fault behind files that cannot be opened as a database
abbrev pub path_fault : OpenError → CopyFault
path_fault (path.Io error) = fault_of (error_kind error)
path_fault path.OutOfMemory = Memory
path_fault _ = Failed
