-- What an error of the store means to the ledger.
use Rattle.records.specs.declared.unavailable.Unavailable.{Unavailable}
use Rattle.records.specs.declared.unavailable.Unavailable.TheVariants.{Memory, Size, Disk}
use Rattle.sqlite_trees.specs.declared.error.StoreError.{StoreError}
use Rattle.sqlite_trees.specs.declared.error.StoreError.TheVariants.{OutOfMemory, Unstorable}

-- a lack of memory, a row that is too large or of another form, or a disk that failed
abbrev pub cause_of : StoreError → Unavailable
cause_of OutOfMemory = Memory
cause_of Unstorable = Size
cause_of _ = Disk
