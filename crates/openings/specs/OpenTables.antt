-- The tables of a ledger that was opened, and how they are seen: in one place.
use Rattle.sqlite_disk.specs.declared.Disk as disk
use Rattle.sqlite.specs.Files.{file_state}
use Rattle.sqlite.specs.Held.{Held}
use Rattle.sqlite.specs.State.{State}
use Rattle.sqlite_store.specs.declared.store.FileStore.{FileStore}

-- what they hold
abbrev pub OpenTables : (D : Type 0) → disk.Ghosts D → Type 0
OpenTables D g = Held (FileStore D g)

-- the tables as they are now and as they were committed, and what a crash leaves
abbrev pub open_state : {D : Type 0} {g : disk.Ghosts D} → OpenTables D g → State
open_state = file_state
