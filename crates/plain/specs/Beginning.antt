-- The beginning of a batch.
use Rattle.std.specs.Prelude.{None}
use Rattle.records.specs.Machine.{Machine}
use Rattle.chain.specs.Tables.{State}

-- a machine at which a batch begins: nothing has come yet, and no mark is open
abbrev pub beginning_at : Machine → State
beginning_at m = record { now = m; begun = m; marked = None }
