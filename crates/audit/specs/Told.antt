-- What a tenant's rows tell, where their cells can be read: a clock, entries and failed ids, and
-- what the machine makes of them.
use Rattle.std.specs.Prelude.{◌≡◌, ℕ, ◌&&◌, nat_le, List, [], ◌++◌, map, if◌then◌else◌}
use Rattle.records.specs.Machine.{Machine}
use Rattle.records.specs.Step.{at_clock, max_clock}
use Rattle.rows.specs.TypedRows.{TypedRows, FileRows, cells_of}
use Rattle.rows.specs.Prescribed.{rows_for}
use Rattle.rows.specs.Widths.{AreStorable}
use Rattle.running.specs.declared.entry.Entry.{Entry}
use Rattle.running.specs.declared.entry.Entry.TheVariants.{Opened, Moved}
use Rattle.running.specs.Entries.{time_of, machine_of}
use Rattle.audit.specs.Order.{in_order}

-- the clock, accounts, transfers and failed ids of a file's rows
pub record TellsRows (rows : FileRows) (told : TypedRows) : Type 0 where
  pub fits : AreStorable told
  pub cells : cells_of told ≡ record rows { balances = []; statuses = []; history = [] }

-- the timestamps of the accounts
abbrev pub account_times : TypedRows → List ℕ
account_times told = map (λ account. account.timestamp) told.accounts

-- the timestamps of the transfers
abbrev pub transfer_times : TypedRows → List ℕ
transfer_times told = map (λ transfer. transfer.timestamp) told.transfers

-- all entries in order of time
abbrev pub entries_told : TypedRows → List Entry
entries_told told = in_order time_of (map Opened told.accounts ++ map Moved told.transfers)

-- the machine at this clock, or where it cannot come to it at the clock that its entries reach
abbrev pub told_at : Machine → ℕ → Machine
told_at m clock =
    if nat_le m.clock clock && nat_le clock max_clock then at_clock m clock else m

-- the machine that the entries lead to
abbrev pub machine_told : TypedRows → Machine
machine_told told = told_at (machine_of (entries_told told)) told.clock

-- the rows that it prescribes
abbrev pub prescribed : ℕ → TypedRows → TypedRows
prescribed version told = rows_for version (machine_told told)
