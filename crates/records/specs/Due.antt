-- When a pending transfer expires.
use Rattle.std.specs.Prelude.{ℕ, ◌+◌, ◌*◌, ◌^◌, Bool, false, ◌&&◌, nat_lt, nat_le}
use Rattle.std.specs.Prelude.{Option, Some, None, if◌then◌else◌}
use Rattle.records.specs.declared.transfer.Transfer.{Transfer}
use Rattle.records.specs.Flags.{is_pending}

-- the due time of a pending transfer with a timeout; a timeout is in seconds, a time in nanoseconds
abbrev pub due_of : Transfer → Option ℕ
due_of transfer =
    if is_pending transfer.flags && nat_lt 0 transfer.timeout
    then Some (transfer.timestamp + transfer.timeout * 10 ^ 9)
    else None

-- whether a due time has come
abbrev pub has_come : Option ℕ → ℕ → Bool
has_come None clock = false
has_come (Some due) clock = nat_le due clock

-- whether the transfer is due at this clock
abbrev pub is_due : ℕ → Transfer → Bool
is_due clock transfer = has_come (due_of transfer) clock
