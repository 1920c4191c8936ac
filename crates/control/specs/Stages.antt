-- What a caller is waited for, and until when.
use Rattle.std.specs.Prelude.{◌≡◌, ◌+◌, ℕ, Bool, true, false, min, nat_le}
use Rattle.std.specs.Duration.{as_nanos, max_nanos}
use Rattle.std.specs.declared.time.Duration.{Duration}
use Rattle.control.specs.declared.orders.Order.{Order}
use Rattle.control.specs.declared.orders.Order.TheVariants.{Tenants, AddTenant, ChangeKey, Status, Copy, Statement, Stop}
use Rattle.control.specs.declared.stage.Stage.{Stage}
use Rattle.control.specs.declared.stage.Stage.TheVariants.{Reads, Waits, Copies, Stops, Writes, Over}

-- ten seconds behind a moment
abbrev pub due : Duration → ℕ
due now = min (as_nanos now + 10_000_000_000) max_nanos

-- its message is waited for so long
abbrev pub IsReadingUntil : Duration → Stage → Type 0
IsReadingUntil now (Reads until) = as_nanos until ≡ due now
IsReadingUntil now Waits = ⊥
IsReadingUntil now Copies = ⊥
IsReadingUntil now Stops = ⊥
IsReadingUntil now (Writes until) = ⊥
IsReadingUntil now Over = ⊥

-- it is to take its reply in so long
abbrev pub IsWriting : Duration → Stage → Type 0
IsWriting now (Reads until) = ⊥
IsWriting now Waits = ⊥
IsWriting now Copies = ⊥
IsWriting now Stops = ⊥
IsWriting now (Writes until) = as_nanos until ≡ due now
IsWriting now Over = ⊥

-- who asked for a copy waits for the copy, who asked for the end for the end, and any other for an
-- answer
abbrev pub IsBehindOrder : Order → Stage → Type 0
IsBehindOrder Tenants stage = stage ≡ Waits
IsBehindOrder (AddTenant name digest) stage = stage ≡ Waits
IsBehindOrder (ChangeKey name digest) stage = stage ≡ Waits
IsBehindOrder Status stage = stage ≡ Waits
IsBehindOrder (Copy to) stage = stage ≡ Copies
IsBehindOrder (Statement piece) stage = stage ≡ Waits
IsBehindOrder Stop stage = stage ≡ Stops

-- something is to be read or written
abbrev pub is_busy : Stage → Bool
is_busy (Reads until) = true
is_busy Waits = false
is_busy Copies = false
is_busy Stops = false
is_busy (Writes until) = true
is_busy Over = false

-- the time for it is over
abbrev pub has_had_time : Stage → Duration → Bool
has_had_time (Reads until) now = nat_le (as_nanos until) (as_nanos now)
has_had_time Waits now = false
has_had_time Copies now = false
has_had_time Stops now = false
has_had_time (Writes until) now = nat_le (as_nanos until) (as_nanos now)
has_had_time Over now = false
