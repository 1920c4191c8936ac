-- Moments of the machine's clock.
use Rattle.std.specs.Prelude.{ℕ, ◌-◌, ◌^◌, min, Result, Ok, Err}
use Rattle.std.specs.Duration.{as_nanos}
use Rattle.std.specs.declared.time.Duration.{Duration}

-- the moment of a time that a clock tells: its nanoseconds, up to the latest moment, or 0 where it
-- tells none
abbrev pub moment_at : {E : Type 0} → Result Duration E → ℕ
moment_at (Ok time) = min (as_nanos time) (2 ^ 64 - 1)
moment_at (Err why) = 0
