-- Time in which clients could have been served, in nanoseconds.
use Rattle.std.specs.Prelude.{ℕ, ◌+◌, nat_le, min, if◌then◌else◌}
use Rattle.std.specs.Duration.{max_nanos}

-- a turn counts where it took a tenth of a second at most
abbrev pub after_turn : ℕ → ℕ → ℕ
after_turn now passed =
    if nat_le passed 100_000_000 then min (now + passed) max_nanos else now

-- a wait counts as long as it was to be at most
abbrev pub after_wait : ℕ → ℕ → ℕ → ℕ
after_wait now passed most = min (now + min passed most) max_nanos
