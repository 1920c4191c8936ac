-- The limits of a service, as the command line gives them.
use Rattle.std.specs.Prelude.{◌≡◌, ◌*◌, ◌-◌, ◌^◌, ℕ, min, option_map, unwrap_or}
use Rattle.std.specs.Duration.{as_nanos}
use Rattle.command_line.specs.declared.commands.LimitWords.{LimitWords}
use Rattle.sockets.specs.declared.limits.Limits.{Limits}

-- so many seconds, in nanoseconds
abbrev pub in_nanos : ℕ → ℕ
in_nanos seconds = seconds * 1_000_000_000

-- so many megabytes, as far as a number goes
abbrev pub in_bytes : ℕ → ℕ
in_bytes megabytes = min (megabytes * 1_048_576) (2 ^ 64 - 1)

-- each limit is as it was given, or as usual
pub record AreLimitsGiven (words : LimitWords) (limits : Limits) : Type 0 where
  pub clients : limits.clients ≡ unwrap_or words.clients 1_000
  pub room : limits.room ≡ unwrap_or (option_map in_bytes words.room) 268_435_456
  pub idle : as_nanos limits.idle ≡ unwrap_or (option_map in_nanos words.idle) 75_000_000_000
  pub message :
      as_nanos limits.message ≡ unwrap_or (option_map in_nanos words.message) 10_000_000_000
  pub reply : as_nanos limits.reply ≡ unwrap_or (option_map in_nanos words.reply) 10_000_000_000
