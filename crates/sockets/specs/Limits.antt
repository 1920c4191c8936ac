-- How many, how long and how much.
use Rattle.std.specs.Prelude.{◌≡◌, ℕ, ◌+◌, ◌*◌, ◌/◌, min}
use Rattle.std.specs.Duration.{as_nanos, max_nanos}
use Rattle.sockets.specs.declared.limits.Limits.{Limits}

-- what is usual, in bytes and nanoseconds
pub record AreUsual (limits : Limits) : Type 0 where
  pub clients : limits.clients ≡ 1_000
  pub room : limits.room ≡ 268_435_456
  pub idle : as_nanos limits.idle ≡ 75_000_000_000
  pub message : as_nanos limits.message ≡ 10_000_000_000
  pub reply : as_nanos limits.reply ≡ 10_000_000_000

-- how long a reply of so many bytes may take from where it first waited, in nanoseconds
abbrev pub reply_nanos : Limits → ℕ → ℕ
reply_nanos limits bytes = min (as_nanos limits.reply + bytes / 65_536 * 1_000_000_000) max_nanos
