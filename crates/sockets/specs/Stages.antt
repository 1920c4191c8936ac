-- What a client is waited for, and until when.
use Rattle.std.specs.Prelude.{◌≡◌, ◌+◌, ℕ, Bool, false, min, nat_le}
use Rattle.std.specs.Duration.{as_nanos, max_nanos}
use Rattle.std.specs.declared.time.Duration.{Duration}
use Rattle.sockets.specs.declared.limits.Limits.{Limits}
use Rattle.sockets.specs.Limits.{reply_nanos}
use Rattle.sockets.specs.declared.stages.Stage.{Stage}
use Rattle.sockets.specs.declared.stages.Stage.TheVariants.{Idle, Message, Room, Reply}

-- a moment so long behind another
abbrev pub behind : Duration → ℕ → ℕ
behind now time = min (as_nanos now + time) max_nanos

-- whether a client has had its time; who waits for room has all
abbrev pub has_had_time : Stage → Duration → Bool
has_had_time (Idle until) now = nat_le (as_nanos until) (as_nanos now)
has_had_time (Message until) now = nat_le (as_nanos until) (as_nanos now)
has_had_time Room now = false
has_had_time (Reply until) now = nat_le (as_nanos until) (as_nanos now)

-- it is between messages until this moment
abbrev pub IsIdle : ℕ → Stage → Type 0
IsIdle moment (Idle until) = as_nanos until ≡ moment
IsIdle moment (Message until) = ⊥
IsIdle moment Room = ⊥
IsIdle moment (Reply until) = ⊥

-- the rest of its message is waited for until this moment
abbrev pub IsMessage : ℕ → Stage → Type 0
IsMessage moment (Idle until) = ⊥
IsMessage moment (Message until) = as_nanos until ≡ moment
IsMessage moment Room = ⊥
IsMessage moment (Reply until) = ⊥

-- it is to take a reply until this moment
abbrev pub TakesReplyUntil : ℕ → Stage → Type 0
TakesReplyUntil moment (Idle until) = ⊥
TakesReplyUntil moment (Message until) = ⊥
TakesReplyUntil moment Room = ⊥
TakesReplyUntil moment (Reply until) = as_nanos until ≡ moment

-- behind bytes that were read: the first of a message give it its time, later ones no more
abbrev pub IsBehindBytes : Limits → Duration → Stage → Stage → Type 0
IsBehindBytes limits now (Idle until) new = IsMessage (behind now (as_nanos limits.message)) new
IsBehindBytes limits now (Message until) new = new ≡ Message until
IsBehindBytes limits now Room new = new ≡ Room
IsBehindBytes limits now (Reply until) new = new ≡ Reply until

-- behind a write of a reply of so many bytes that took less than all: the first gives it its time,
-- later ones no more
abbrev pub IsBehindPart : Limits → Duration → ℕ → Stage → Stage → Type 0
IsBehindPart limits now size (Idle until) new =
    TakesReplyUntil (behind now (reply_nanos limits size)) new
IsBehindPart limits now size (Message until) new =
    TakesReplyUntil (behind now (reply_nanos limits size)) new
IsBehindPart limits now size Room new =
    TakesReplyUntil (behind now (reply_nanos limits size)) new
IsBehindPart limits now size (Reply until) new = new ≡ Reply until
