-- How much may be read of a client, and the room that it has for a message.
use Rattle.std.specs.Prelude.{ℕ, Bool, false, ◌-◌, ◌||◌, min, max, nat_eq, nat_le, nat_lt, if◌then◌else◌}
use Rattle.polling.specs.declared.peers.Written.{Written}
use Rattle.polling.specs.declared.peers.Written.TheVariants.{Took, Waits, Broken}
use Rattle.sockets.specs.declared.reading.Reading.{Reading}

-- how many bytes of those wanted may be read: up to 64 kB since the last reply, or as many as there
-- is room for
abbrev pub readable : Reading → ℕ → ℕ
readable reading wanted = min wanted (max reading.room 65_536 - reading.read)

-- a message of more than 64 kB needs room for all of it, once
abbrev pub lacking : Reading → ℕ → ℕ
lacking reading bytes = if nat_le bytes 65_536 || nat_lt 0 reading.room then 0 else bytes

-- whether all of a reply was taken
abbrev pub is_whole : Written → ℕ → Bool
is_whole (Took count) bytes = nat_eq count bytes
is_whole Waits bytes = false
is_whole Broken bytes = false

-- room is given back with the whole reply
abbrev pub given_back : Reading → Written → ℕ → ℕ
given_back reading written bytes = if is_whole written bytes then reading.room else 0

-- and the next message begins
abbrev pub read_behind : Reading → Written → ℕ → Reading
read_behind reading written bytes =
    if is_whole written bytes then record { read = 0; room = 0 } else reading
