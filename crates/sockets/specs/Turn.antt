-- What may be read of a client in its turn.
use Rattle.std.specs.Prelude.{ℕ, Bool, true, false, Option, None, Some, if◌then◌else◌}
use Rattle.sockets.specs.declared.peer.Peer.{Peer}
use Rattle.sockets.specs.declared.stages.Stage.{Stage}
use Rattle.sockets.specs.declared.stages.Stage.TheVariants.{Idle, Message, Room, Reply}
use Rattle.sockets.specs.Reading.{readable}

-- it waits for room
abbrev pub is_room : Stage → Bool
is_room (Idle until) = false
is_room (Message until) = false
is_room Room = true
is_room (Reply until) = false

-- how many bytes of those wanted: none of who waits for room; who is gone is not read at all
abbrev pub room_of : Option Peer → ℕ → Option ℕ
room_of None wanted = None
room_of (Some peer) wanted =
    if peer.is_over then None
    else if is_room peer.stage then Some 0 else Some (readable peer.reading wanted)
