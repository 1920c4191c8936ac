-- What those who are connected do.
use Rattle.std.specs.Prelude.{◌≡◌, ◌≤◌, ℕ, List, length, take}
use Rattle.clients.specs.Deeds.{Act, Came, Replied, Continued, Wrote}
use Rattle.clients.specs.Deeds as deed
use Rattle.clients.specs.Talk.{Talk}
use Rattle.polling.specs.declared.peers.Told.{Told}
use Rattle.polling.specs.declared.peers.Read.{Read}
use Rattle.polling.specs.declared.peers.Read.TheVariants as read
use Rattle.polling.specs.declared.peers.Written.{Written}
use Rattle.polling.specs.declared.peers.Written.TheVariants as written

-- Bytes of a client were read, or there were none for now. Its input ended. The reply to its message
-- was handed over, so that it can be marked. Bytes to it were taken, or none for now. Its connection
-- broke. It is to have another turn. It was closed. Waiting has reported this, where a number was
-- handed in for a new client. Or anything else.
pub data Doing : Type 0 where
  Gave : ℕ → List ℕ → Doing
  Gave_none : ℕ → Doing
  Ended : ℕ → Doing
  Handed : ℕ → List ℕ → Doing
  Took : ℕ → List ℕ → Doing
  Took_none : ℕ → Doing
  Broke : ℕ → Doing
  Asked : ℕ → Doing
  Closed : ℕ → Doing
  Said : ℕ → Told → Doing
  Stirred : Doing

-- What peers did of a deed, behind which a client's talk is this. A reply is handed over in the deed
-- that answers it, with all that is to be written of it now.
abbrev pub Hands : {P : Type 0} → (P → Doing → P → Type 0) → Act → Talk → P → P → Type 0
Hands does (Came client piece) talk old new = does old (Gave client piece) new
Hands does (deed.Ended client) talk old new = does old (Ended client) new
Hands does (Replied client reply) talk old new = does old (Handed client talk.unsent) new
Hands does (Continued client part) talk old new = new ≡ old
Hands does (Wrote client bytes) talk old new = does old (Took client bytes) new

-- what reading from a client gave
abbrev pub HasReadFrom :
    {P : Type 0} → (P → Doing → P → Type 0) → ℕ → P → List ℕ → P → Read → Type 0
HasReadFrom does client old piece new (read.Gave count) =
    (count ≤ length piece) × does old (Gave client (take count piece)) new
HasReadFrom does client old piece new read.Ended = does old (Ended client) new
HasReadFrom does client old piece new read.Waits = does old (Gave_none client) new
HasReadFrom does client old piece new read.Broken = does old (Broke client) new

-- what writing to a client gave
abbrev pub HasWritten :
    {P : Type 0} → (P → Doing → P → Type 0) → ℕ → List ℕ → P → P → Written → Type 0
HasWritten does client bytes old new (written.Took count) =
    (count ≤ length bytes) × does old (Took client (take count bytes)) new
HasWritten does client bytes old new written.Waits = does old (Took_none client) new
HasWritten does client bytes old new written.Broken = does old (Broke client) new
