use Rattle.std.proofs.Common.{◌≡◌, ℕ, List, length, ◌++◌}
use Rattle.std.specs.Io.KnownBytes.{Appends}
use Rattle.records.proofs.drain.put_all.Given as goal

-- What has been written and what is left are all the bytes, and no call has failed since.
abbrev pub invariant-loop-rest : goal.invariant-loop-rest
invariant-loop-rest g l =
    (front : List ℕ)
    × (front ++ l.rest ≡ l.bytes)
    × Appends (g.W.Drain.written l.initial.writer) (g.W.Drain.written l.writer) front
    × (g.W.Drain.failed l.writer ≡ g.W.Drain.failed l.initial.writer)

abbrev pub decreases-loop-rest : goal.decreases-loop-rest
decreases-loop-rest g l = length l.rest
