-- What is seen of a stream of std that remembers whether it has failed.
use Rattle.std.specs.Prelude.{Bool}
use Rattle.records.specs.declared.streamed.Streamed.{Streamed}

-- the reader or writer itself
abbrev pub stream_inside : {X : Type 0} → Streamed X → X
stream_inside s = s.inner

-- whether a call has failed
abbrev pub stream_failed : {X : Type 0} → Streamed X → Bool
stream_failed s = s.failed
