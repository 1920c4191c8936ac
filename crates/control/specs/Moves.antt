-- What came of a read or a write.
use Rattle.std.specs.Prelude.{ℕ, ◌≤◌, ⊤}
use Rattle.control.specs.declared.caller.Moved.{Moved}
use Rattle.control.specs.declared.caller.Moved.TheVariants.{Bytes, Waits, Ended, Broken}

-- so many bytes at most
abbrev pub IsAtMost : ℕ → Moved → Type 0
IsAtMost most (Bytes count) = count ≤ most
IsAtMost most Waits = ⊤
IsAtMost most Ended = ⊤
IsAtMost most Broken = ⊤
