-- How many bytes were read and written.
use Rattle.std.specs.Prelude.{◌≡◌, ◌≤◌, ℕ, List, length, ⊤}
use Rattle.polling.specs.declared.peers.Read.{Read}
use Rattle.polling.specs.declared.peers.Read.TheVariants as read
use Rattle.polling.specs.declared.peers.Written.{Written}
use Rattle.polling.specs.declared.peers.Written.TheVariants as written

-- no more was read than a piece holds
abbrev pub IsReadOf : Read → List ℕ → Type 0
IsReadOf (read.Gave count) piece = count ≤ length piece
IsReadOf read.Ended piece = ⊤
IsReadOf read.Waits piece = ⊤
IsReadOf read.Broken piece = ⊤

-- no more was read into a piece than it holds
pub record ReadsInto (old new : List ℕ) (read : Read) : Type 0 where
  pub count : IsReadOf read new
  pub size : length new ≡ length old

-- no more was written than there was
abbrev pub IsWrittenOf : Written → List ℕ → Type 0
IsWrittenOf (written.Took count) bytes = count ≤ length bytes
IsWrittenOf written.Waits bytes = ⊤
IsWrittenOf written.Broken bytes = ⊤
