-- What a log's header has, and what is known of it.
use Rattle.std.specs.Prelude.{◌≡◌, ◌<◌, ◌≤◌, ◌+◌, ℕ, List, length, slice_index}
use Rattle.noting_disk.specs.declared.head.HeadSeen.{HeadSeen}
use Rattle.noting_disk.specs.declared.head.HeadSeen.TheVariants.{Unsigned, Signed}

-- the log's header has this salt, in its place
pub record HasSalt (salt log : List ℕ) : Type 0 where
  pub long : 24 ≤ length log
  pub each : (i : ℕ) → i < 8 → slice_index log (16 + i) ≡ slice_index salt i

-- and the first byte, so that the database reads the log
pub record IsLogOf (salt log : List ℕ) : Type 0 where
  pub salted : HasSalt salt log
  pub signed : slice_index log 0 ≡ 0x37

-- what is known is so of the log
pub record Shows (head : HeadSeen) (log : List ℕ) : Type 0 where
  pub unsigned : (salt : List ℕ) → head ≡ Unsigned salt → HasSalt salt log
  pub signed : (salt : List ℕ) → head ≡ Signed salt → IsLogOf salt log
