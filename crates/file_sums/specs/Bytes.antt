-- FILE-sums as bytes. Each number has its lowest byte first.
use Rattle.std.specs.Prelude.{◌≡◌, ◌<◌, ◌^◌, ℕ, List, [], ◌++◌, length, codes}
use Rattle.std.specs.Int.{w32, w64, to_le_bytes}
use Rattle.sqlite_disk.specs.Digest.{digest}
use Rattle.file_sums.specs.declared.record.Record.{Record}
use Rattle.file_sums.specs.declared.reading.Found.{Found}
use Rattle.file_sums.specs.declared.record.Record.TheVariants.{Pages, Log, NoLog, Mark, Doubt}

-- the head before its seal: a name, the version of the format, the size of a page, and the key under
-- which digests are taken
abbrev pub head_of : ℕ → ℕ → List ℕ
head_of page_size key = codes "LDGRSUMS" ++ to_le_bytes w32 1 ++ to_le_bytes w32 page_size ++ to_le_bytes w64 key

-- its seal
abbrev pub head_seal : ℕ → ℕ → ℕ
head_seal page_size key = digest key (head_of page_size key)

-- the number of each kind of record
abbrev pub kind_of : Record → ℕ
kind_of Pages = 1
kind_of (Log salt) = 2
kind_of NoLog = 3
kind_of (Mark moment) = 4
kind_of (Doubt place) = 5

-- the record has this content
abbrev pub IsContent : Record → List ℕ → Type 0
IsContent Pages content = length content < 2 ^ 32
IsContent (Log salt) content = (salt < 2 ^ 64) × (content ≡ to_le_bytes w64 salt)
IsContent NoLog content = content ≡ []
IsContent (Mark moment) content = (moment < 2 ^ 64) × (content ≡ to_le_bytes w64 moment)
IsContent (Doubt place) content = (place < 2 ^ 32) × (content ≡ to_le_bytes w32 place)

-- a record before its seal: its kind, the length of its content, its content
abbrev pub body_of : ℕ → List ℕ → List ℕ
body_of kind content = to_le_bytes w32 kind ++ to_le_bytes w32 (length content) ++ content

-- bytes that are a record with this seal, behind the seal before it, under which its own is taken
pub record IsRecord (before : ℕ) (entry : Record) (bytes : List ℕ) (seal : ℕ) : Type 0 where
  pub content : List ℕ
  pub means : IsContent entry content
  pub sealed : seal ≡ digest before (body_of (kind_of entry) content)
  pub whole : bytes ≡ body_of (kind_of entry) content ++ to_le_bytes w64 seal

-- so it is of what stands first in bytes
pub record StandsFirst (before : ℕ) (bytes : List ℕ) (found : Found) : Type 0 where
  pub first : List ℕ
  pub rest : List ℕ
  pub is : IsRecord before found.entry first found.seal
  pub split : bytes ≡ first ++ rest
  pub len : found.len ≡ length first
