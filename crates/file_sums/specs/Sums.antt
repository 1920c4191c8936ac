-- What FILE-sums is, as a whole.
use Rattle.std.specs.Prelude.{◌≡◌, ◌<◌, ◌^◌, ℕ, List, [], ◌∷◌, ◌++◌, length, drop}
use Rattle.std.specs.Int.{w64, to_le_bytes}
use Rattle.file_sums.specs.Bytes.{head_of, head_seal, IsRecord, StandsFirst}
use Rattle.file_sums.specs.Records.{noted_of}
use Rattle.file_sums.specs.declared.record.Record.{Record}
use Rattle.file_sums.specs.declared.reading.Found.{Found}
use Rattle.file_sums.specs.declared.sums.Sums.{Sums}

-- the bytes are a head with its seal
abbrev pub IsHead : ℕ → ℕ → List ℕ → ℕ → Type 0
IsHead page_size key bytes seal =
    (seal ≡ head_seal page_size key) × (bytes ≡ head_of page_size key ++ to_le_bytes w64 seal)

-- the bytes are a head and these records behind it, of which the newest has this seal
abbrev pub AreWhole : ℕ → ℕ → List Record → List ℕ → ℕ → Type 0
AreWhole page_size key [] bytes seal = IsHead page_size key bytes seal
AreWhole page_size key (newest ∷ records) bytes seal =
    (front : List ℕ) × (last : List ℕ) × (before : ℕ) × AreWhole page_size key records front before
    × IsRecord before newest last seal × (bytes ≡ front ++ last)

-- what is known of a file of these bytes, which has these records
pub record Knows (sums : Sums) (records : List Record) (bytes : List ℕ) : Type 0 where
  pub whole : AreWhole sums.page_size sums.key records bytes sums.seal
  pub noted : sums.noted ≡ noted_of records

-- the first `len` of these bytes are whole, and this is known of them
pub record AreWholeTo (bytes : List ℕ) (sums : Sums) (len : ℕ) : Type 0 where
  pub records : List Record
  pub front : List ℕ
  pub rest : List ℕ
  pub split : bytes ≡ front ++ rest
  pub size : len ≡ length front
  pub knows : Knows sums records front

-- what was read is the longest beginning that is whole
pub record IsRead (bytes : List ℕ) (sums : Sums) (len : ℕ) : Type 0 where
  pub whole : AreWholeTo bytes sums len
  pub ends : (found : Found) → StandsFirst sums.seal (drop len bytes) found → ⊥

-- the bytes begin with a head
pub record HasHead (bytes : List ℕ) : Type 0 where
  pub page_size : ℕ
  pub key : ℕ
  pub rest : List ℕ
  pub size_fits : page_size < 2 ^ 32
  pub key_fits : key < 2 ^ 64
  pub split : bytes ≡ head_of page_size key ++ to_le_bytes w64 (head_seal page_size key) ++ rest
