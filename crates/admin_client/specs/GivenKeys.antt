-- A tenant's key as a command has it.
use Rattle.std.specs.Prelude.{◌≡◌, ◌≢◌, ◌++◌, ℕ, List, length, codes, Option, Some, None, Ok}
use Rattle.std.specs.String.{string_bytes}
use Rattle.std.specs.Io.KnownBytes.{Appends}
use Rattle.hex.specs.Hex.{encode_lower}
use Rattle.tenants.specs.KeyText.{key_of}
use Rattle.command_texts.specs.Lines.{key_line}
use Rattle.command_texts.specs.Words.{IsDigestOfKey}
use Rattle.command_texts.specs.declared.fault.Fault.{Fault}
use Rattle.command_texts.specs.declared.fault.Fault.TheVariants.{Unavailable}
use Rattle.admin_client.specs.declared.given_key.GivenKey.{GivenKey}
use Rattle.admin_client.specs.declared.given_key.GivenKey.TheVariants.{Word, Input, Drawn}

abbrev pub key_text : GivenKey → List ℕ
key_text (Word text) = text.now
key_text (Input text) = string_bytes text
key_text (Drawn text) = string_bytes text

-- the key that a word means: without one it is drawn, and `-` is standard input
abbrev pub IsGivenKey : Option (List ℕ) → GivenKey → Type 0
IsGivenKey None (Drawn text) =
    (bytes : List ℕ) × (length bytes ≡ 32) × (string_bytes text ≡ encode_lower bytes)
IsGivenKey None key = ⊥
IsGivenKey (Some word) (Word text) = (word ≢ codes "-") × (text.now ≡ word)
IsGivenKey (Some word) (Input text) = word ≡ codes "-"
IsGivenKey (Some word) (Drawn text) = ⊥

-- there is no key where none could be drawn, or read from standard input
abbrev pub IsUnread : Option (List ℕ) → Fault → Type 0
IsUnread None fault = fault ≡ Unavailable
IsUnread (Some word) fault = (word ≡ codes "-") × (fault ≡ Unavailable)

-- a key that was drawn is told, and no other
abbrev pub IsKeyTold : Option (List ℕ) → Option (List ℕ) → GivenKey → Type 0
IsKeyTold old new (Word text) = new ≡ old
IsKeyTold old new (Input text) = new ≡ old
IsKeyTold old new (Drawn text) = Appends old new (key_line (string_bytes text))

-- a line is written, and behind it a key that was drawn
abbrev pub AreLinesTold : Option (List ℕ) → Option (List ℕ) → List ℕ → GivenKey → Type 0
AreLinesTold old new line (Word text) = Appends old new line
AreLinesTold old new line (Input text) = Appends old new line
AreLinesTold old new line (Drawn text) = Appends old new (line ++ key_line (string_bytes text))

-- something is so of the digest of a key
abbrev pub OfDigest : GivenKey → (List ℕ → Type 0) → Type 0
OfDigest key P =
    (digest : List ℕ) × IsDigestOfKey (key_of (key_text key)) (Ok digest) × P digest
