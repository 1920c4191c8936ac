-- The parts of a message.
use Rattle.std.specs.Prelude.{◌≡◌, ℕ, ◌≤◌, List, length}
use Rattle.httparse.specs.Grammar.{RequestHead, ReadsRequest}

-- the bytes are a head with this method and this path, and then this body
abbrev pub HasParts : List ℕ → List ℕ → List ℕ → List ℕ → Type 0
HasParts bytes method path body =
    (head : RequestHead) × ReadsRequest bytes head body
    × (head.method ≡ method) × (head.target ≡ path)

-- they begin with no head, or with one that has more than 64 headers
abbrev pub HasNoParts : List ℕ → Type 0
HasNoParts bytes =
    (head : RequestHead) (rest : List ℕ) → ReadsRequest bytes head rest
    → length head.fields ≤ 64 → ⊥
