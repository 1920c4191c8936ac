-- How far the first message of some bytes has been looked at.
use Rattle.std.specs.Prelude.{◌≡◌, ℕ, ◌+◌, ◌≤◌, ◌<◌, false, List, length, take, Ok, Err, nat_eq}
use Rattle.std.specs.List.{ends_with}
use Rattle.httparse.specs.Grammar.{RequestHead}
use Rattle.ledger_http.specs.declared.refusal.Refusal.TheVariants.{Truncated}
use Rattle.ledger_http.specs.declared.progress.Progress.{Progress}
use Rattle.ledger_http.specs.declared.progress.Progress.TheVariants.{Head, Body}
use Rattle.ledger_http.specs.Limits.{max_head, max_body}
use Rattle.ledger_http.specs.Head.{IsGoodHead}
use Rattle.ledger_http.specs.Message.{blank_line, length_of_head, length_of_body}

-- no beginning of so many bytes or fewer ends with a blank line
abbrev pub HasNoEnd : List ℕ → ℕ → Type 0
HasNoEnd bytes n = (j : ℕ) → j ≤ n → ends_with nat_eq (take j bytes) blank_line ≡ false

-- so many bytes have been looked at, and a head does not end in them
pub record IsOpen (bytes : List ℕ) (looked : ℕ) : Type 0 where
  pub within : looked ≤ length bytes
  pub few : looked < max_head
  pub none : HasNoEnd bytes looked

-- a good head stands first, and behind it a body of so many bytes is due
pub record HasBody (bytes : List ℕ) (head size : ℕ) : Type 0 where
  pub ends : length_of_head bytes ≡ Ok head
  pub within : head ≤ length bytes
  pub few : size ≤ max_body
  pub says : RequestHead
  pub good : IsGoodHead (take head bytes) says
  pub allowed : length_of_body says ≡ Ok size

-- the message that stands first has so many bytes, head and body together
pub record HasLength (bytes : List ℕ) (length : ℕ) : Type 0 where
  pub head : ℕ
  pub size : ℕ
  pub body : HasBody bytes head size
  pub sum : length ≡ head + size

-- what is known so far is so
abbrev pub IsProgress : List ℕ → Progress → Type 0
IsProgress bytes (Head looked) = IsOpen bytes looked
IsProgress bytes (Body head size) = HasBody bytes head size

-- all bytes have been looked at
abbrev pub IsLooked : List ℕ → Progress → Type 0
IsLooked bytes (Head looked) = length_of_head bytes ≡ Err Truncated
IsLooked bytes (Body head size) = HasBody bytes head size
