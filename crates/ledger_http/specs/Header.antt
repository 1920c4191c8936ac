-- The headers of a head as names and values.
use Rattle.std.specs.Prelude.{◌≡◌, ℕ, ◌≤◌, ◌+◌, List, [], ◌∷◌, length, filter, map, min, option_map}
use Rattle.std.specs.Str.{str_eq_ignore_ascii_case}
use Rattle.httparse.specs.Grammar.{RequestHead}
use Rattle.ledger_http.specs.Limits.{max_body}
use Rattle.ledger_http.specs.Head.{stated_length, key_text, wants_detail, has_close}
use Rattle.ledger_http.specs.declared.head.Head.{Head}
use Rattle.ledger_http.specs.declared.header.Found.{Found}
use Rattle.ledger_http.specs.declared.header.Found.TheVariants.{Absent, Once, More}

-- the values of the headers with this name, in any case
abbrev pub values_in : List ℕ → List (List ℕ × List ℕ) → List (List ℕ)
values_in name headers =
    map (λ header. header.1) (filter (λ header. str_eq_ignore_ascii_case header.0 name) headers)

-- how often a header stands there, and its value where it does once
abbrev pub IsFound : Found → List (List ℕ) → Type 0
IsFound Absent values = values ≡ []
IsFound (Once value) values = values ≡ value.now ∷ []
IsFound More values = 2 ≤ length values

-- what is kept of a head
pub record ShowsHead (head : Head) (h : RequestHead) : Type 0 where
  pub method : head.method.now ≡ h.method
  pub target : head.target.now ≡ h.target
  pub size : head.length ≡ option_map (min (max_body + 1)) (stated_length h)
  pub key : option_map (λ text. text.now) head.key ≡ key_text h
  pub detail : head.wants_detail ≡ wants_detail h
  pub close : head.has_close ≡ has_close h
