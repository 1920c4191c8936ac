-- What a good head is, and what it says.
use Rattle.std.specs.Prelude.{◌≡◌, ℕ, ◌≤◌, ◌-◌, ◌&&◌, ◌==◌, not, Bool, false, List, [], ◌∷◌, length, take, drop, filter, map, codes, bytes_eq, Option, Some, None, option_and_then, if◌then◌else◌, ⊤, IsTrue, nat_lt, slice_index}
use Rattle.std.specs.List.{list_all, list_any, prefix_len, suffix_len, slice_split}
use Rattle.std.specs.Char.{is_ascii_digit, is_ascii_whitespace}
use Rattle.std.specs.Str.{str_eq_ignore_ascii_case}
use Rattle.std.specs.Str.Parse.{digits_value}
use Rattle.httparse.specs.Grammar.{Field, field_value, RequestHead, ReadsRequest}
use Rattle.ledger_http.specs.Limits.{max_headers}

-- the values of the headers with this name, in any case
abbrev pub values_of : List ℕ → List Field → List (List ℕ)
values_of name fields =
    map field_value (filter (λ field. str_eq_ignore_ascii_case field.name name) fields)

-- the only one, where there is one alone
abbrev pub sole : {X : Type 0} → List X → Option X
sole [] = None
sole (x ∷ []) = Some x
sole (x ∷ y ∷ rest) = None

-- at least one digit, and no zero in front of others
abbrev pub is_canonical : List ℕ → Bool
is_canonical text =
    nat_lt 0 (length text)
    && not (nat_lt 1 (length text) && slice_index text 0 == 48)
    && list_all is_ascii_digit text

-- the number that canonical decimal writes
abbrev pub number_in : List ℕ → Option ℕ
number_in text = if is_canonical text then Some (digits_value 10 text) else None

-- there is at most one length, and it is canonical decimal
abbrev pub IsLength : List (List ℕ) → Type 0
IsLength [] = ⊤
IsLength (text ∷ []) = IsTrue (is_canonical text)
IsLength (text ∷ other ∷ rest) = ⊥

-- the bytes are a request head (RFC 9112, section 3) that a ledger takes
pub record IsGoodHead (bytes : List ℕ) (h : RequestHead) : Type 0 where
  pub reads : ReadsRequest bytes h []
  pub version : h.minor ≡ 1
  pub few : length h.fields ≤ max_headers
  pub coding : values_of (codes "transfer-encoding") h.fields ≡ []
  pub lengths : IsLength (values_of (codes "content-length") h.fields)

-- the length that a head states
abbrev pub stated_length : RequestHead → Option ℕ
stated_length h = option_and_then number_in (sole (values_of (codes "content-length") h.fields))

-- the text of the key, where it is sent once
abbrev pub key_text : RequestHead → Option (List ℕ)
key_text h = sole (values_of (codes "x-ledger-key") h.fields)

-- there is a text, and it is this one
abbrev pub is_text : List ℕ → Option (List ℕ) → Bool
is_text text None = false
is_text text (Some other) = bytes_eq other text

-- the request asks for detail in its reply: the header is sent once, with the value 1
abbrev pub wants_detail : RequestHead → Bool
wants_detail h = is_text (codes "1") (sole (values_of (codes "x-ledger-detail") h.fields))

-- a text without white space at its end, and at both ends
abbrev pub without_end : List ℕ → List ℕ
without_end text = take (length text - suffix_len is_ascii_whitespace text) text

abbrev pub trimmed : List ℕ → List ℕ
trimmed text = without_end (drop (prefix_len is_ascii_whitespace text) text)

-- a part of a list is this token, in any case
abbrev pub is_token : List ℕ → List ℕ → Bool
is_token token part = str_eq_ignore_ascii_case (trimmed part) token

-- a list with commas between its parts has this token (RFC 9110, 5.6.1)
abbrev pub has_token : List ℕ → List ℕ → Bool
has_token token list = list_any (is_token token) (slice_split (λ byte. byte == 44) list)

-- the connection ends after the reply to the request (RFC 9112, 9.6)
abbrev pub has_close : RequestHead → Bool
has_close h = list_any (has_token (codes "close")) (values_of (codes "connection") h.fields)
