-- The first message of some bytes. Which head they have is a relation, and all else a function
-- of the bytes and the head.
use Rattle.std.specs.Prelude.{◌≡◌, ◌≢◌, ℕ, suc, ◌+◌, Bool, true, false, List, [], ◌∷◌, length, take, drop, codes, bytes_eq, nat_eq, nat_lt, nat_le, Option, Some, None, option_map, ok_or, unwrap_or, Result, Ok, Err, if◌then◌else◌}
use Rattle.std.specs.List.{starts_with}
use Rattle.httparse.specs.Grammar.{RequestHead}
use Rattle.ledger_http.specs.declared.refusal.Refusal.{Refusal}
use Rattle.ledger_http.specs.declared.refusal.Refusal.TheVariants.{BadHead, HeadTooLarge, LengthRequired, BodyTooLarge, Truncated}
use Rattle.ledger_http.specs.Limits.{max_head, max_body}
use Rattle.ledger_http.specs.RefusalTable.{is_of_reading}
use Rattle.ledger_http.specs.Results.{and_then}
use Rattle.ledger_http.specs.Head.{IsGoodHead, stated_length, has_close}

-- two line ends
abbrev pub blank_line : List ℕ
blank_line = 13 ∷ 10 ∷ 13 ∷ 10 ∷ []

-- how long the shortest beginning is that ends in a blank line
abbrev pub end_of_head : List ℕ → Option ℕ
end_of_head [] = None
end_of_head (b ∷ bytes) =
    if starts_with nat_eq (b ∷ bytes) blank_line then Some 4
    else option_map suc (end_of_head bytes)

-- how long the head is that the bytes begin with
abbrev pub length_of_head : List ℕ → Result ℕ Refusal
length_of_head bytes =
    ok_or (end_of_head (take max_head bytes))
    (if nat_lt (length bytes) max_head then Truncated else HeadTooLarge)

-- how many bytes of what is unread its head takes; one that does not end takes as many as it may
abbrev pub head_size : List ℕ → ℕ
head_size bytes = unwrap_or (end_of_head (take max_head bytes)) max_head

-- the bytes begin with this good head, or with none
abbrev pub HasHead : List ℕ → Option RequestHead → Type 0
HasHead bytes (Some h) = (n : ℕ) × (length_of_head bytes ≡ Ok n) × IsGoodHead (take n bytes) h
HasHead bytes None =
    (n : ℕ) → length_of_head bytes ≡ Ok n → (h : RequestHead) → IsGoodHead (take n bytes) h → ⊥

-- the connection ends after the reply to the bytes' first message, as its head says
abbrev pub closes_after : Option RequestHead → Bool
closes_after (Some h) = has_close h
closes_after None = false

-- whether the head of the bytes, if they have a good one, ends the connection
abbrev pub IsClosing : List ℕ → Bool → Type 0
IsClosing bytes closes =
    (head : Option RequestHead) × HasHead bytes head × (closes ≡ closes_after head)

-- a method but GET states a length
abbrev pub length_for : List ℕ → Option ℕ → Result ℕ Refusal
length_for method (Some n) = Ok n
length_for method None = if bytes_eq method (codes "GET") then Ok 0 else Err LengthRequired

-- a body is not too long
abbrev pub at_most_max : ℕ → Result ℕ Refusal
at_most_max n = if nat_lt max_body n then Err BodyTooLarge else Ok n

-- how long the body behind a head is
abbrev pub length_of_body : RequestHead → Result ℕ Refusal
length_of_body h = and_then (length_for h.method (stated_length h)) at_most_max

-- a message and what is behind it
pub record First : Type 0 where
  pub head : RequestHead
  pub body : List ℕ
  pub bytes : List ℕ
  pub rest : List ℕ

-- the message whose head has n bytes and whose body has k
abbrev pub message_of : List ℕ → RequestHead → ℕ → ℕ → First
message_of bytes h n k = record {
  head = h;
  body = take k (drop n bytes);
  bytes = take (n + k) bytes;
  rest = drop (n + k) bytes;
}

-- that message, if the bytes hold all of it
abbrev pub cut_at : List ℕ → RequestHead → ℕ → ℕ → Result First Refusal
cut_at bytes h n k =
    if nat_le (n + k) (length bytes) then Ok (message_of bytes h n k) else Err Truncated

-- the message that the bytes begin with, or the first of five refusals
unfoldable pub first_message : List ℕ → Option RequestHead → Result First Refusal
first_message bytes head =
    and_then (length_of_head bytes) (λ n.
    and_then (ok_or head BadHead) (λ h.
    and_then (length_of_body h) (λ k. cut_at bytes h n k)))

-- what is unread begins with this message, and the rest of it is left
pub record Begins (unread message : List ℕ) (left : Option (List ℕ)) : Type 0 where
  pub head : RequestHead
  pub first : First
  pub has : HasHead unread (Some head)
  pub is : first_message unread (Some head) ≡ Ok first
  pub whole : first.bytes ≡ message
  pub rest : left ≡ Some first.rest

-- what is unread begins with no message that is taken, and is refused while it is read
pub record IsRefused (unread : List ℕ) (refusal : Refusal) : Type 0 where
  pub some : unread ≢ []
  pub early : is_of_reading refusal ≡ true
  pub head : Option RequestHead
  pub has : HasHead unread head
  pub is : first_message unread head ≡ Err refusal

-- how many bytes of what is unread go with its refusal: the head, but all of a message that is cut
-- short
abbrev pub refused_size : List ℕ → Refusal → ℕ
refused_size unread Truncated = length unread
refused_size unread refusal = head_size unread

-- what is unread begins with a good head, behind which a body of allowed length is due
pub record IsAnnounced (unread : List ℕ) : Type 0 where
  pub head : RequestHead
  pub size : ℕ
  pub has : HasHead unread (Some head)
  pub allowed : length_of_body head ≡ Ok size
