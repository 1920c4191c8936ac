-- The refusals, in the order in which they are tested.
use Rattle.std.specs.Prelude.{ℕ, Bool, true, false, List, codes}
use Rattle.ledger_http.specs.declared.refusal.Refusal.{Refusal}
use Rattle.ledger_http.specs.declared.refusal.Refusal.TheVariants.{BadHead, HeadTooLarge, LengthRequired, BodyTooLarge, Truncated, NoRoute, BadMethod, UnknownKey, BodyNotJson, BadField, TooManyEvents, NoAccount, NoHistory, ClockExhausted, Unavailable}

-- the status and the name of a refusal
pub record Row : Type 0 where
  pub status : ℕ
  pub name : List ℕ

-- the table
abbrev pub row_of : Refusal → Row
row_of BadHead = record { status = 400; name = codes "bad_head" }
row_of HeadTooLarge = record { status = 431; name = codes "head_too_large" }
row_of LengthRequired = record { status = 411; name = codes "length_required" }
row_of BodyTooLarge = record { status = 413; name = codes "body_too_large" }
row_of Truncated = record { status = 400; name = codes "truncated" }
row_of NoRoute = record { status = 404; name = codes "no_route" }
row_of BadMethod = record { status = 405; name = codes "bad_method" }
row_of UnknownKey = record { status = 401; name = codes "unknown_key" }
row_of BodyNotJson = record { status = 400; name = codes "body_not_json" }
row_of BadField = record { status = 400; name = codes "bad_field" }
row_of TooManyEvents = record { status = 413; name = codes "too_many_events" }
row_of NoAccount = record { status = 404; name = codes "no_account" }
row_of NoHistory = record { status = 409; name = codes "no_history" }
row_of ClockExhausted = record { status = 503; name = codes "clock_exhausted" }
row_of Unavailable = record { status = 503; name = codes "unavailable" }

-- the status of a refusal
abbrev pub status_of : Refusal → ℕ
status_of refusal = (row_of refusal).status

-- its name
abbrev pub name_of : Refusal → List ℕ
name_of refusal = (row_of refusal).name

-- whether it is one of those that are told while a message is read
abbrev pub is_of_reading : Refusal → Bool
is_of_reading BadHead = true
is_of_reading HeadTooLarge = true
is_of_reading LengthRequired = true
is_of_reading BodyTooLarge = true
is_of_reading Truncated = true
is_of_reading refusal = false
