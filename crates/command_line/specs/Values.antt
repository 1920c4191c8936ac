-- What the matches of a command hold.
use Rattle.std.specs.Prelude.{ℕ, Bool, List, None, Some, ◌≡◌, ◌⊎◌, ◌<◌, ◌^◌, IsSome, codes, false}
use Rattle.std.specs.Prelude.{Option, option_map, unwrap_or}
use Rattle.std.specs.Borrow.{Bor}
use Rattle.std.specs.Option.{option_map_or}
use Rattle.std.specs.Str.{bytes_eq}
use Rattle.std.specs.Str.Parse.{IsNumeral, digits_value, without_leading_plus}
use Rattle.clap.specs.Words.{Row, Text, first_of, one_of}

-- the value of an option, as it was written
abbrev pub HasText : List Row → Text → Text → Type 0
HasText rows name text = first_of name rows ≡ Some text

-- an option has a text
abbrev pub HasSomeText : List Row → Text → Type 0
HasSomeText rows name = IsSome (first_of name rows)

-- a text, if there is one
abbrev pub text_in : Option (Bor Text) → Option Text
text_in found = option_map (λ text. text.now) found

-- the value of an option that may be left out
abbrev pub HasFreeText : List Row → Text → Option Text → Type 0
HasFreeText rows name text = text ≡ first_of name rows

-- the number that a text is read as, which may have a plus before it
abbrev pub number_of : Text → ℕ
number_of text = digits_value 10 (without_leading_plus text)

-- the value of an option, as a number
abbrev pub HasNumber : List Row → Text → ℕ → Type 0
HasNumber rows name n = option_map number_of (one_of name rows) ≡ Some n

-- the option has a value, and it is a number below the bound
pub record HasNumberBelow (rows : List Row) (name : Text) (bound : ℕ) : Type 0 where
  pub text : Text
  pub read : one_of name rows ≡ Some text
  pub numeral : IsNumeral 10 (without_leading_plus text)
  pub below : number_of text < bound

-- the value of an option that may be left out, as a number
abbrev pub HasFreeNumber : List Row → Text → Option ℕ → Type 0
HasFreeNumber rows name n = n ≡ option_map number_of (one_of name rows)

-- the same, with a number where it is left out
abbrev pub HasNumberOr : List Row → Text → ℕ → ℕ → Type 0
HasNumberOr rows name usual n = n ≡ unwrap_or (option_map number_of (one_of name rows)) usual

-- what stands for an option that may be left out is nothing, or a number below 2^64
abbrev pub IsFreeNumber : List Row → Text → Type 0
IsFreeNumber rows name = (one_of name rows ≡ None) ⊎ HasNumberBelow rows name (2 ^ 64)

-- the flag was given
abbrev pub has_flag : List Row → Text → Bool
has_flag rows name = option_map_or (λ text. bytes_eq text (codes "true")) (one_of name rows) false

-- what stands for a flag is nothing, `true` or `false`
abbrev pub IsFlag : List Row → Text → Type 0
IsFlag rows name = (one_of name rows ≡ None)
    ⊎ ((one_of name rows ≡ Some (codes "true")) ⊎ (one_of name rows ≡ Some (codes "false")))

-- each limit of serve is a number where it is there
pub record FillsLimits (rows : List Row) : Type 0 where
  pub clients : IsFreeNumber rows (codes "clients")
  pub room : IsFreeNumber rows (codes "room")
  pub idle : IsFreeNumber rows (codes "idle")
  pub message : IsFreeNumber rows (codes "message")
  pub reply : IsFreeNumber rows (codes "reply")

-- the values of serve are there, beside the file
pub record FillsServe (rows : List Row) : Type 0 where
  pub port : HasNumberBelow rows (codes "port") (2 ^ 16)
  pub requests : IsFreeNumber rows (codes "requests")
  pub standby : IsFlag rows (codes "standby")
  pub limits : FillsLimits rows

-- the values of statement are
pub record FillsStatement (rows : List Row) : Type 0 where
  pub tenant : HasSomeText rows (codes "tenant")
  pub account : HasSomeText rows (codes "account")
  pub reversed : IsFlag rows (codes "reversed")
  pub balances : IsFlag rows (codes "balances")
  pub wide : IsFlag rows (codes "wide")

-- the name is that of a command over a store, and each value is there that it must have beside the file
abbrev pub IsFilledOver : Text → List Row → Type 0
IsFilledOver name rows = ((name ≡ codes "serve") × FillsServe rows)
    ⊎ (((name ≡ codes "tenant-add") × HasSomeText rows (codes "name"))
    ⊎ (((name ≡ codes "tenant-key") × HasSomeText rows (codes "name"))
    ⊎ ((name ≡ codes "tenants")
    ⊎ (((name ≡ codes "status") × IsFlag rows (codes "prometheus"))
    ⊎ ((name ≡ codes "stop")
    ⊎ (((name ≡ codes "statement") × FillsStatement rows)
    ⊎ ((name ≡ codes "check")
    ⊎ (((name ≡ codes "migrate") × HasSomeText rows (codes "to"))
    ⊎ ((name ≡ codes "copy") × HasSomeText rows (codes "to"))))))))))

-- the name is a command's, and each value is there that it must have
abbrev pub IsFilled : Text → List Row → Type 0
IsFilled name rows = (name ≡ codes "lint")
    ⊎ ((name ≡ codes "version")
    ⊎ (HasSomeText rows (codes "db") × IsFilledOver name rows))
