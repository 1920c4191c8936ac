use Rattle.std.specs.Prelude.{ℕ, ◌+◌, ◌*◌, ◌==◌, ◌&&◌, if◌then◌else◌, Bool, List, [], ◌∷◌, length, Option, Some, None, unwrap_or}
use Rattle.std.specs.List.{list_all}
use Rattle.hex.specs.Hex.{hex_digit_value, is_hex_digit}

-- whether a text is 64 hexadecimal digits of either case
abbrev pub is_key_text : List ℕ → Bool
is_key_text text = length text == 64 && list_all is_hex_digit text

-- the value of a hexadecimal digit of either case
abbrev pub value_of_digit : ℕ → ℕ
value_of_digit digit = unwrap_or (hex_digit_value digit) 0

-- the bytes that digits name, two digits a byte, the greater digit first
unfoldable pub bytes_of_digits : List ℕ → List ℕ
bytes_of_digits (high ∷ low ∷ rest) =
    (16 * value_of_digit high + value_of_digit low) ∷ bytes_of_digits rest
bytes_of_digits (digit ∷ []) = []
bytes_of_digits [] = []

-- the bytes of the key that a text names; a text that is not 64 hexadecimal digits names none
unfoldable pub key_of : List ℕ → Option (List ℕ)
key_of text = if is_key_text text then Some (bytes_of_digits text) else None
