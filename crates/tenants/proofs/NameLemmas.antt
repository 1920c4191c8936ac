use Rattle.std.proofs.Common.{◌≡◌, ℕ, ◌<◌, true, List, arith}
use Rattle.std.specs.Prelude.{IsUtf8}
use Rattle.std.proofs.lemmas.Bool.Decides.{nat_tests}
use Rattle.std.proofs.lemmas.List.Elements.{All-weaker}
use Rattle.std.proofs.lemmas.Str.{IsUtf8-from_ascii}
use Rattle.std.proofs.lemmas.Str.Ascii.{IsAscii-from_all}
use Rattle.tenants.specs.NameText.{is_name_byte, IsTenantName}

-- a byte of a name is ASCII
name_byte-small : (byte : ℕ) → is_name_byte byte ≡ true → byte < 128
name_byte-small byte h = grind (arith, nat_tests)

-- a name is text
pub IsUtf8-name : (text : List ℕ) → IsTenantName text → IsUtf8 text
IsUtf8-name text h =
    IsUtf8-from_ascii text (IsAscii-from_all text (All-weaker _ _ name_byte-small text h.bytes))
