-- Numbers in the members of an object.
use Rattle.std.specs.Prelude.{ℕ, List, Option, option_and_then}
use Rattle.serde_json.specs.Data.{Data}
use Rattle.wire.specs.Fields.{number_below}
use Rattle.control.specs.Members.{text_at}

-- the number below a bound whose canonical decimal a text is
abbrev pub number_in : ℕ → List ℕ → Option ℕ
number_in bound text = number_below bound text

-- the same of a member's text
abbrev pub number_at : ℕ → List ℕ → Data → Option ℕ
number_at bound name d = option_and_then (number_in bound) (text_at name d)
