-- What a body tells of a copy.
use Rattle.std.specs.Prelude.{ℕ, List, codes, Option}
use Rattle.control.specs.Bodies.{text_told}

-- how many bytes it has, as a text
abbrev pub copied_text : List ℕ → Option (List ℕ)
copied_text body = text_told (codes "copied") body
