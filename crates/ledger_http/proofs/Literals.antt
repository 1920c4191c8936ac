use Rattle.std.specs.Prelude.{⊤}
use Rattle.std.specs.Fmt.{digits}

-- what an answer unfolds to compute the text of a reply whose parts are literals
unfoldable pub reply_on_literals : ⊤
unfolding digits
reply_on_literals = tt
