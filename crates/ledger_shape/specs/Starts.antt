-- What stands first in a list.
use Rattle.std.specs.Prelude.{◌≡◌, List, ◌++◌}

abbrev pub Starts : {A : Type 0} → List A → List A → Type 0
Starts {A} first all = (more : List A) × (all ≡ first ++ more)
