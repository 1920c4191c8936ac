-- The columns of the tables that no tenant owns. The first is the rowid, so it is NULL in the row.
use Rattle.std.specs.Prelude.{ℕ, ℤ, List, [], ◌∷◌}
use Rattle.sqlite_value.specs.declared.value.Value.TheVariants.{Null, Int, Text, Blob}
use Rattle.sqlite_value.specs.Order.{Row}

abbrev pub version_columns : ℤ → Row
version_columns version = Null ∷ Int version ∷ []

abbrev pub clock_columns : ℤ → Row
clock_columns clock = Null ∷ Int clock ∷ []

abbrev pub tenant_columns : List ℕ → List ℕ → Row
tenant_columns name digest = Null ∷ Text name ∷ Blob digest ∷ []
