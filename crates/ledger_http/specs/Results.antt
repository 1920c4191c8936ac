-- One test after another.
use Rattle.std.specs.Prelude.{Result, Ok, Err}

-- what f makes of the value, or the error that there is
abbrev pub and_then : {T U E : Type 0} → Result T E → (T → Result U E) → Result U E
and_then (Ok x) f = f x
and_then (Err e) f = Err e
