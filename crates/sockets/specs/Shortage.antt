-- What there is to tell of a shortage.
use Rattle.std.specs.Prelude.{Bool, true, false, ◌&&◌, not, if◌then◌else◌}
use Rattle.sockets.specs.declared.shortage.Tidings.{Tidings}
use Rattle.sockets.specs.declared.shortage.Tidings.TheVariants.{Short, Accepting, Nothing}

-- that nobody is accepted, once; and once that all who waited are again
abbrev pub tidings : Bool → Bool → Bool → Tidings
tidings is_told is_closed is_anybody_waiting =
    if is_closed && not is_told then Short
    else if is_told && (not is_closed && not is_anybody_waiting) then Accepting
    else Nothing

-- whether it was told last that nobody is accepted
abbrev pub told_behind : Bool → Tidings → Bool
told_behind is_told Short = true
told_behind is_told Accepting = false
told_behind is_told Nothing = is_told
