-- What is to be done where serving is to end.
use Rattle.std.specs.Prelude.{◌≡◌, ◌-◌, ℕ, Bool, true, false, Option, None, Some, nat_le, if◌then◌else◌}
use Rattle.std.specs.Duration.{as_nanos}
use Rattle.std.specs.declared.time.Duration.{Duration}
use Rattle.sockets.specs.Stages.{behind}
use Rattle.sockets.specs.declared.closing.Phase.{Phase}
use Rattle.sockets.specs.declared.closing.Phase.TheVariants.{Serves, Begins, Closes, Ends}

-- everybody is served, until an operator asks to stop; and then, up to a moment, who had sent
-- something
abbrev pub phase : Option Duration → Bool → Duration → Phase
phase None is_stopping seen = if is_stopping then Begins else Serves
phase (Some until) is_stopping seen =
    if nat_le (as_nanos until) (as_nanos seen) then Ends else Closes

-- that moment is a second behind the one at which it was asked first, and stays
abbrev pub IsUntil : Option Duration → Bool → Duration → Option Duration → Type 0
IsUntil None false seen new = new ≡ None
IsUntil None true seen None = ⊥
IsUntil None true seen (Some until) = as_nanos until ≡ behind seen 1_000_000_000
IsUntil (Some until) is_stopping seen new = new ≡ Some until

-- how much time is left up to that moment, in nanoseconds
abbrev pub left : Option Duration → Duration → ℕ
left None seen = 0
left (Some until) seen = as_nanos until - as_nanos seen

-- that moment is past, whatever the moment is
abbrev pub IsMomentPast : Option Duration → Type 0
IsMomentPast None = ⊥
IsMomentPast (Some until) = as_nanos until ≡ 0
