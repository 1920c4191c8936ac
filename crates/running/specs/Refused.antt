-- Where a replay is refused.
use Rattle.std.specs.Prelude.{ℕ}
use Rattle.running.specs.declared.replaying.ReplayFault.{ReplayFault}
use Rattle.running.specs.declared.replaying.ReplayFault.TheVariants.{Refused, Memory}

-- a fact of the place of the entry that was refused, if one was
abbrev pub IfRefused : ReplayFault → (ℕ → Type 0) → Type 0
IfRefused (Refused place) P = P place
IfRefused Memory P = Unit {0}
