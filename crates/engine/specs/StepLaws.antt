-- What a batch leaves of a machine.
use Rattle.std.specs.Prelude.{ℕ, ◌≤◌, All, List, length}
use Rattle.records.specs.Machine.{Machine}
use Rattle.records.specs.Chains.{Rules}
use Rattle.records.specs.Step.{step_machine}
use Rattle.records.specs.Valid.{IsValid}
use Rattle.records.specs.Later.{IsLater}

-- every batch at every moment leads to a later machine
abbrev pub LeadsToLater : {E R : Type 0} → Rules E R → Type 0
LeadsToLater {E} rules =
    (m : Machine) (batch : List E) (moment : ℕ) → IsLater m (step_machine rules m batch moment)

-- a batch of at most 1,000 events within their widths leads from a valid machine to a valid one
abbrev pub StaysValid : {E R : Type 0} → Rules E R → (E → Type 0) → Type 0
StaysValid {E} rules IsInWidth =
    (m : Machine) (batch : List E) (moment : ℕ) →
    IsValid m → length batch ≤ 1000 → All IsInWidth batch →
    IsValid (step_machine rules m batch moment)
