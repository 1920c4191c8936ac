-- What is found behind the entries, where the clock and the failed ids are those that are held.
use Rattle.std.proofs.Common.{◌≡◌, ℕ, Bool, List, Option, Some, None, refl, subst, arith}
use Rattle.std.specs.Bool.{Decides}
use Rattle.rows.specs.TypedRows.{TypedRows, FileRows}
use Rattle.running.specs.declared.running.Running.{Running}
use Rattle.running.specs.Entries.{CanCome, machine_of}
use Rattle.running.specs.Running.{IsRunning}
use Rattle.audit.specs.declared.damage.DamageKind.TheVariants as kind
use Rattle.audit.specs.declared.told.Told.{Told}
use Rattle.audit.specs.Held.{Holds}
use Rattle.audit.specs.Laws.{OneReading}
use Rattle.audit.specs.Order.{IsFirstPlace}
use Rattle.audit.specs.Stages.{IsClearBelow}
use Rattle.audit.specs.Table.{IsWrong, IsBadFailed}
use Rattle.audit.specs.Told.{TellsRows, entries_told, told_at, machine_told}
use Rattle.audit.proofs.Stages.{first_of_told, still_clear}

pub settled : (typed : TypedRows) (told : Told) (r : Running) → Holds told typed → IsRunning (told_at (machine_of (entries_told typed)) told.clock) r → IsRunning (machine_told typed) r
settled typed told r holds is = subst (λ (n : ℕ). IsRunning (told_at (machine_of (entries_told typed)) n) r) holds.clock is

pub comes : (typed : TypedRows) (told : Told) (came : Bool) → Holds told typed → Decides came (CanCome (machine_of (entries_told typed)) told.clock) → Decides came (CanCome (machine_of (entries_told typed)) typed.clock)
comes typed told came holds is = subst (λ (n : ℕ). Decides came (CanCome (machine_of (entries_told typed)) n)) holds.clock is

pub bad_clock : OneReading → (version : ℕ) (rows : FileRows) (typed : TypedRows) → TellsRows rows typed → (CanCome (machine_of (entries_told typed)) typed.clock → ⊥) → IsFirstPlace (IsWrong version rows kind.Clock) (Some 0)
bad_clock one version rows typed tells cannot =
    first_of_told one version rows typed kind.Clock (Some 0) tells ((refl, cannot), λ place less wrong. absurd (omega (arith, less)))

pub clear_of_clock : OneReading → (version : ℕ) (rows : FileRows) (typed : TypedRows) → TellsRows rows typed → CanCome (machine_of (entries_told typed)) typed.clock → IsClearBelow version rows 7 → IsClearBelow version rows 8
clear_of_clock one version rows typed tells can clear =
    still_clear version rows kind.Clock None clear (first_of_told one version rows typed kind.Clock None tells (λ place wrong. wrong.1 can)) refl

pub bad_failed : OneReading → (version : ℕ) (rows : FileRows) (typed : TypedRows) (ids : List ℕ) (first : Option ℕ) → TellsRows rows typed → ids ≡ typed.failed → IsFirstPlace (IsBadFailed version (machine_told typed) ids) first → IsFirstPlace (IsWrong version rows kind.FailedId) first
bad_failed one version rows typed ids first tells same is =
    first_of_told one version rows typed kind.FailedId first tells (subst (λ (xs : List ℕ). IsFirstPlace (IsBadFailed version (machine_told typed) xs) first) same is)
