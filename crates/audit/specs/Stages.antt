-- What is known of a tenant's rows when the kinds below a number have been looked for.
use Rattle.std.specs.Prelude.{ℕ, ◌<◌, Option, Some, None}
use Rattle.rows.specs.TypedRows.{FileRows}
use Rattle.audit.specs.declared.damage.DamageKind.{DamageKind}
use Rattle.audit.specs.declared.tenant.Found.{Found}
use Rattle.audit.specs.Damage.{kind_number, IsFirstFound}
use Rattle.audit.specs.Table.{IsWrong}

-- nothing is wrong of the kinds with lesser numbers
abbrev pub IsClearBelow : ℕ → FileRows → ℕ → Type 0
IsClearBelow version rows number =
    (kind : DamageKind) (place : ℕ) →
    kind_number kind < number → IsWrong version rows kind place → ⊥

-- the first damage, if it is of such a kind
abbrev pub FindsBelow : ℕ → FileRows → ℕ → Option Found → Type 0
FindsBelow version rows number None = IsClearBelow version rows number
FindsBelow version rows number (Some found) = IsFirstFound version rows found
