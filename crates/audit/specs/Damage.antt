-- The damage that is told of all tenants: the least kind, of it the first digest in the order of
-- bytes, of that the least place.
use Rattle.std.specs.Prelude.{◌≡◌, ◌≢◌, ℕ, List, Any, Option, Some, None}
use Rattle.std.specs.declared.cmp.Ordering.{Ordering}
use Rattle.std.specs.declared.cmp.Ordering.TheVariants.{Less, Equal, Greater}
use Rattle.std.specs.Cmp.Lexicographic.{slice_cmp}
use Rattle.std.specs.Ordering.{nat_cmp, ordering_then}
use Rattle.rows.specs.declared.all_rows.TenantOfDigest.{TenantOfDigest}
use Rattle.rows.specs.TypedRows.{FileRows, lists_of}
use Rattle.audit.specs.declared.damage.Damage.{Damage}
use Rattle.audit.specs.declared.damage.DamageKind.{DamageKind}
use Rattle.audit.specs.declared.damage.DamageKind.TheVariants as kind
use Rattle.audit.specs.declared.damage.AuditFault.{AuditFault}
use Rattle.audit.specs.declared.damage.AuditFault.TheVariants.{Damaged, Memory}
use Rattle.audit.specs.declared.tenant.Found.{Found}
use Rattle.audit.specs.Table.{IsWrong}

-- the number of a kind
abbrev pub kind_number : DamageKind → ℕ
kind_number kind.Shape = 1
kind_number kind.Timestamp = 2
kind_number kind.Entry = 3
kind_number kind.Balance = 4
kind_number kind.Status = 5
kind_number kind.History = 6
kind_number kind.Clock = 7
kind_number kind.FailedId = 8

-- the order in which damage is told: by kind, then by digest, then by place
abbrev pub damage_cmp : Damage → Damage → Ordering
damage_cmp a b =
    ordering_then (nat_cmp (kind_number a.kind) (kind_number b.kind))
    (ordering_then (slice_cmp nat_cmp a.digest b.digest) (nat_cmp a.place b.place))

-- a tenant of this digest has this kind at this place
abbrev pub IsDamage : ℕ → List TenantOfDigest → Damage → Type 0
IsDamage version tenants damage =
    Any (λ tenant.
    (tenant.digest ≡ damage.digest)
    × IsWrong version (lists_of tenant.rows) damage.kind damage.place) tenants

-- the first of all damage
pub record IsFirstDamage
    (version : ℕ) (tenants : List TenantOfDigest) (damage : Damage) : Type 0 where
  pub is : IsDamage version tenants damage
  pub first : (other : Damage) → IsDamage version tenants other → damage_cmp other damage ≢ Less

-- what is told of all tenants, if there is any damage
abbrev pub TellsFirst : ℕ → List TenantOfDigest → Option Damage → Type 0
TellsFirst version tenants None = (damage : Damage) → IsDamage version tenants damage → ⊥
TellsFirst version tenants (Some damage) = IsFirstDamage version tenants damage

-- a fact of the damage that is told, if it is
abbrev pub IfDamaged : AuditFault → (Damage → Type 0) → Type 0
IfDamaged (Damaged damage) P = P damage
IfDamaged Memory P = Unit {0}

-- the first damage of one tenant
pub record IsFirstFound (version : ℕ) (rows : FileRows) (found : Found) : Type 0 where
  pub is : IsWrong version rows found.kind found.place
  pub first :
      (other : Found) → IsWrong version rows other.kind other.place →
      ordering_then (nat_cmp (kind_number other.kind) (kind_number found.kind))
      (nat_cmp other.place found.place) ≢ Less

-- what is found in a tenant's rows, if they are damaged
abbrev pub FindsWrong : ℕ → FileRows → Option Found → Type 0
FindsWrong version rows None = (kind : DamageKind) (place : ℕ) → IsWrong version rows kind place → ⊥
FindsWrong version rows (Some found) = IsFirstFound version rows found

-- the earlier of two, or the first where they are the same
abbrev pub earlier_of : Ordering → Damage → Damage → Damage
earlier_of Less first second = second
earlier_of Equal first second = first
earlier_of Greater first second = first

-- where there is one
abbrev pub earlier : Option Damage → Option Damage → Option Damage
earlier None second = second
earlier (Some first) None = Some first
earlier (Some first) (Some second) = Some (earlier_of (damage_cmp second first) first second)

-- what is found in a tenant's rows, with its digest
abbrev pub with_digest : List ℕ → Found → Damage
with_digest digest found = record { kind = found.kind; digest = digest; place = found.place }
