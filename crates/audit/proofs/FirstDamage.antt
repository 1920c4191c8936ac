-- The first damage of tenants, as one tenant more is looked at.
use Rattle.std.proofs.Common.{◌≡◌, ◌≢◌, ℕ, true, false, ◌⊎◌, List, [], ◌∷◌, ◌++◌, Option, Some, None, inl, inr, refl, sym, ap, ◌∙◌, subst}
use Rattle.std.specs.Cmp.{IsTotalOrder}
use Rattle.std.specs.Cmp.Lexicographic.{slice_cmp}
use Rattle.std.specs.declared.cmp.Ordering.{Ordering}
use Rattle.std.specs.declared.cmp.Ordering.TheVariants.{Less, Equal, Greater}
use Rattle.std.specs.List.{All, Any, Contains}
use Rattle.std.specs.Option.{option_map, IfNone}
use Rattle.std.specs.Ordering.{nat_cmp, ordering_then, ordering_reverse, is_gt}
use Rattle.std.proofs.lemmas.Bool.{both_ways}
use Rattle.std.proofs.lemmas.Cmp.{nat_cmp_total, nat_list_cmp_total, on_total, then_total, tied_itself, upto}
use Rattle.std.proofs.lemmas.List.Elements.{Contains-append_left, Contains-push, Contains-push_cases, All-push}
use Rattle.rows.specs.declared.all_rows.TenantOfDigest.{TenantOfDigest}
use Rattle.rows.specs.TypedRows.{lists_of}
use Rattle.audit.specs.declared.damage.Damage.{Damage}
use Rattle.audit.specs.declared.tenant.Found.{Found}
use Rattle.audit.specs.Damage.{kind_number, damage_cmp, IsDamage, IsFirstDamage, TellsFirst, FindsWrong, earlier_of, earlier, with_digest}
use Rattle.audit.specs.Sound.{AreSound}
use Rattle.audit.specs.Table.{IsWrong}

damage_total : IsTotalOrder damage_cmp
damage_total = then_total (on_total (λ (d : Damage). kind_number d.kind) nat_cmp_total) (then_total (on_total (λ (d : Damage). d.digest) nat_list_cmp_total) (on_total (λ (d : Damage). d.place) nat_cmp_total))

-- what does not come before is not after what comes before it
turned : (r : Ordering) → r ≢ Less → is_gt (ordering_reverse r) ≡ false
turned Less not = absurd (not refl)
turned Equal not = refl
turned Greater not = refl

back : (r : Ordering) → is_gt (ordering_reverse r) ≡ false → r ≢ Less
back Less not is = absurd (both_ways true not refl)
back Equal not is = absurd cc
back Greater not is = absurd cc

not_after : (a b : Damage) → damage_cmp b a ≢ Less → is_gt (damage_cmp a b) ≡ false
not_after a b not = ap is_gt (damage_total.antisymm a b) ∙ turned (damage_cmp b a) not

not_before : (a b c : Damage) → damage_cmp b a ≢ Less → damage_cmp c b ≢ Less → damage_cmp c a ≢ Less
not_before a b c first second =
    back (damage_cmp c a) (ap is_gt (sym (damage_total.antisymm a c)) ∙ upto damage_total a b c (not_after a b first) (not_after b c second))

less_back : (a b : Damage) → damage_cmp a b ≡ Less → damage_cmp b a ≢ Less
less_back a b less is = let e = damage_total.antisymm a b in let f = ap ordering_reverse is in absurd cc

-- a tenant of the list
any_of : {A : Type 0} (P : A → Type 0) (xs : List A) → Any P xs → (x : A) × Contains xs x × P x
any_of P xs any = (any.1, (any.0, any.2, any.3), any.4)

of_any : {A : Type 0} (P : A → Type 0) (xs : List A) (x : A) → Contains xs x → P x → Any P xs
of_any P xs x has p = (has.0, x, has.1, has.2, p)

-- what is wrong in one tenant's rows
abbrev pub IsOwn : ℕ → TenantOfDigest → Damage → Type 0
IsOwn version tenant damage = (tenant.digest ≡ damage.digest) × IsWrong version (lists_of tenant.rows) damage.kind damage.place

abbrev pub TellsOwn : ℕ → TenantOfDigest → Option Damage → Type 0
TellsOwn version tenant None = (damage : Damage) → IsOwn version tenant damage → ⊥
TellsOwn version tenant (Some damage) = IsOwn version tenant damage × ((other : Damage) → IsOwn version tenant other → damage_cmp other damage ≢ Less)

of_one : (version : ℕ) (tenants : List TenantOfDigest) (tenant : TenantOfDigest) (damage : Damage) → IsDamage version (tenants ++ tenant ∷ []) damage → IsDamage version tenants damage ⊎ IsOwn version tenant damage
of_one version tenants tenant damage is =
    let P = λ (t : TenantOfDigest). IsOwn version t damage in
    let any = any_of P (tenants ++ tenant ∷ []) is in
    elim (Contains-push_cases tenants tenant any.0 any.1) [
      | inl has ↦ inl (of_any P tenants any.0 has any.2)
      | inr same ↦ inr (subst P (sym same) any.2)
    ]

still : (version : ℕ) (tenants : List TenantOfDigest) (tenant : TenantOfDigest) (damage : Damage) → IsDamage version tenants damage → IsDamage version (tenants ++ tenant ∷ []) damage
still version tenants tenant damage is =
    let P = λ (t : TenantOfDigest). IsOwn version t damage in
    let any = any_of P tenants is in
    of_any P (tenants ++ tenant ∷ []) any.0 (Contains-append_left tenants (tenant ∷ []) any.0 any.1) any.2

own : (version : ℕ) (tenants : List TenantOfDigest) (tenant : TenantOfDigest) (damage : Damage) → IsOwn version tenant damage → IsDamage version (tenants ++ tenant ∷ []) damage
own version tenants tenant damage is = of_any (λ (t : TenantOfDigest). IsOwn version t damage) (tenants ++ tenant ∷ []) tenant (Contains-push tenants tenant) is

-- one tenant more
stays_first : (version : ℕ) (tenants : List TenantOfDigest) (tenant : TenantOfDigest) (first second : Damage) → damage_cmp second first ≢ Less → IsFirstDamage version tenants first → TellsOwn version tenant (Some second) → IsFirstDamage version (tenants ++ tenant ∷ []) first
stays_first version tenants tenant first second not old new = record {
  is = still version tenants tenant first old.is;
  first = λ other wrong.
      elim (of_one version tenants tenant other wrong) [
        | inl w ↦ old.first other w
        | inr w ↦ not_before first second other not (new.1 other w)
      ];
}

by_order : (version : ℕ) (tenants : List TenantOfDigest) (tenant : TenantOfDigest) (first second : Damage) (r : Ordering) → damage_cmp second first ≡ r → IsFirstDamage version tenants first → TellsOwn version tenant (Some second) → IsFirstDamage version (tenants ++ tenant ∷ []) (earlier_of r first second)
by_order version tenants tenant first second Less is old new = record {
  is = own version tenants tenant second new.0;
  first = λ other wrong.
      elim (of_one version tenants tenant other wrong) [
        | inl w ↦ not_before second first other (less_back second first is) (old.first other w)
        | inr w ↦ new.1 other w
      ];
}
by_order version tenants tenant first second Equal is old new = stays_first version tenants tenant first second (λ less. absurd cc) old new
by_order version tenants tenant first second Greater is old new = stays_first version tenants tenant first second (λ less. absurd cc) old new

pub one_tenant : (version : ℕ) (tenants : List TenantOfDigest) (tenant : TenantOfDigest) (first second : Option Damage) → TellsFirst version tenants first → TellsOwn version tenant second → TellsFirst version (tenants ++ tenant ∷ []) (earlier first second)
one_tenant version tenants tenant None None old new = λ damage wrong. elim (of_one version tenants tenant damage wrong) [ inl w ↦ old damage w | inr w ↦ new damage w ]
one_tenant version tenants tenant None (Some second) old new = record {
  is = own version tenants tenant second new.0;
  first = λ other wrong. elim (of_one version tenants tenant other wrong) [ inl w ↦ absurd (old other w) | inr w ↦ new.1 other w ];
}
one_tenant version tenants tenant (Some first) None old new = record {
  is = still version tenants tenant first old.is;
  first = λ other wrong. elim (of_one version tenants tenant other wrong) [ inl w ↦ old.first other w | inr w ↦ absurd (new other w) ];
}
one_tenant version tenants tenant (Some first) (Some second) old new = by_order version tenants tenant first second (damage_cmp second first) refl old new

in_digest : (k d p : Ordering) → d ≡ Equal → ordering_then k p ≢ Less → ordering_then k (ordering_then d p) ≢ Less
in_digest k d p same not = subst (λ (r : Ordering). ordering_then k (ordering_then r p) ≢ Less) (sym same) not

pub tells_own : (version : ℕ) (tenant : TenantOfDigest) (found : Option Found) → FindsWrong version (lists_of tenant.rows) found → TellsOwn version tenant (option_map (with_digest tenant.digest) found)
tells_own version tenant None none = λ damage wrong. none damage.kind damage.place wrong.1
tells_own version tenant (Some found) first = (
  (refl, first.is),
  λ other wrong.
      in_digest (nat_cmp (kind_number other.kind) (kind_number found.kind)) (slice_cmp nat_cmp other.digest tenant.digest) (nat_cmp other.place found.place)
      (subst (λ (d : List ℕ). slice_cmp nat_cmp d tenant.digest ≡ Equal) wrong.0 (tied_itself nat_list_cmp_total tenant.digest))
      (first.first (record { kind = other.kind; place = other.place }) wrong.1),
)

-- and one sound tenant more, where nothing is told
abbrev pub AreAllSound : ℕ → List TenantOfDigest → Type 0
AreAllSound version tenants = All (λ tenant. AreSound version (lists_of tenant.rows)) tenants

pub one_sound : (version : ℕ) (tenants : List TenantOfDigest) (tenant : TenantOfDigest) (first second : Option Damage) → IfNone first (AreAllSound version tenants) → IfNone second (AreSound version (lists_of tenant.rows)) → IfNone (earlier first second) (AreAllSound version (tenants ++ tenant ∷ []))
one_sound version tenants tenant None None old new = All-push (λ (t : TenantOfDigest). AreSound version (lists_of t.rows)) tenants tenant old new
one_sound version tenants tenant None (Some second) old new = tt
one_sound version tenants tenant (Some first) None old new = tt
one_sound version tenants tenant (Some first) (Some second) old new = tt

pub sound_own : (version : ℕ) (tenant : TenantOfDigest) (found : Option Found) → IfNone found (AreSound version (lists_of tenant.rows)) → IfNone (option_map (with_digest tenant.digest) found) (AreSound version (lists_of tenant.rows))
sound_own version tenant None sound = sound
sound_own version tenant (Some found) sound = tt
