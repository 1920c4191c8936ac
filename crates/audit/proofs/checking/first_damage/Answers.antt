use Rattle.std.proofs.Common.{◌+◌, take, List, Option, ◌++◌, ◌∷◌, [], sym, ap, ◌∙◌, subst}
use Rattle.std.specs.Option.{IfNone}
use Rattle.std.proofs.lemmas.List.{take_more, take_all}
use Rattle.rows.specs.declared.all_rows.TenantOfDigest.{TenantOfDigest}
use Rattle.rows.specs.TypedRows.{lists_of}
use Rattle.audit.specs.declared.damage.Damage.{Damage}
use Rattle.audit.specs.Damage.{TellsFirst}
use Rattle.audit.specs.Sound.{AreSound}
use Rattle.audit.proofs.FirstDamage.{TellsOwn, AreAllSound, one_tenant, tells_own, one_sound, sound_own}
use Rattle.audit.proofs.checking.first_damage.Goals as goal

pub loop-tenant-preserved : goal.loop-tenant-preserved
loop-tenant-preserved c =
    let version = c.args.rows.now.version in
    let items = c.deref-tenant-items.result.now in
    let i = c.loop-tenant.tenant-index in
    let tenant = c.tenant-item.result in
    let first = c.loop-tenant.first in
    let second = c.with_digest.result in
    let all = c.deref-tenant-items.ensures.value in
    let told = subst (λ (ts : List TenantOfDigest). TellsFirst version (take i ts) first) (sym all) c.loop-tenant.invariant.0 in
    let sound = subst (λ (ts : List TenantOfDigest). IfNone first (AreAllSound version (take i ts))) (sym all) c.loop-tenant.invariant.1 in
    let own = subst (TellsOwn version tenant) (sym c.with_digest.ensures) (tells_own version tenant c.in_ok-found.found c.in_ok-found.ensures.first) in
    let own_sound = subst (λ (d : Option Damage). IfNone d (AreSound version (lists_of tenant.rows))) (sym c.with_digest.ensures) (sound_own version tenant c.in_ok-found.found c.in_ok-found.ensures.sound) in
    let seen = ap (λ (t : TenantOfDigest). take i items ++ t ∷ []) c.tenant-item.is ∙ sym (take_more items i tenant c.loop-tenant-test.true) ∙ ap (take (i + 1)) all in
    let keeps = λ (ts : List TenantOfDigest) (d : Option Damage). TellsFirst version ts d × IfNone d (AreAllSound version ts) in
    subst (λ (ts : List TenantOfDigest). keeps ts c.earlier-first.result) seen
    (subst (keeps (take i items ++ tenant ∷ [])) (sym c.earlier-first.ensures)
    (one_tenant version (take i items) tenant first second told own, one_sound version (take i items) tenant first second sound own_sound))

pub returns-clause-first : goal.returns-clause-first
returns-clause-first c =
    let i = c.loop-tenant.tenant-index in
    let all = c.deref-tenant-items.ensures.value in
    let past = take_all i c.deref-tenant-items.result.now c.loop-tenant-test.false in
    subst (λ (ts : List TenantOfDigest). TellsFirst c.args.rows.now.version ts c.loop-tenant.first) (ap (take i) (sym all) ∙ past ∙ all) c.loop-tenant.invariant.0

pub returns-clause-sound : goal.returns-clause-sound
returns-clause-sound c =
    let i = c.loop-tenant.tenant-index in
    let all = c.deref-tenant-items.ensures.value in
    let past = take_all i c.deref-tenant-items.result.now c.loop-tenant-test.false in
    subst (λ (ts : List TenantOfDigest). IfNone c.loop-tenant.first (AreAllSound c.args.rows.now.version ts)) (ap (take i) (sym all) ∙ past ∙ all) c.loop-tenant.invariant.1
