use Rattle.std.proofs.Common.{◌≡◌, List, [], ◌∷◌, ◌++◌, append-nil, append_assoc, sym, ap, subst, ◌∙◌}
use Rattle.std.specs.List.{All, AllZip}
use Rattle.std.specs.Vec.Iter.{into_iter_items}
use Rattle.std.proofs.lemmas.List.{nil_from_length}
use Rattle.std.proofs.lemmas.List.Elements.{All-head, All-tail, AllZip-push}
use Rattle.rows.specs.declared.all_rows.TenantOfDigest.{TenantOfDigest}
use Rattle.rows.specs.TypedRows.{lists_of}
use Rattle.audit.specs.Sound.{AreSound}
use Rattle.migrate.specs.Migrated.{IsMigrated}
use Rattle.migrate.proofs.newer.tenants_in_version.Goals as goal

-- what holds of all holds of one among them
among : {A : Type 0} (P : A → Type 0) (xs : List A) (x : A) (ys : List A) → All P (xs ++ x ∷ ys) → P x
among P [] x ys all = All-head P x ys all
among P (y ∷ xs) x ys all = among P xs x ys (All-tail P y (xs ++ x ∷ ys) all)

pub loop-tenant-init : goal.loop-tenant-init
loop-tenant-init c = (
  tt,
  tt,
  c.into_iter-tenant-iterator.ensures.into_iter_gives.0,
  subst (AllZip (IsMigrated c.args.version c.args.to) []) (sym c.new-newer.ensures.items) tt,
)

pub tenant_in_version-requires-clause-sound : goal.tenant_in_version-requires-clause-sound
tenant_in_version-requires-clause-sound c =
    among (λ (t : TenantOfDigest). AreSound c.args.version (lists_of t.rows)) c.loop-tenant.yielded c.in-Some.tenant (into_iter_items c.next.new.self)
    (subst (All (λ (t : TenantOfDigest). AreSound c.args.version (lists_of t.rows)))
    (sym c.loop-tenant.invariant.2 ∙ ap (λ xs. c.loop-tenant.yielded ++ xs) c.in-Some.ensures.steps.0) c.requires.sound)

pub loop-tenant-preserved : goal.loop-tenant-preserved
loop-tenant-preserved c =
    let seen = c.loop-tenant.yielded in
    let tenant = c.in-Some.tenant in
    let rest = into_iter_items c.next.new.self in
    let R = IsMigrated c.args.version c.args.to in (
      tt,
      tt,
      append_assoc seen (tenant ∷ []) rest ∙ ap (λ xs. seen ++ xs) (sym c.in-Some.ensures.steps.0) ∙ c.loop-tenant.invariant.2,
      subst (AllZip R (seen ++ tenant ∷ [])) (sym c.in_ok-push.ensures.items)
          (AllZip-push R seen c.loop-tenant.newer.items tenant c.in_ok-migrated.migrated c.loop-tenant.invariant.3 c.in_ok-migrated.ensures),
    )

pub returns : goal.returns
returns c =
    let seen = c.loop-tenant.yielded in
    let left = into_iter_items c.loop-tenant.tenant-iterator in
    let none : left ≡ [] = nil_from_length left (sym c.loop-tenant.tenant-iterator.rest.ok.0 ∙ c.in-None.ensures.steps.0) in
    let all : seen ≡ c.args.tenants.items = sym (append-nil seen) ∙ ap (λ xs. seen ++ xs) (sym none) ∙ c.loop-tenant.invariant.2 in
    subst (λ xs. AllZip (IsMigrated c.args.version c.args.to) xs c.loop-tenant.newer.items) all c.loop-tenant.invariant.3
