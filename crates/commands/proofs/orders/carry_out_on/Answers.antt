use Rattle.std.proofs.Common.{◌∙◌, Ok, Err, ap, refl}
use Rattle.std.proofs.lemmas.Result.{err_from_is_err_and}
use Rattle.command_texts.specs.declared.fault.Fault.TheVariants.{Unavailable}
use Rattle.commands.specs.declared.orders.Done.TheVariants.{Listed}
use Rattle.commands.proofs.OrderLemmas.{carried_as, rest_so}
use Rattle.commands.proofs.orders.carry_out_on.Goals as goal

pub returns-in-Ok : goal.returns-in-Ok
returns-in-Ok g c =
    carried_as _ _ _ _ _ (Ok (Listed c.in-Ok.tenants)) c.in-Tenants.is refl (
      rw (← c.store.view_is) c.in-Ok.ensures.value,
      rw (← c.store.view_is) (rest_so c.store.inside.backend c.tenants-listed.new.self c.tenants-listed.result c.store.invariant
          c.tenants-listed.ensures.reads),
    )

pub returns-in-Err : goal.returns-in-Err
returns-in-Err g c =
    carried_as _ _ _ _ _ (Err Unavailable) c.in-Tenants.is refl (
      (λ live. refl),
      rw (← c.store.view_is) (rest_so c.store.inside.backend c.tenants-listed.new.self c.tenants-listed.result c.store.invariant
          c.tenants-listed.ensures.reads),
    )

pub returns-in_ok-make-in-AddTenant : goal.returns-in_ok-make-in-AddTenant
returns-in_ok-make-in-AddTenant g c =
    let made = c.in_ok-make-in-AddTenant.ensures in
    carried_as _ _ _ _ _ _ c.in-AddTenant.is refl (made.told, made.moves)

pub returns-in_ok-make-in-ChangeKey : goal.returns-in_ok-make-in-ChangeKey
returns-in_ok-make-in-ChangeKey g c =
    let made = c.in_ok-make-in-ChangeKey.ensures in
    carried_as _ _ _ _ _ _ c.in-ChangeKey.is refl (made.told, made.moves)

pub returns-in-Statement : goal.returns-in-Statement
returns-in-Statement g c =
    carried_as _ _ _ _ _ _ c.in-Statement.is refl (c.read_piece.ensures.told, c.read_piece.ensures.read)

pub returns-in_err-make-in-AddTenant : goal.returns-in_err-make-in-AddTenant
returns-in_err-make-in-AddTenant g c =
    let failed = c.in_err-make-in-AddTenant.ensures in
    let is = err_from_is_err_and c.from_residual.result c.from_residual.ensures.1 in
    carried_as _ _ _ _ _ _ c.in-AddTenant.is (is.1 ∙ ap Err is.2) (failed.told, failed.moves)

pub returns-in_err-make-in-ChangeKey : goal.returns-in_err-make-in-ChangeKey
returns-in_err-make-in-ChangeKey g c =
    let failed = c.in_err-make-in-ChangeKey.ensures in
    let told = c.from_residual-in_err-make-in-ChangeKey in
    let is = err_from_is_err_and told.result told.ensures.1 in
    carried_as _ _ _ _ _ _ c.in-ChangeKey.is (is.1 ∙ ap Err is.2) (failed.told, failed.moves)
