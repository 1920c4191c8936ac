use Rattle.std.proofs.Common.{◌≡◌, ◌∙◌, sym}
use Rattle.sqlite_schema.specs.Code.{terms_in}
use Rattle.ledger_shape.proofs.checks.fit_checks.Goals as goal

pub returns : goal.returns
returns c =
    let same : c.args.checks.now ≡ terms_in c.as_slice.result.now c.as_slice-2.result.now = cc in
    (λ fits. same ∙ c.fit_roots.ensures.0 fits, λ e. c.fit_roots.ensures.1 (sym same ∙ e))
