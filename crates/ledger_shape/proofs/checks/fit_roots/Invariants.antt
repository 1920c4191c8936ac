use Rattle.sqlite_schema.specs.Code.{terms_in}
use Rattle.ledger_shape.specs.Forms.{check_for}
use Rattle.ledger_shape.proofs.FitLemmas.{IsLeft}
use Rattle.ledger_shape.proofs.checks.fit_roots.Given as goal

abbrev pub invariant-loop-form : goal.invariant-loop-form
invariant-loop-form l =
    IsLeft check_for l.forms (terms_in l.nodes l.roots) l.form-iterator.a.rest.now
    (terms_in l.nodes l.form-iterator.b.rest.now)
