use Rattle.ledger_shape.proofs.FitLemmas.{IsLeft}
use Rattle.ledger_shape.proofs.fits.fit_all.Given as goal

abbrev pub invariant-loop-form : goal.invariant-loop-form
invariant-loop-form g l =
    IsLeft g.F.Form.meant l.forms l.items l.form-iterator.a.rest.now l.form-iterator.b.rest.now
