use Rattle.std.proofs.Common.{◌∙◌, sym, ap}
use Rattle.chain.specs.Ledgers.{Tenants}
use Rattle.service.specs.OwnDeeds.{digest_since}
use Rattle.wire.specs.declared.request.Request.TheVariants.{Transfers}
use Rattle.whole_runs.proofs.Asked.{asked_in_course}
use Rattle.whole_runs.proofs.laws.stays_failed.Goals as goal

pub returns-clause-valid : goal.returns-clause-valid
returns-clause-valid g c digest batch moment m now asked =
    c.failed_in_course_stays_failed.ensures digest batch moment m now
    (asked_in_course digest (Transfers batch) moment m now asked)

pub returns-clause-live : goal.returns-clause-live
returns-clause-live g c ledgers live digest batch moment m now asked here =
    let known = digest_since digest asked.events in
    let held = ap (λ (tenants : Tenants). tenants known) (sym here) ∙ asked.held in
    c.failed_in_course_stays_failed.ensures digest batch moment m now
    (asked_in_course digest (Transfers batch) moment m now asked)
    (g.met.L.Reopening.valid ledgers live known now held)
