use Rattle.std.proofs.Common.{List, ℕ, Result, Ok, refl, sym, ap, subst}
use Rattle.sha2.specs.Sha256.{sha256}
use Rattle.ledger_http.specs.Question.{question_of}
use Rattle.wire.specs.declared.outcome.Outcome.{Outcome}
use Rattle.wire.specs.declared.request.Request.{Request}
use Rattle.wire.specs.Asked.{meaning_in, refused_as, told_if_refused}
use Rattle.service.specs.Calls.{BeginsOver, ServesOver}
use Rattle.service.proofs.CallLemmas.{begins_served}
use Rattle.service.proofs.answering.answer.Goals as goal

pub returns-in-Ok : goal.returns-in-Ok
returns-in-Ok g c =
    let question = question_of c.args.asked.now in
    subst
    (λ (meaning : Result Request Outcome).
    BeginsOver g.L.Ledgers.means (sha256 c.args.asked.now.key) meaning c.args.moment c.args.ledgers.now
    c.serve_request.new.ledgers c.serve_request.result)
    (sym (ap (told_if_refused (refused_as question)) c.in-Ok.ensures.ok))
    (subst
    (λ (digest : List ℕ).
    BeginsOver g.L.Ledgers.means digest (Ok c.in-Ok.request) c.args.moment c.args.ledgers.now
    c.serve_request.new.ledgers c.serve_request.result)
    c.digest-digest.ensures c.serve_request.ensures)

pub returns-in-Err : goal.returns-in-Err
returns-in-Err g c =
    begins_served g.L.Ledgers.means (sha256 c.args.asked.now.key) _ _ c.args.moment c.args.ledgers.now
    c.refuse.new.ledgers c.refuse.result _ refl c.whole.ensures
    (subst
    (λ (digest : List ℕ).
    ServesOver g.L.Ledgers.means digest (meaning_in (question_of c.args.asked.now))
    c.args.moment c.args.ledgers.now c.refuse.new.ledgers c.refuse.result)
    c.digest-digest.ensures (c.refuse.ensures c.args.moment c.in-Err.ensures.err))
