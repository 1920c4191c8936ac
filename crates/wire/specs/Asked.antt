-- What a question asks for, or the outcome that refuses it.
use Rattle.std.specs.Prelude.{Option, None, Result, if◌then◌else◌}
use Rattle.std.specs.Option.{option_map_or}
use Rattle.std.specs.Result.{result_map_both}
use Rattle.ledger_http.specs.declared.refusal.Refusal.{Refusal}
use Rattle.ledger_http.specs.Question.{Question}
use Rattle.wire.specs.declared.body_fault.BodyFault.{BodyFault}
use Rattle.wire.specs.declared.outcome.Outcome.{Outcome}
use Rattle.wire.specs.declared.outcome.Outcome.TheVariants.{Refused, Detailed}
use Rattle.wire.specs.declared.request.Request.{Request}
use Rattle.wire.specs.Faults.{fault_on}
use Rattle.wire.specs.Meaning.{meaning_of}

-- where the body of a question is refused, if the question asks for detail
abbrev pub detail_in : Question → Option BodyFault
detail_in question = if question.detail then fault_on question.route question.body else None

-- the outcome of a question with this refusal: it says where, if the question asks for that
abbrev pub refused_as : Question → Refusal → Outcome
refused_as question refusal =
    option_map_or (Detailed refusal) (detail_in question) (Refused refusal)

-- a request, or the outcome that a refusal of it has
abbrev pub told_if_refused : (Refusal → Outcome) → Result Request Refusal → Result Request Outcome
told_if_refused told asked = result_map_both (λ request. request) told asked

-- what a question asks for, or the outcome that refuses it
abbrev pub meaning_in : Question → Result Request Outcome
meaning_in question =
    told_if_refused (refused_as question)
    (meaning_of question.route question.account question.body)
