-- What was asked in a run was asked in its course.
use Rattle.std.proofs.Common.{ℕ, List}
use Rattle.records.specs.Machine.{Machine}
use Rattle.wire.specs.declared.request.Request.{Request}
use Rattle.service.specs.Retries.{HasAsked}
use Rattle.whole_runs.specs.Retries.{HasAskedInRun}

pub asked_in_course :
    (digest : List ℕ) (request : Request) (moment : ℕ) (m now : Machine) →
    HasAskedInRun digest request moment m now → HasAsked digest request moment m now
asked_in_course digest request moment m now h = record {
  began = h.began;
  last = h.last;
  events = h.events;
  course = h.course.course;
  asked = h.asked;
  held = h.held;
}
