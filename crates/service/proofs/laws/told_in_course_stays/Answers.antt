use Rattle.std.proofs.Common.{◌≡◌, ℕ, List, Some, refl, sym, ◌∙◌}
use Rattle.records.specs.declared.reply.EventResult.{EventResult}
use Rattle.records.specs.Machine.{Machine}
use Rattle.records.specs.Step.{account_rules, transfer_rules, step_outcome, Answered, Exhausted}
use Rattle.records.specs.Step as step
use Rattle.engine.specs.Following.{ContinuesAfter, TellsClock, StepsTellClock}
use Rattle.wire.specs.declared.outcome.Outcome.{Outcome}
use Rattle.wire.specs.declared.outcome.Outcome.TheVariants as told
use Rattle.wire.specs.declared.request.Request.{Request}
use Rattle.wire.specs.declared.request.Request.TheVariants as asks
use Rattle.service.specs.Following.{clock_in}
use Rattle.service.specs.Served.{batch_told, told_by, left_by}
use Rattle.service.proofs.Readings.{IsClockOf, read_clock}
use Rattle.service.proofs.RetryLemmas.{asked_leads}
use Rattle.service.proofs.laws.told_in_course_stays.Goals as goal

batch_clock :
    {R : Type 0} (shows : ℕ → List (EventResult R) → Outcome) →
    ((clock : ℕ) (results : List (EventResult R)) → clock_in (shows clock results) ≡ Some clock) →
    (outcome : step.Outcome R) (now : ℕ) → TellsClock outcome now →
    IsClockOf now (batch_told shows outcome)
batch_clock shows clocks (Answered at results) now tells clock is =
    let same : Some at ≡ Some clock = sym (clocks at results) ∙ is in
    cc
batch_clock shows clocks Exhausted now tells clock is = absurd (cc)

told_clock :
    StepsTellClock account_rules → StepsTellClock transfer_rules → (m : Machine) (moment : ℕ)
    (request : Request) → IsClockOf (left_by m moment request).clock (told_by m moment request)
told_clock of_accounts of_transfers m moment (asks.Accounts events) =
    batch_clock told.AccountResults (λ clock results. refl)
    (step_outcome account_rules m events moment) (left_by m moment (asks.Accounts events)).clock
    (of_accounts m events moment)
told_clock of_accounts of_transfers m moment (asks.Transfers events) =
    batch_clock told.TransferResults (λ clock results. refl)
    (step_outcome transfer_rules m events moment) (left_by m moment (asks.Transfers events)).clock
    (of_transfers m events moment)
told_clock of_accounts of_transfers m moment (asks.Read asked) = read_clock m asked

pub returns : goal.returns
returns c digest request moment m now asked =
    let left = left_by m moment request in
    let continues =
    asked_leads ContinuesAfter c.requests_continue.ensures digest request moment m now asked in
    record {
      told_clock =
          told_clock c.steps_tell_their_clock.ensures.accounts
          c.steps_tell_their_clock.ensures.transfers m moment request;
      continues = continues;
      spans = c.what_was_told_stays.ensures.spans left now continues;
      pages = c.what_was_told_stays.ensures.pages left now continues;
    }
