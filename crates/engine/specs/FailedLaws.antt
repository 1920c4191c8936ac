-- What becomes of an event that failed for good and is sent again.
use Rattle.std.specs.Prelude.{◌≡◌, ℕ, ◌+◌, true, nat_lt, if◌then◌else◌}
use Rattle.std.specs.Prelude.{List, [], ◌∷◌, length, replicate, All}
use Rattle.std.specs.List.{AllZip, flat_map}
use Rattle.records.specs.declared.transfer.TransferEvent.{TransferEvent}
use Rattle.records.specs.declared.transfer_result.TransferResult.TheVariants as answer
use Rattle.records.specs.Machine.{Machine}
use Rattle.records.specs.TransferVerdict.{fails_for_good}
use Rattle.records.specs.Chains.{Rules, Chain, chains_of, chain_size, chain_results, after_chain}
use Rattle.records.specs.Chains.Chain.{Closed}
use Rattle.records.specs.Step.{Outcome, Answered, Exhausted, transfer_rules}
use Rattle.records.specs.Step.{at_clock, max_clock, clock_after}
use Rattle.records.specs.Step.{first_timestamp, with_timestamps, step_outcome, step_machine}
use Rattle.records.specs.Valid.{IsValid}
use Rattle.records.specs.Later.{IsLater}

-- a chain of a batch, with the machine that it is run on and the timestamp of its first event
pub record ChainRun (E : Type 0) : Type 0 where
  pub machine : Machine
  pub chain : Chain E
  pub timestamp : ℕ

-- chains in turn
abbrev pub runs_of : {E R : Type 0} → Rules E R → Machine → List (Chain E) → ℕ → List (ChainRun E)
runs_of rules m [] timestamp = []
runs_of rules m (chain ∷ chains) timestamp =
    record { machine = m; chain = chain; timestamp = timestamp }
    ∷ runs_of rules (after_chain rules m chain timestamp) chains (timestamp + chain_size chain)

-- the chains of a batch at a moment
abbrev pub batch_runs : {E R : Type 0} → Rules E R → Machine → List E → ℕ → List (ChainRun E)
batch_runs rules m batch moment =
    let clock = clock_after m (length batch) moment in
    let first = first_timestamp clock (length batch) in
    runs_of rules (at_clock m clock) (chains_of rules.linked batch) first

-- the results of one of them
abbrev pub run_results : {E R : Type 0} → Rules E R → ChainRun E → List R
run_results rules run = chain_results rules run.machine run.chain run.timestamp

-- a batch is told the results of its chains
abbrev pub IsToldOfRuns : {E R : Type 0} → Rules E R → Type 0
IsToldOfRuns {E} rules =
    (m : Machine) (batch : List E) (moment : ℕ) →
    let clock = clock_after m (length batch) moment in
    let first = first_timestamp clock (length batch) in
    let results = flat_map (run_results rules) (batch_runs rules m batch moment) in
    step_outcome rules m batch moment
    ≡ (if nat_lt max_clock clock then Exhausted
    else Answered clock (with_timestamps first results))

-- a closed chain that begins with this event: it is told 60, those behind it fall with it, and
-- nothing is changed
pub record AnswersFailed
    (ev : TransferEvent) (events : List TransferEvent) (run : ChainRun TransferEvent)
    : Type 0 where
  pub told :
      run_results transfer_rules run
      ≡ answer.IdAlreadyFailed ∷ replicate (length events) answer.LinkedEventFailed
  pub left : after_chain transfer_rules run.machine run.chain run.timestamp ≡ run.machine

-- where a chain is closed and begins with this event, it answers so
abbrev pub AnswersIfFirst : TransferEvent → ChainRun TransferEvent → Type 0
AnswersIfFirst ev run =
    (events : List TransferEvent) → run.chain ≡ Closed (ev ∷ events) → AnswersFailed ev events run

-- so it is with each chain of each batch that a later machine is sent
abbrev pub StaysFailed : Machine → TransferEvent → Type 0
StaysFailed m ev =
    (later : Machine) (batch : List TransferEvent) (moment : ℕ) →
    IsValid later → IsLater m later →
    All (AnswersIfFirst ev) (batch_runs transfer_rules later batch moment)

-- a fact of each event of a batch and what it is told
abbrev pub OfEach : {E R : Type 0} → (E → R → Type 0) → List E → Outcome R → Type 0
OfEach P batch (Answered clock results) = AllZip (λ ev told. P ev told.result) batch results
OfEach P batch Exhausted = Unit {0}

-- an event that failed for good stays failed in every later machine
abbrev pub FailedStaysFailed : Type 0
FailedStaysFailed =
    (m : Machine) (batch : List TransferEvent) (moment : ℕ) →
    OfEach
    (λ ev result.
    fails_for_good result ≡ true → StaysFailed (step_machine transfer_rules m batch moment) ev)
    batch (step_outcome transfer_rules m batch moment)
