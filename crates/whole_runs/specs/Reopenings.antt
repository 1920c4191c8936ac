-- What each step of a run promises of ledgers that can be opened again, and what a run does.
use Rattle.std.specs.Prelude.{◌≡◌, ◌≢◌, ℕ, List, [], ◌∷◌, ◌++◌, None, Result, Ok, Err, Vec}
use Rattle.std.specs.Prelude.{IsTrue}
use Rattle.std.specs.List.{AllByRecursion}
use Rattle.chain.specs.Ledgers.{AreValid, Tenants}
use Rattle.ledger_http.specs.declared.reply.Reply.{Reply}
use Rattle.service.specs.declared.turns.Message.{Message}
use Rattle.service.specs.Deeds.{Joined}
use Rattle.service.specs.Courses.{Tried}
use Rattle.service.specs.Openings.{RunMeaning, Moves, Replies, IsOpened, IsSettled, HasLed}
use Rattle.service.specs.Responds.{RefusesEarly}
use Rattle.service.specs.Turns.{MovesInRound}
use Rattle.openings.specs.declared.refused.Refused.{Refused}
use Rattle.stored_ledgers.specs.declared.joining.AddTenant.TheVariants as add
use Rattle.stored_ledgers.specs.declared.keying.ChangeKey.TheVariants as key
use Rattle.stored_ledgers.specs.Names.{Names}
use Rattle.store.specs.Deeds.{ending_of}
use Rattle.store.specs.Names.{AreNamed}
use Rattle.whole_runs.specs.declared.steps.Step.{Step}
use Rattle.whole_runs.specs.declared.steps.Step.TheVariants as step
use Rattle.whole_runs.specs.declared.steps.Answer.{Answer}
use Rattle.whole_runs.specs.declared.steps.Answer.TheVariants as answer
use Rattle.whole_runs.specs.Courses.{HaveComeSince}
use Rattle.whole_runs.specs.NameCourses.{AreNamesAfter}
use Rattle.whole_runs.specs.Names.{AreNamesSettled, IsJoinTried, IsKeyTriedOf, LeavesNames}
use Rattle.whole_runs.specs.Names.{NamesMeaning, ReopensNames}

-- an opening was refused: they are not live; where it is told that what it might have found stands,
-- the next opening finds that; and what keeps the ledgers has refused so
pub record RefusesReopening {S : Type 0} (t : RunMeaning S)
    (Refuses : Refused → S → S → Type 0) (old : S)
    (refused : Refused) (new : S) : Type 0 where
  pub shut : t.is_live new → ⊥
  pub kept : IsTrue refused.stands → (found : Tenants) → t.may_find new found
      → ∥ t.may_find old found ∥₁
  pub refuses : Refuses refused old new

abbrev pub Reopens :
    {S : Type 0} → RunMeaning S → (Refused → S → S → Type 0) → S → Result (Unit {0}) Refused → S
    → Type 0
Reopens t Refuses old (Ok done) new = IsOpened t old new
Reopens t Refuses old (Err refused) new = RefusesReopening t Refuses old refused new

-- what a round makes of them; where memory lacks for the replies, nothing was done
abbrev pub RoundMakes :
    {S Z E : Type 0} → RunMeaning S → S → List Message → Result (Vec Reply Z) E → S → Type 0
RoundMakes t old messages (Ok replies) new = MovesInRound t old messages replies.items new
RoundMakes t old messages (Err why) new = new ≡ old

-- that a digest is taken is told only where some tenant has it
abbrev pub TellsTaken : {S : Type 0} → RunMeaning S → S → List ℕ → Type 0 → S → Type 0
TellsTaken t old digest Told new = t.is_live new → Told → t.tenants old digest ≢ None

-- what a step makes of the ledgers, whose tenants have names
abbrev pub StepMakes :
    {S : Type 0} → RunMeaning S → NamesMeaning S → (Refused → S → S → Type 0) → S →
    Step → Answer → S
    → Type 0
StepMakes t n Refuses old (step.Request bytes moment) (answer.Replied reply) new =
    Replies t old bytes.items moment reply new × LeavesNames t n old new
StepMakes t n Refuses old (step.Round messages) (answer.Round result) new =
    RoundMakes t old messages.items result new × LeavesNames t n old new
StepMakes t n Refuses old (step.AddTenant name digest) (answer.Added result) new =
    Moves t old (Tried (Joined digest) (ending_of result)) new
    × TellsTaken t old digest (result ≡ Err add.DigestTaken) new
    × IsJoinTried t n old name digest result new
StepMakes t n Refuses old (step.ChangeKey name digest) (answer.Keyed result) new =
    IsKeyTriedOf t n old name digest result new
    × TellsTaken t old digest (result ≡ Err key.DigestTaken) new
StepMakes t n Refuses old step.Reopen (answer.Reopened result) new =
    Reopens t Refuses old result new × ReopensNames t n old result new
StepMakes t n Refuses old step answer new = ⊥

-- what a run makes of them: some course of the steps and the answers leads to what is there, and
-- one to whatever an opening may find
abbrev pub HasRun : {S : Type 0} → RunMeaning S → S → List Step → List Answer → S → Type 0
HasRun t old steps answers new = HasLed t (HaveComeSince (t.tenants old) steps answers) new

-- the same of names
pub record HasNamed {S : Type 0} (t : RunMeaning S) (n : NamesMeaning S) (old : S)
    (steps : List Step) (answers : List Answer) (new : S) : Type 0 where
  pub here : t.is_live new → ∥ AreNamesAfter (n.named old) steps answers (n.named new) ∥₁
  pub found : (found : Names) → n.may_find new found
      → ∥ AreNamesAfter (n.named old) steps answers found ∥₁

-- while the ledgers are live, an opening finds what is there, machines and names, and each tenant
-- has one name
pub record IsInOrder {S : Type 0} (t : RunMeaning S) (n : NamesMeaning S) (ledgers : S) : Type 0
  where
    pub machines : IsSettled t ledgers
    pub names : AreNamesSettled t n ledgers
    pub named : t.is_live ledgers → AreNamed (n.named ledgers) (t.tenants ledgers)

-- where a run ends they are in order, and of valid machines as long as they are live
pub record EndsInOrder {S : Type 0} (t : RunMeaning S) (n : NamesMeaning S) (ledgers : S) : Type 0
  where
    pub settled : IsInOrder t n ledgers
    pub valid : t.is_live ledgers → AreValid (t.tenants ledgers)

-- ledgers that have failed stay as they are, in each step but a reopening
abbrev pub StaysFailed : {S : Type 0} → (S → Type 0) → S → Step → S → Type 0
StaysFailed Failed old s new = Failed old → s ≢ step.Reopen → new ≡ old

-- a run step by step: each step makes its ledgers of those before it, and the steps up to there
-- have run. At each moment the ledgers are in order. Once they have failed they stay so until they
-- are opened again.
pub data RunsThrough {S : Type 0} (t : RunMeaning S) (n : NamesMeaning S) (Failed : S → Type 0)
    (Refuses : Refused → S → S → Type 0) (old : S) : List Step → List Answer → S → Type 0 where
  Begins : IsInOrder t n old → RunsThrough t n Failed Refuses old [] [] old
  Goes_on :
      (steps : List Step) (answers : List Answer) (mid : S) (step : Step) (answer : Answer)
      (new : S) →
      RunsThrough t n Failed Refuses old steps answers mid →
      StepMakes t n Refuses mid step answer new → StaysFailed Failed mid step new →
      IsInOrder t n new → HasRun t old (steps ++ step ∷ []) (answers ++ answer ∷ []) new →
      HasNamed t n old (steps ++ step ∷ []) (answers ++ answer ∷ []) new →
      RunsThrough t n Failed Refuses old (steps ++ step ∷ []) (answers ++ answer ∷ []) new

-- none of the steps opens the ledgers again
abbrev pub OpensNothing : List Step → Type 0
OpensNothing steps = AllByRecursion (λ (s : Step). s ≢ step.Reopen) steps

-- The law of faults. Steps have run up to a moment at which the ledgers have failed, and then more
-- steps, none of which opens them again. What is there then, and what an opening may find, comes of
-- a course of the steps up to that moment alone: of what came later nothing is found done. So it is
-- with names.
abbrev pub NothingLaterIsFound :
    {S : Type 0} → RunMeaning S → NamesMeaning S → (S → Type 0) → (Refused → S → S → Type 0)
    → Type 0
NothingLaterIsFound {S} t n Failed Refuses =
    (old mid new : S) (steps later : List Step) (answers told : List Answer)
    → HasRun t old steps answers mid
    → HasNamed t n old steps answers mid
    → Failed mid
    → RunsThrough t n Failed Refuses mid later told new
    → OpensNothing later
    → HasRun t old steps answers new × HasNamed t n old steps answers new

-- an answer is one to its step; whatever the ledgers are, what is told before a tenant is looked up
-- is told right, and that they are unavailable is told of a whole message alone
abbrev pub IsAnswerTo : Step → Answer → Type 0
IsAnswerTo (step.Request bytes moment) (answer.Replied reply) = RefusesEarly bytes.items reply
IsAnswerTo (step.Round messages) (answer.Round result) = Unit {0}
IsAnswerTo (step.AddTenant name digest) (answer.Added result) = Unit {0}
IsAnswerTo (step.ChangeKey name digest) (answer.Keyed result) = Unit {0}
IsAnswerTo step.Reopen (answer.Reopened result) = Unit {0}
IsAnswerTo step answer = ⊥
