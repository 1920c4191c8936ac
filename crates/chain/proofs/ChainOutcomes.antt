-- What a chain leaves of the machine.
use Rattle.std.proofs.Common.{◌≡◌, ℕ, ◌+◌, Bool, true, false, not, ◌&&◌, Option, Some, None}
use Rattle.std.proofs.Common.{is_none, IfSome, Ok, Err, Result, List, [], ◌∷◌, refl, arith, ap, ◌∙◌}
use Rattle.std.proofs.Common.{sym}
use Rattle.records.specs.declared.unavailable.Unavailable.{Unavailable}
use Rattle.records.specs.declared.reply.Refusal.{Refusal}
use Rattle.records.specs.Machine.{Machine}
use Rattle.records.specs.Chains.{Rules, Trial, trial_of, trial_by, refusal_behind, after_chain}
use Rattle.records.specs.Chains.{after_fallen, chain_size, after_closed}
use Rattle.chain.specs.Chains.{chain_from, after_try, left_by, id_failed_by}
use Rattle.chain.specs.EventLaws.{EventLaws, IsUnused}
use Rattle.chain.specs.Tables.{State, Meaning, Leaves, Tells, on_now, marking, closing}
use Rattle.chain.proofs.TableCalls.{Joins, in_turn, changed_so, went_back, went_on}

-- a chain is tried, and then its failed id is recorded
pub tried_and_recorded :
    {E R : Type 0} (rules : Rules E R) (m : Machine) (is_open : Bool) (judged : List E)
    (first : ℕ) →
    after_chain rules m (chain_from is_open judged) first
    ≡ after_fallen (after_try rules m (chain_from is_open judged) first)
    (trial_of rules m judged first).refusal
unfolding after_chain
tried_and_recorded rules m true judged first = refl
tried_and_recorded rules m false judged first =
    elim (trial_of rules m judged first).refusal as (λ r. after_closed m
    (trial_of rules m judged first) r
    ≡ after_fallen (left_by m (trial_of rules m judged first) r) r) [
      | None ↦ refl
      | Some refusal ↦
          refl
    ]

-- one event tried, by its verdict
lone_event :
    {R : Type 0} (m after : Machine) (failed_id : R → Option ℕ) (verdict : Option R) →
    (trial_by m failed_id verdict (record { refusal = None; machine = after })).machine
    ≡ left_by m (trial_by m failed_id verdict (record { refusal = None; machine = after }))
    (trial_by m failed_id verdict (record { refusal = None; machine = after })).refusal
lone_event m after failed_id None = refl
lone_event m after failed_id (Some result) = refl

-- a chain of one place: its event is accepted, or nothing changes
lone_chain :
    {E R : Type 0} (rules : Rules E R) (m : Machine) (is_open : Bool) (judged : List E)
    (first : ℕ) → chain_size (chain_from is_open judged) ≡ 1 →
    (trial_of rules m judged first).machine ≡ after_try rules m (chain_from is_open judged) first
unfolding trial_of
lone_chain rules m true [] first size = refl
lone_chain rules m true (ev ∷ events) first size = absurd (omega arith)
lone_chain rules m false [] first size = refl
lone_chain rules m false (ev ∷ []) first size =
    lone_event m (rules.after m ev first) (rules.failed_id ev) (rules.verdict m ev)
lone_chain rules m false (ev ∷ next ∷ events) first size = absurd (omega arith)

-- a chain of one place is run as its events are
pub lone_run :
    {S E R X : Type 0} (t : Meaning S) (rules : Rules E R) (is_open : Bool) (judged : List E)
    (first : ℕ) (a b : S) (r : Result X Unavailable) → chain_size (chain_from is_open judged) ≡ 1 →
    Leaves t a b r (on_now (λ m. (trial_of rules m judged first).machine)) →
    Leaves t a b r (on_now (λ m. after_try rules m (chain_from is_open judged) first))
lone_run t rules is_open judged first a b (Ok x) size run =
    changed_so t a b x x (on_now (λ m. (trial_of rules m judged first).machine))
    (on_now (λ m. after_try rules m (chain_from is_open judged) first)) run
    (λ live. ap (λ m. on_now (λ n. m) (t.state a))
    (lone_chain rules (t.state a).now is_open judged first size))
lone_run t rules is_open judged first a b (Err e) size run =
    record { state = λ live. tt; usable = tt; undone = run.undone; follows = run.follows }

-- what is left of a run behind a mark, once it is closed
closed_run :
    {E R : Type 0} (rules : Rules E R) (s : State) (is_open : Bool) (judged : List E) (first : ℕ) →
    s.marked ≡ None →
    closing (not is_open && is_none (trial_of rules s.now judged first).refusal)
    (on_now (λ m. (trial_of rules m judged first).machine) (marking s))
    ≡ on_now (λ m. after_try rules m (chain_from is_open judged) first) s
closed_run rules s true judged first free =
    went_back s (λ m. (trial_of rules m judged first).machine) free
closed_run rules s false judged first free =
    elim (trial_of rules s.now judged first).refusal as (λ r. closing (is_none r)
    (on_now (λ m. (trial_of rules m judged first).machine) (marking s))
    ≡ on_now (λ m. left_by s.now (trial_of rules s.now judged first) r) s) [
      | None ↦ went_on s (λ m. (trial_of rules m judged first).machine) free
      | Some refusal ↦ went_back s (λ m. (trial_of rules m judged first).machine) free
    ]

-- a mark, a run, and the mark closed
pub marked_run :
    {S E R X Z : Type 0} (t : Meaning S) (rules : Rules E R) (is_open : Bool) (judged : List E)
    (first : ℕ) (a b c d : S) (x : X) (refusal : Option (Refusal R)) (z : Z) (keeps : Bool) →
    Joins t → (t.is_live a → (t.state a).marked ≡ None) → Leaves t a b (Ok x) marking →
    Tells t b c (Ok refusal) (λ m. (trial_of rules m judged first).refusal) →
    Leaves t b c (Ok refusal) (on_now (λ m. (trial_of rules m judged first).machine)) →
    keeps ≡ not is_open && is_none refusal → Leaves t c d (Ok z) (closing keeps) →
    Leaves t a d (Ok refusal) (on_now (λ m. after_try rules m (chain_from is_open judged) first))
marked_run t rules is_open judged first a b c d x refusal z keeps joins free marks told run kept
    closes =
    let trial = λ (m : Machine). (trial_of rules m judged first).machine in
    let marked_trial = in_turn t a b c x refusal marking (on_now trial) joins marks run in
    let whole = in_turn t a c d refusal z (λ s. on_now trial (marking s)) (closing keeps) joins
    marked_trial closes in
    let was = λ (live : t.is_live d). joins.lived a d whole.follows live in
    let is = λ (live : t.is_live d). told (joins.lived c d closes.follows live)
    ∙ ap (λ s. (trial_of rules s.now judged first).refusal)
    (marks.state (joins.lived b d (joins.then b c d run.follows closes.follows) live)) in
    changed_so t a d z refusal (λ s. closing keeps (on_now trial (marking s)))
    (on_now (λ m. after_try rules m (chain_from is_open judged) first)) whole
    (λ live. ap (λ b. closing b (on_now trial (marking (t.state a))))
    (kept ∙ ap (λ r. not is_open && is_none r) (is live))
    ∙ closed_run rules (t.state a) is_open judged first (free (was live)))

-- a chain tried, and its failed id recorded
pub recorded_run :
    {S E R Z : Type 0} (t : Meaning S) (rules : Rules E R) (is_open : Bool) (judged : List E)
    (first : ℕ) (a b c : S) (refusal : Option (Refusal R)) (z : Z) → Joins t →
    Tells t a b (Ok refusal) (λ m. (trial_of rules m judged first).refusal) →
    Leaves t a b (Ok refusal) (on_now (λ m. after_try rules m (chain_from is_open judged) first)) →
    Leaves t b c (Ok z) (on_now (λ m. after_fallen m refusal)) →
    Leaves t a c (Ok refusal) (on_now (λ m. after_chain rules m (chain_from is_open judged) first))
recorded_run t rules is_open judged first a b c refusal z joins told tries records =
    let chain = chain_from is_open judged in
    let trying = λ (m : Machine). after_try rules m chain first in
    let recording = λ (m : Machine). after_fallen m refusal in
    let whole = in_turn t a b c refusal z (on_now trying) (on_now recording) joins tries records in
    changed_so t a c z refusal (λ s. on_now recording (on_now trying s))
    (on_now (λ m. after_chain rules m chain first)) whole
    (λ live. ap (λ m. on_now (λ n. m) (t.state a))
    (ap (after_fallen (trying (t.state a).now)) (told (joins.lived b c records.follows live))
    ∙ sym (tried_and_recorded rules (t.state a).now is_open judged first)))

if_some : (o : Option ℕ) (P : ℕ → Type 0) → ((id : ℕ) → o ≡ Some id → P id) → IfSome o P
if_some None P all = tt
if_some (Some id) P all = all id refl

if_some_weaker :
    (o : Option ℕ) (P Q : ℕ → Type 0) → ((id : ℕ) → P id → Q id) → IfSome o P → IfSome o Q
if_some_weaker None P Q weaker h = tt
if_some_weaker (Some id) P Q weaker h = weaker id h

same_id :
    {R : Type 0} (refusal : Option (Refusal R)) →
    id_failed_by (refusal_behind refusal) ≡ id_failed_by refusal
same_id None = refl
same_id (Some refusal) = refl

event_fails_unused :
    {E R : Type 0} (rules : Rules E R) → EventLaws rules →
    (m : Machine) (ev : E) (rest : Trial R) (verdict : Option R) → rules.verdict m ev ≡ verdict →
    IfSome (id_failed_by rest.refusal) (IsUnused m) →
    IfSome (id_failed_by (trial_by m (rules.failed_id ev) verdict rest).refusal) (IsUnused m)
event_fails_unused rules laws m ev rest None told later = rw (same_id rest.refusal) later
event_fails_unused rules laws m ev rest (Some result) told later =
    if_some (rules.failed_id ev result) (IsUnused m)
    (λ id fails. laws.fails_unused m ev result id told fails)

-- the id of the first refusal is unused where the chain starts
trial_fails_unused :
    {E R : Type 0} (rules : Rules E R) → EventLaws rules →
    (m : Machine) (events : List E) (first : ℕ) →
    IfSome (id_failed_by (trial_of rules m events first).refusal) (IsUnused m)
unfolding trial_of
trial_fails_unused rules laws m [] first = tt
trial_fails_unused rules laws m (ev ∷ events) first =
    let after = rules.after m ev first in
    let rest = trial_of rules after events (first + 1) in
    event_fails_unused rules laws m ev rest (rules.verdict m ev) refl
    (if_some_weaker (id_failed_by rest.refusal) (IsUnused after) (IsUnused m)
    (λ id unused. laws.was_unused m ev first id unused)
    (trial_fails_unused rules laws after events (first + 1)))

-- and so it is after the trial, which leaves the machine as it was
pub unused_after_try :
    {E R : Type 0} (rules : Rules E R) → EventLaws rules →
    (m : Machine) (is_open : Bool) (judged : List E) (first : ℕ) →
    IfSome (id_failed_by (trial_of rules m judged first).refusal)
    (IsUnused (after_try rules m (chain_from is_open judged) first))
unused_after_try rules laws m true judged first = trial_fails_unused rules laws m judged first
unused_after_try rules laws m false judged first =
    elim (trial_of rules m judged first).refusal as (λ r. IfSome (id_failed_by r) (IsUnused m) →
    IfSome (id_failed_by r) (IsUnused (left_by m (trial_of rules m judged first) r))) [
      | None ↦ λ unused. tt
      | Some refusal ↦ λ unused. unused
    ] (trial_fails_unused rules laws m judged first)
