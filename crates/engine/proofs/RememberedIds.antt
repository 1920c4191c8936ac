-- A chain that falls remembers the id of its event that failed for good.
use Rattle.std.proofs.Common.{◌≡◌, ◌+◌, ◌-◌, ℕ, Bool, true, false, eqb, ltb, cond, List, [], ◌∷◌, ◌++◌, add-one, length, replicate, Option, Some, None, refl, sym, ap, subst, arith}
use Rattle.std.specs.List.{AllZip}
use Rattle.std.proofs.lemmas.Bool.{both_ways, eqb-true, eq-eqb}
use Rattle.std.proofs.lemmas.Option.{same_Some}
use Rattle.records.specs.declared.reply.Refusal.{Refusal}
use Rattle.records.specs.declared.transfer.TransferEvent.{TransferEvent}
use Rattle.records.specs.declared.transfer_result.TransferResult.{TransferResult}
use Rattle.records.specs.declared.transfer_result.TransferResult.TheVariants as answer
use Rattle.records.specs.Machine.{Machine, has_id, with_id}
use Rattle.records.specs.Facts.{facts_of}
use Rattle.records.specs.TransferVerdict.{transfer_event_results, fails_for_good}
use Rattle.records.specs.Chains.{Trial, trial_of, trial_by, refusal_behind, fallen_results, closed_results, with_any_failed, after_fallen, after_closed, chain_results, after_chain}
use Rattle.records.specs.Chains.Chain.{Closed, Open}
use Rattle.records.specs.Step.{transfer_rules, transfer_verdict_in, after_transfer, failed_transfer_id}
use Rattle.engine.proofs.FirstOfLemmas.{AllFail}
use Rattle.engine.proofs.RefusalLemmas.{fails_by_facts}
use Rattle.engine.proofs.BarredIds.{IsRemembered}

-- what a chain that falls tells and remembers

-- the id that a refusal tells
abbrev Tells : Option (Refusal TransferResult) → ℕ → Type 0
Tells None id = ⊥
Tells (Some refusal) id = refusal.failed_id ≡ Some id

tells_behind : (refusal : Option (Refusal TransferResult)) (id : ℕ) → Tells refusal id → Tells (refusal_behind refusal) id
tells_behind None id h = h
tells_behind (Some refusal) id h = h

-- a fact of the events that failed for good
abbrev pub IfFailed : (TransferEvent → Type 0) → TransferEvent → TransferResult → Type 0
IfFailed Q ev result = fails_for_good result ≡ true → Q ev

no_failure : (Q : TransferEvent → Type 0) (events : List TransferEvent) (result : TransferResult) → fails_for_good result ≡ false → AllZip (IfFailed Q) events (replicate (length events) result)
no_failure Q [] result h = tt
no_failure Q (ev ∷ events) result h = ((λ good. absurd (both_ways (fails_for_good result) h good)), no_failure Q events result h)

-- with an accepted event in front
behind_one : (Q : TransferEvent → Type 0) (ev : TransferEvent) (events : List TransferEvent) (refusal : Option (Refusal TransferResult)) → AllZip (IfFailed Q) events (fallen_results transfer_rules (length events) refusal) → AllZip (IfFailed Q) (ev ∷ events) (fallen_results transfer_rules (length (ev ∷ events)) (refusal_behind refusal))
behind_one Q ev events None h = ((λ good. absurd (cc)), h)
behind_one Q ev events (Some refusal) h =
    let rest = λ (n : ℕ). refusal.result ∷ replicate n answer.LinkedEventFailed in
    let same : replicate (refusal.place + 1) answer.LinkedEventFailed ++ rest (length (ev ∷ events) - (refusal.place + 1) - 1) ≡ answer.LinkedEventFailed ∷ (replicate refusal.place answer.LinkedEventFailed ++ rest (length events - refusal.place - 1)) =
    rw (add-one refusal.place) (ap (λ n. answer.LinkedEventFailed ∷ (replicate refusal.place answer.LinkedEventFailed ++ rest n)) (omega arith)) in
    subst (λ xs. AllZip (IfFailed Q) (ev ∷ events) xs) (sym same) ((λ good. absurd (cc)), h)

told_first : (Q : TransferEvent → Type 0) (m : Machine) (failed_id : TransferResult → Option ℕ) (verdict : Option TransferResult) (rest : Trial TransferResult) (ev : TransferEvent) (events : List TransferEvent) → ((result : TransferResult) → verdict ≡ Some result → fails_for_good result ≡ true → Q ev) → (verdict ≡ None → AllZip (IfFailed Q) events (fallen_results transfer_rules (length events) rest.refusal)) → AllZip (IfFailed Q) (ev ∷ events) (fallen_results transfer_rules (length (ev ∷ events)) (trial_by m failed_id verdict rest).refusal)
told_first Q m failed_id None rest ev events own h = behind_one Q ev events rest.refusal (h refl)
told_first Q m failed_id (Some result) rest ev events own h =
    let same : length (ev ∷ events) - 0 - 1 ≡ length events = omega arith in
    (own result refl, subst (λ n. AllZip (IfFailed Q) events (replicate n answer.LinkedEventFailed)) (sym same) (no_failure Q events answer.LinkedEventFailed refl))

-- the id of an event that failed for good is told
tells_own : (m : Machine) (ev : TransferEvent) (verdict : Option TransferResult) (rest : Trial TransferResult) (result : TransferResult) → verdict ≡ Some result → fails_for_good result ≡ true → Tells (trial_by m (failed_transfer_id ev) verdict rest).refusal ev.id
tells_own m ev verdict rest result is good = subst (λ v. Tells (trial_by m (failed_transfer_id ev) v rest).refusal ev.id) (sym is) (rw good refl)

tells_rest : (m : Machine) (failed_id : TransferResult → Option ℕ) (verdict : Option TransferResult) (rest : Trial TransferResult) (id : ℕ) → verdict ≡ None → Tells rest.refusal id → Tells (trial_by m failed_id verdict rest).refusal id
tells_rest m failed_id verdict rest id is h = subst (λ v. Tells (trial_by m failed_id v rest).refusal id) (sym is) (tells_behind rest.refusal id h)

event_fails : (m : Machine) (ev : TransferEvent) (result : TransferResult) → transfer_verdict_in m ev ≡ Some result → fails_for_good result ≡ true → AllFail (transfer_event_results ev)
unfolding transfer_verdict_in
event_fails m ev result h good = (fails_by_facts (facts_of m ev) ev result h good).event

told_fallen : (Q : TransferEvent → Type 0) (m : Machine) (events : List TransferEvent) (timestamp : ℕ) → ((ev : TransferEvent) → AllFail (transfer_event_results ev) → Tells (trial_of transfer_rules m events timestamp).refusal ev.id → Q ev) → AllZip (IfFailed Q) events (fallen_results transfer_rules (length events) (trial_of transfer_rules m events timestamp).refusal)
unfolding trial_of
told_fallen Q m [] timestamp h = tt
told_fallen Q m (ev ∷ events) timestamp h =
    let next = after_transfer m ev timestamp in
    let rest = trial_of transfer_rules next events (timestamp + 1) in
    let verdict = transfer_verdict_in m ev in
    told_first Q m (failed_transfer_id ev) verdict rest ev events
    (λ result is good. h ev (event_fails m ev result is good) (tells_own m ev verdict rest result is good))
    (λ none. told_fallen Q next events (timestamp + 1) (λ other own tells. h other own (tells_rest m (failed_transfer_id ev) verdict rest other.id none tells)))

told_closed : (Q : TransferEvent → Type 0) (events : List TransferEvent) (refusal : Option (Refusal TransferResult)) → AllZip (IfFailed Q) events (fallen_results transfer_rules (length events) refusal) → AllZip (IfFailed Q) events (closed_results transfer_rules (length events) refusal)
told_closed Q events None h = no_failure Q events answer.Accepted refl
told_closed Q events (Some refusal) h = h

-- an id that is told is remembered
itself_by : (before same : Bool) (id x : ℕ) (ids : List ℕ) → eqb id x ≡ same → has_id id (with_id id ids) ≡ true → has_id id (cond before (id ∷ x ∷ ids) (cond same (x ∷ ids) (x ∷ with_id id ids))) ≡ true
itself_by true same id x ids is h = rw (eq-eqb id id refl) refl
itself_by false true id x ids is h = rw (eq-eqb x id (sym (eqb-true id x is))) refl
itself_by false false id x ids is h = grind (arith, h)

has_itself : (id : ℕ) (ids : List ℕ) → has_id id (with_id id ids) ≡ true
has_itself id [] = rw (eq-eqb id id refl) refl
has_itself id (x ∷ ids) = itself_by (ltb id x) (eqb id x) id x ids refl (has_itself id ids)

remembered_any : (m : Machine) (id : Option ℕ) (own : ℕ) → id ≡ Some own → has_id own (with_any_failed m id).failed ≡ true
remembered_any m None own h = absurd (cc)
remembered_any m (Some id) own h = subst (λ n. has_id n (with_id id m.failed) ≡ true) (same_Some id own h) (has_itself id m.failed)

remembered_fallen : (m : Machine) (refusal : Option (Refusal TransferResult)) (id : ℕ) → Tells refusal id → has_id id (after_fallen m refusal).failed ≡ true
remembered_fallen m None id h = absurd h
remembered_fallen m (Some refusal) id h = remembered_any m refusal.failed_id id h

remembered_closed : (m : Machine) (trial : Trial TransferResult) (refusal : Option (Refusal TransferResult)) (id : ℕ) → Tells refusal id → has_id id (after_closed m trial refusal).failed ≡ true
remembered_closed m trial None id h = absurd h
remembered_closed m trial (Some refusal) id h = remembered_fallen m (Some refusal) id h

-- two lists side by side

pub zip_append : {A B : Type 0} (R : A → B → Type 0) (xs more : List A) (ys others : List B) → AllZip R xs ys → AllZip R more others → AllZip R (xs ++ more) (ys ++ others)
zip_append R [] more [] others h k = k
zip_append R [] more (y ∷ ys) others h k = absurd h
zip_append R (x ∷ xs) more [] others h k = absurd h
zip_append R (x ∷ xs) more (y ∷ ys) others h k = (h.0, zip_append R xs more ys others h.1 k)

pub zip_weaker : {A B : Type 0} (R S : A → B → Type 0) → ((x : A) (y : B) → R x y → S x y) → (xs : List A) (ys : List B) → AllZip R xs ys → AllZip S xs ys
zip_weaker R S w [] [] h = tt
zip_weaker R S w [] (y ∷ ys) h = h
zip_weaker R S w (x ∷ xs) [] h = h
zip_weaker R S w (x ∷ xs) (y ∷ ys) h = (w x y h.0, zip_weaker R S w xs ys h.1)

-- a chain remembers each event of it that failed for good
pub closed_remembers : (m : Machine) (events : List TransferEvent) (timestamp : ℕ) → AllZip (IfFailed (IsRemembered (after_chain transfer_rules m (Closed events) timestamp))) events (chain_results transfer_rules m (Closed events) timestamp)
unfolding chain_results after_chain
closed_remembers m events timestamp =
    let trial = trial_of transfer_rules m events timestamp in
    let Q = IsRemembered (after_closed m trial trial.refusal) in
    told_closed Q events trial.refusal (told_fallen Q m events timestamp (λ ev own tells. record { event = own; failed = remembered_closed m trial trial.refusal ev.id tells }))

pub open_remembers : (m : Machine) (events : List TransferEvent) (last : TransferEvent) (timestamp : ℕ) → AllZip (IfFailed (IsRemembered (after_chain transfer_rules m (Open events) timestamp))) (events ++ last ∷ []) (chain_results transfer_rules m (Open events) timestamp)
unfolding chain_results after_chain
open_remembers m events last timestamp =
    let refusal = (trial_of transfer_rules m events timestamp).refusal in
    let Q = IsRemembered (after_fallen m refusal) in
    zip_append (IfFailed Q) events (last ∷ []) (fallen_results transfer_rules (length events) refusal) (answer.LinkedEventChainOpen ∷ []) (told_fallen Q m events timestamp (λ ev own tells. record { event = own; failed = remembered_fallen m refusal ev.id tells })) ((λ good. absurd (cc)), tt)
