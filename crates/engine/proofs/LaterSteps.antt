-- Every step of the machine leads to a later one.
use Rattle.std.proofs.Common.{◌≡◌, ◌≤◌, ◌||◌, ℕ, Bool, true, false, eqb, ltb, cond, List, [], ◌∷◌, ◌++◌, append-nil, append_assoc, refl, sym, ap, ◌∙◌, arith}
use Rattle.records.specs.declared.account.AccountEvent.{AccountEvent}
use Rattle.records.specs.declared.transfer.TransferEvent.{TransferEvent}
use Rattle.records.specs.Machine.{Machine, has_id, with_id, with_failed}
use Rattle.records.specs.Facts.{facts_of}
use Rattle.records.specs.StoredRecord.{stored_account, stored_transfer}
use Rattle.records.specs.Chains.{Rules, Chain, trial_of, after_chains}
use Rattle.records.specs.Step.{account_rules, transfer_rules, after_account, after_transfer, at_clock}
use Rattle.records.specs.Later.{Extends, IsLater}
use Rattle.engine.specs.StepLaws.{LeadsToLater}
use Rattle.engine.proofs.StepByStep.{LeadsOn, trial_leads, chains_lead, step_leads}

extends_same : {A : Type 0} (xs : List A) → Extends xs xs
extends_same xs = ([], sym (append-nil xs))

extends_more : {A : Type 0} (xs ys zs : List A) → Extends xs ys → Extends ys zs → Extends xs zs
extends_more xs ys zs a b = (a.0 ++ b.0, b.1 ∙ ap (λ x. x ++ b.0) a.1 ∙ append_assoc xs a.0 b.0)

-- a machine is later than itself, and a later one than a later one is later
pub later_same : (m : Machine) → IsLater m m
later_same m = record { accounts = extends_same m.accounts; transfers = extends_same m.transfers; failed = λ id h. h; clock = omega arith }

pub later_more : (m n o : Machine) → IsLater m n → IsLater n o → IsLater m o
later_more m n o a b = record {
  accounts = extends_more m.accounts n.accounts o.accounts a.accounts b.accounts;
  transfers = extends_more m.transfers n.transfers o.transfers a.transfers b.transfers;
  failed = λ id h. b.failed id (a.failed id h);
  clock = omega (arith, a.clock, b.clock);
}

-- so is one at a later clock, or with one entry more
pub later_clock : (m : Machine) (clock : ℕ) → m.clock ≤ clock → IsLater m (at_clock m clock)
later_clock m clock le = record { accounts = extends_same m.accounts; transfers = extends_same m.transfers; failed = λ id h. h; clock = le }

later_account : (m : Machine) (ev : AccountEvent) (timestamp : ℕ) → IsLater m (after_account m ev timestamp)
unfolding after_account
later_account m ev timestamp = record { accounts = (stored_account ev timestamp ∷ [], refl); transfers = extends_same m.transfers; failed = λ id h. h; clock = omega arith }

later_transfer : (m : Machine) (ev : TransferEvent) (timestamp : ℕ) → IsLater m (after_transfer m ev timestamp)
unfolding after_transfer
later_transfer m ev timestamp = record { accounts = extends_same m.accounts; transfers = (stored_transfer (facts_of m ev) ev timestamp m.clock ∷ [], refl); failed = λ id h. h; clock = omega arith }

-- rules whose accepted events lead to later machines
abbrev pub Grows : {E R : Type 0} → Rules E R → Type 0
Grows {E} rules = (m : Machine) (ev : E) (timestamp : ℕ) → IsLater m (rules.after m ev timestamp)

pub accounts_grow : Grows account_rules
accounts_grow m ev timestamp = later_account m ev timestamp

pub transfers_grow : Grows transfer_rules
transfers_grow m ev timestamp = later_transfer m ev timestamp

-- or with one more failed id
has_by : (before same : Bool) (id other x : ℕ) (ids rest : List ℕ) → (eqb x id || has_id id ids) ≡ true → (has_id id ids ≡ true → has_id id rest ≡ true) → has_id id (cond before (other ∷ x ∷ ids) (cond same (x ∷ ids) (x ∷ rest))) ≡ true
has_by true same id other x ids rest h more = grind arith
has_by false true id other x ids rest h more = h
has_by false false id other x ids rest h more = grind arith

pub has_with : (id other : ℕ) (ids : List ℕ) → has_id id ids ≡ true → has_id id (with_id other ids) ≡ true
has_with id other [] h = absurd (cc)
has_with id other (x ∷ ids) h = has_by (ltb other x) (eqb other x) id other x ids (with_id other ids) h (has_with id other ids)

pub later_failed : (m : Machine) (id : ℕ) → IsLater m (with_failed m id)
later_failed m id = record { accounts = extends_same m.accounts; transfers = extends_same m.transfers; failed = λ other h. has_with other id m.failed h; clock = omega arith }

later_leads : {E R : Type 0} (rules : Rules E R) → Grows rules → LeadsOn rules IsLater 0
later_leads rules grows = record {
  itself = later_same;
  onward = later_more;
  accepts = λ m ev timestamp le. grows m ev timestamp;
  fails = later_failed;
}

-- events tried in turn, chains in turn, and a batch
pub later_trial : {E R : Type 0} (rules : Rules E R) → Grows rules → (m : Machine) (events : List E) (timestamp : ℕ) → IsLater m (trial_of rules m events timestamp).machine
later_trial rules grows m events timestamp = trial_leads rules IsLater 0 (later_leads rules grows) m events timestamp (omega arith)

pub later_chains : {E R : Type 0} (rules : Rules E R) → Grows rules → (m : Machine) (chains : List (Chain E)) (timestamp : ℕ) → IsLater m (after_chains rules m chains timestamp)
later_chains rules grows m chains timestamp = chains_lead rules IsLater 0 (later_leads rules grows) m chains timestamp (omega arith)

pub later_step : {E R : Type 0} (rules : Rules E R) → Grows rules → LeadsToLater rules
later_step rules grows m batch moment = step_leads rules IsLater 0 (later_leads rules grows) m batch moment (omega arith) (later_clock m)
