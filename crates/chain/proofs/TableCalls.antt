-- Calls on tables, one after the other.
use Rattle.std.proofs.Common.{◌≡◌, Result, Ok, Err, None, ap, ◌∙◌, sym, inl}
use Rattle.records.specs.declared.unavailable.Unavailable.{Unavailable}
use Rattle.records.specs.Machine.{Machine}
use Rattle.chain.specs.Looks.{LeavesSame}
use Rattle.chain.specs.Tables.{State, Meaning, Leaves, LeavesRun, on_now, marking}
use Rattle.chain.specs.Tables.{unmarked, at_mark}

-- what every run of calls keeps joins on, and tables that are no longer live stay so
pub record Joins {S : Type 0} (t : Meaning S) : Type 0 where
  pub then : (a b c : S) → t.follows a b → t.follows b c → t.follows a c
  pub lived : (a b : S) → t.follows a b → t.is_live b → t.is_live a

-- two calls in turn
pub in_turn :
    {S X Y : Type 0} (t : Meaning S) (a b c : S) (x : X) (y : Y) (f g : State → State) → Joins t →
    Leaves t a b (Ok x) f → Leaves t b c (Ok y) g → Leaves t a c (Ok y) (λ s. g (f s))
in_turn t a b c x y f g joins first second = record {
  state = λ live. second.state live ∙ ap g (first.state (joins.lived _ _ second.follows live));
  usable = second.usable;
  undone = λ live. tt;
  follows = joins.then _ _ _ first.follows second.follows;
}

-- two looks in turn
pub looks_in_turn :
    {S X Y Z : Type 0} (t : Meaning S) (a b c : S) (x : X) (y : Y) (z : Z) → Joins t →
    LeavesSame t a b (Ok x) → LeavesSame t b c (Ok y) → LeavesSame t a c (Ok z)
looks_in_turn t a b c x y z joins first second = record {
  same = λ live. second.same live ∙ first.same (joins.lived b c second.follows live);
  usable = second.usable;
  follows = joins.then a b c first.follows second.follows;
}

-- a change in other words
pub changed_so :
    {S X Y : Type 0} (t : Meaning S) (a b : S) (x : X) (y : Y) (f g : State → State) →
    Leaves t a b (Ok x) f → (t.is_live b → f (t.state a) ≡ g (t.state a)) → Leaves t a b (Ok y) g
changed_so t a b x y f g call same = record {
  state = λ live. call.state live ∙ same live;
  usable = call.usable;
  undone = λ live. tt;
  follows = call.follows;
}

-- a call as a run of a batch
pub leaves_run :
    {S X : Type 0} (t : Meaning S) (a b : S) (result : Result X Unavailable) (f : State → State) →
    Leaves t a b result f → LeavesRun t a b result f
leaves_run t a b (Ok x) f call = record {
  state = call.state;
  usable = call.usable;
  undone = λ live. tt;
  follows = call.follows;
}
leaves_run t a b (Err why) f call = record {
  state = call.state;
  usable = call.usable;
  undone = λ live. inl (call.undone live);
  follows = call.follows;
}

-- calls that all answered and changed the machine now alone
pub record HasRun {S : Type 0} (t : Meaning S) (old new : S) : Type 0 where
  pub now : t.is_live new → t.state new ≡ on_now (λ m. (t.state new).now) (t.state old)
  pub usable : t.is_usable new
  pub follows : t.follows old new

two_steps :
    (old mid new : State) (change : Machine → Machine) → mid ≡ on_now (λ m. mid.now) old →
    new ≡ on_now change mid → new ≡ on_now (λ m. new.now) old
two_steps old mid new change first second =
    second ∙ ap (on_now change) first ∙ ap (λ m. on_now (λ n. m) old) (sym (ap (λ s. s.now) second))

pub runs_on :
    {S X : Type 0} (t : Meaning S) (a b c : S) (x : X) (change : Machine → Machine) → Joins t →
    HasRun t a b → Leaves t b c (Ok x) (on_now change) → HasRun t a c
runs_on t a b c x change joins run call = record {
  now = λ live. two_steps (t.state a) (t.state b) (t.state c) change
      (run.now (joins.lived _ _ call.follows live)) (call.state live);
  usable = call.usable;
  follows = joins.then _ _ _ run.follows call.follows;
}

-- a run as one call
pub as_one :
    {S X : Type 0} (t : Meaning S) (a b : S) (x : X) (change : Machine → Machine) → HasRun t a b →
    (t.is_live b → (t.state b).now ≡ change (t.state a).now) → Leaves t a b (Ok x) (on_now change)
as_one t a b x change run changed = record {
  state = λ live. run.now live ∙ ap (λ m. on_now (λ n. m) (t.state a)) (changed live);
  usable = run.usable;
  undone = λ live. tt;
  follows = run.follows;
}

-- a mark, a run and back to the mark
pub went_back :
    (s : State) (change : Machine → Machine) → s.marked ≡ None →
    at_mark (on_now change (marking s)) ≡ s
went_back s change unmarked = ap (λ marked. record s { marked = marked }) (sym unmarked)

-- a mark, a run and the mark released
pub went_on :
    (s : State) (change : Machine → Machine) → s.marked ≡ None →
    unmarked (on_now change (marking s)) ≡ on_now change s
went_on s change unmarked =
    ap (λ marked. record { now = change s.now; begun = s.begun; marked = marked }) (sym unmarked)
