-- A batch run chain by chain: where it stands after some of its places.
use Rattle.std.proofs.Common.{◌≡◌, ℕ, ◌+◌, ◌<◌, ◌≤◌, Bool, true, false, Option, IfSome, Ok, List}
use Rattle.std.proofs.Common.{[], ◌∷◌, ◌++◌, length, drop, refl, arith, ap, ◌∙◌, sym, append_assoc}
use Rattle.std.proofs.Common.{append-nil, add-zero, add_assoc, length-drop, vec_len, vec_capacity}
use Rattle.std.proofs.Common.{Global}
use Rattle.std.specs.declared.vec.Vec.{Vec}
use Rattle.std.proofs.lemmas.List.{drop-drop, drop_all}
use Rattle.records.specs.declared.reply.EventResult.{EventResult}
use Rattle.records.specs.declared.reply.Refusal.{Refusal}
use Rattle.records.specs.Machine.{Machine}
use Rattle.records.specs.Chains.{Rules, Chain, chains_of, chain_size, chain_results, after_chain}
use Rattle.records.specs.Chains.{chains_results, after_chains, trial_of}
use Rattle.records.specs.Step.{with_timestamps}
use Rattle.chain.specs.Chains.{chain_from, results_from}
use Rattle.chain.specs.Tables.{Meaning, Tells, Leaves, on_now}
use Rattle.chain.specs.EventLaws.{EventLaws}
use Rattle.chain.specs.InBatch.{IsBetweenChains}
use Rattle.chain.proofs.ChainCutting.{no_chain}
use Rattle.chain.proofs.TableCalls.{Joins, HasRun, runs_on, as_one}
use Rattle.chain.proofs.StaysInBatch.{chain_keeps_batch}
use Rattle.chain.proofs.ResultTimestamps.{with_timestamps-append, length-results_from}

-- a machine and results that the run of this batch comes to before its event of place i
pub record IsRunTo {E R : Type 0} (rules : Rules E R) (start : Machine) (old : List (EventResult R))
    (batch : List E) (first i : ℕ) (m : Machine) (items : List (EventResult R)) : Type 0 where
  pub results : items
      ++ with_timestamps (first + i)
      (chains_results rules m (chains_of rules.linked (drop i batch)) (first + i)) ≡ old
      ++ with_timestamps first (chains_results rules start (chains_of rules.linked batch) first)
  pub machine : after_chains rules m (chains_of rules.linked (drop i batch)) (first + i)
      ≡ after_chains rules start (chains_of rules.linked batch) first

results_now :
    {E R : Type 0} (rules : Rules E R) (m : Machine) (is_open : Bool) (judged : List E)
    (timestamp : ℕ) →
    results_from rules (chain_from is_open judged) (trial_of rules m judged timestamp).refusal
    ≡ chain_results rules m (chain_from is_open judged) timestamp
unfolding chain_results
results_now rules m true judged timestamp = refl
results_now rules m false judged timestamp = refl

more_results :
    {E R : Type 0} (rules : Rules E R) (m : Machine) (chain : Chain E) (chains : List (Chain E))
    (timestamp : ℕ) →
    chains_results rules m (chain ∷ chains) timestamp ≡ chain_results rules m chain timestamp
    ++ chains_results rules (after_chain rules m chain timestamp) chains
    (timestamp + chain_size chain)
unfolding chains_results
more_results rules m chain chains timestamp = refl

more_changes :
    {E R : Type 0} (rules : Rules E R) (m : Machine) (chain : Chain E) (chains : List (Chain E))
    (timestamp : ℕ) →
    after_chains rules m (chain ∷ chains) timestamp
    ≡ after_chains rules (after_chain rules m chain timestamp) chains (timestamp + chain_size chain)
unfolding after_chains
more_changes rules m chain chains timestamp = refl

no_results :
    {E R : Type 0} (rules : Rules E R) (m : Machine) (timestamp : ℕ) →
    chains_results rules m [] timestamp ≡ []
unfolding chains_results
no_results rules m timestamp = refl

no_changes :
    {E R : Type 0} (rules : Rules E R) (m : Machine) (timestamp : ℕ) →
    after_chains rules m [] timestamp ≡ m
unfolding after_chains
no_changes rules m timestamp = refl

run_from :
    {E R : Type 0} (rules : Rules E R) (m : Machine) (old : List (EventResult R)) (batch : List E)
    (first : ℕ) → IsRunTo rules m old batch first 0 m old
run_from rules m old batch first = record { results = rw add-zero refl; machine = rw add-zero refl }

run_on :
    {E R : Type 0} (rules : Rules E R) (start : Machine) (old : List (EventResult R))
    (batch : List E) (first i : ℕ) (m : Machine) (items : List (EventResult R)) (is_open : Bool)
    (judged : List E) (refusal : Option (Refusal R)) →
    IsRunTo rules start old batch first i m items →
    chains_of rules.linked (drop i batch)
    ≡ chain_from is_open judged ∷ chains_of rules.linked
    (drop (chain_size (chain_from is_open judged)) (drop i batch)) →
    refusal ≡ (trial_of rules m judged (first + i)).refusal →
    IfSome refusal (λ r. r.place < length judged) →
    IsRunTo rules start old batch first (i + chain_size (chain_from is_open judged))
    (after_chain rules m (chain_from is_open judged) (first + i))
    (items ++ with_timestamps (first + i) (results_from rules (chain_from is_open judged) refusal))
run_on rules start old batch first i m items is_open judged refusal so_far cut is within =
    let chain = chain_from is_open judged in
    let rest = chains_of rules.linked (drop (i + chain_size chain) batch) in
    let left : chains_of rules.linked (drop i batch) ≡ chain ∷ rest = cut
    ∙ ap (λ xs. chain ∷ chains_of rules.linked xs) (drop-drop (chain_size chain) i batch) in
    let results = results_from rules chain refusal in
    let now : chain_results rules m chain (first + i) ≡ results =
    sym (results_now rules m is_open judged (first + i)) ∙ ap (results_from rules chain) (sym is) in
    let after = after_chain rules m chain (first + i) in
    let next = first + (i + chain_size chain) in
    let time : first + i + chain_size chain ≡ next = add_assoc first i (chain_size chain) in
    let size : length results ≡ chain_size chain =
    length-results_from rules is_open judged refusal within in
    let all : chains_results rules m (chains_of rules.linked (drop i batch)) (first + i) ≡ results
    ++ chains_results rules after rest next =
    rw (left, more_results rules m chain rest (first + i), now, time) refl in
    record {
      results =
          append_assoc items (with_timestamps (first + i) results)
          (with_timestamps next (chains_results rules after rest next))
          ∙ ap (λ t. items
          ++ (with_timestamps (first + i) results
          ++ with_timestamps t (chains_results rules after rest next)))
          (sym time ∙ ap (λ n. first + i + n) (sym size))
          ∙ ap (λ x. items ++ x)
          (sym (with_timestamps-append (first + i) results (chains_results rules after rest next)))
          ∙ ap (λ x. items ++ with_timestamps (first + i) x) (sym all)
          ∙ so_far.results;
      machine = ap (λ t. after_chains rules after rest t) (sym time)
          ∙ sym (more_changes rules m chain rest (first + i))
          ∙ ap (λ x. after_chains rules m x (first + i)) (sym left) ∙ so_far.machine;
    }

run_all :
    {E R : Type 0} (rules : Rules E R) (start : Machine) (old : List (EventResult R))
    (batch : List E) (first i : ℕ) (m : Machine) (items : List (EventResult R)) →
    IsRunTo rules start old batch first i m items → length batch ≤ i →
    (items ≡ old ++ with_timestamps first
    (chains_results rules start (chains_of rules.linked batch) first))
    × (m ≡ after_chains rules start (chains_of rules.linked batch) first)
run_all rules start old batch first i m items so_far past =
    let none : chains_of rules.linked (drop i batch) ≡ [] =
    rw (drop_all i batch past) (no_chain rules.linked) in
    let results : chains_results rules m (chains_of rules.linked (drop i batch)) (first + i) ≡ [] =
    rw none (no_results rules m (first + i)) in (
      sym (append-nil items) ∙ ap (λ x. items ++ with_timestamps (first + i) x) (sym results)
          ∙ so_far.results,
      sym (no_changes rules m (first + i)) ∙ ap (λ x. after_chains rules m x (first + i)) (sym none)
          ∙ so_far.machine,
    )

-- tables on which a batch is run, with its results, before the event of place i
pub record IsRunning {S E R : Type 0} (t : Meaning S) (rules : Rules E R) (batch : List E)
    (first clock i : ℕ) (old new : S) (before results : Vec (EventResult R) Global) : Type 0 where
  pub run : HasRun t old new
  pub reached : t.is_live new →
      IsRunTo rules (t.state old).now before.items batch first i (t.state new).now results.items
  pub between : t.is_live new → IsBetweenChains (t.state new) clock (first + i)
  pub within : i ≤ length batch
  pub room : vec_len results + length batch ≤ vec_capacity results + i

pub running :
    {S E R : Type 0} (t : Meaning S) (rules : Rules E R) (batch : List E) (first clock : ℕ) (a : S)
    (results : Vec (EventResult R) Global) → t.follows a a → t.is_usable a →
    (t.is_live a → IsBetweenChains (t.state a) clock first) →
    vec_len results + length batch ≤ vec_capacity results →
    IsRunning t rules batch first clock 0 a a results results
running t rules batch first clock a results stays usable between room = record {
  run = record { now = λ live. refl; usable = usable; follows = stays };
  reached = λ live. run_from rules (t.state a).now results.items batch first;
  between = λ live. rw add-zero (between live);
  within = omega arith;
  room = omega arith;
}

pub running_on :
    {S E R : Type 0} (t : Meaning S) (rules : Rules E R) (batch : List E) (first clock i : ℕ)
    (a b c : S) (before results more : Vec (EventResult R) Global) (is_open : Bool)
    (judged : List E) (refusal : Option (Refusal R)) → Joins t → EventLaws rules →
    IsRunning t rules batch first clock i a b before results →
    chains_of rules.linked (drop i batch)
    ≡ chain_from is_open judged ∷ chains_of rules.linked
    (drop (chain_size (chain_from is_open judged)) (drop i batch)) →
    chain_size (chain_from is_open judged) ≤ length (drop i batch) →
    Tells t b c (Ok refusal) (λ m. (trial_of rules m judged (first + i)).refusal) →
    IfSome refusal (λ r. r.place < length judged) →
    Leaves t b c (Ok refusal)
    (on_now (λ m. after_chain rules m (chain_from is_open judged) (first + i))) →
    more.items ≡ results.items
    ++ with_timestamps (first + i) (results_from rules (chain_from is_open judged) refusal) →
    vec_len more ≡ vec_len results + chain_size (chain_from is_open judged) →
    vec_capacity more ≡ vec_capacity results →
    IsRunning t rules batch first clock (i + chain_size (chain_from is_open judged)) a c before more
running_on t rules batch first clock i a b c before results more is_open judged refusal joins laws
    so_far cut fits told within call pushed len capacity =
    let chain = chain_from is_open judged in
    let was = λ (live : t.is_live c). joins.lived b c call.follows live in
    let left = λ (live : t.is_live c). ap (λ s. s.now) (call.state live) in
    record {
      run = runs_on t a b c refusal (λ m. after_chain rules m chain (first + i)) joins so_far.run
          call;
      reached = λ live.
          rw (left live, pushed)
          (run_on rules (t.state a).now before.items batch first i (t.state b).now results.items
          is_open judged refusal (so_far.reached (was live)) cut (told live) within);
      between = λ live. record {
        in_batch = rw (left live, ← add_assoc first i (chain_size chain))
            (chain_keeps_batch rules laws (t.state b).now chain (first + i) clock
            (so_far.between (was live)).in_batch);
        unmarked = ap (λ s. s.marked) (call.state live) ∙ (so_far.between (was live)).unmarked;
      };
      within = omega (arith, fits, length-drop i batch, so_far.within);
      room = omega (arith, len, capacity, so_far.room);
    }

pub ran_whole :
    {S E R : Type 0} (t : Meaning S) (rules : Rules E R) (batch : List E) (first clock i : ℕ)
    (a b : S) (before results : Vec (EventResult R) Global) →
    IsRunning t rules batch first clock i a b before results → length batch ≤ i →
    (t.is_live b →
    results.items ≡ before.items
    ++ with_timestamps first
    (chains_results rules (t.state a).now (chains_of rules.linked batch) first))
    × Leaves t a b (Ok (tt {0}))
    (on_now (λ m. after_chains rules m (chains_of rules.linked batch) first))
ran_whole t rules batch first clock i a b before results so_far past =
    let here = λ (live : t.is_live b). run_all rules (t.state a).now before.items batch first i
    (t.state b).now results.items (so_far.reached live) past in (
      λ live. (here live).0,
      as_one t a b (tt {0}) (λ m. after_chains rules m (chains_of rules.linked batch) first)
          so_far.run (λ live. (here live).1),
    )
