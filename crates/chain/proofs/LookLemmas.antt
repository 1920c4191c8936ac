-- A list of ids, looked up one by one, and what is told of work that only reads.
use Rattle.std.proofs.Common.{◌≡◌, true, ℕ, ◌+◌, ◌<◌, Option, Some, None, List, [], ◌∷◌, ◌++◌, take, get_or, length, append-nil, Result, Ok, Err, inl, inr, refl, sym, ap, subst, ◌∙◌}
use Rattle.std.specs.List.{filter_map}
use Rattle.std.specs.Str.{bytes_eq}
use Rattle.std.proofs.lemmas.Bool.{cases_Bool, both_ways}
use Rattle.std.proofs.lemmas.Slice.Eq.{bytes_eq-Decides}
use Rattle.std.proofs.lemmas.List.{take_more}
use Rattle.std.proofs.lemmas.List.Elements.{filter_map-append}
use Rattle.records.specs.declared.transfer.Transfer.{Transfer}
use Rattle.records.specs.declared.unavailable.Unavailable.TheVariants.{Disk}
use Rattle.records.specs.Machine.{Machine, transfer_with}
use Rattle.chain.specs.declared.ledgers.BatchFault.{BatchFault}
use Rattle.chain.specs.declared.ledgers.BatchFault.TheVariants as batch_fault
use Rattle.chain.specs.declared.reads.ReadFault.{ReadFault}
use Rattle.chain.specs.declared.reads.ReadFault.TheVariants as fault
use Rattle.chain.specs.LedgerReads.{IsShown, IsTold, ReadsOnly, ReadsTenant, Seen, seen_in}
use Rattle.chain.specs.Ledgers.{Tenants, LedgersMeaning, KeepsAll, KeepsOthers, IsDone, IsRun, Finds, IsAnswered, LeadsBy}
use Rattle.records.specs.Reads.{AccountAnswer, Found}
use Rattle.chain.specs.declared.reading.AccountFault.{AccountFault}
use Rattle.chain.specs.Looks.{Answers, LeavesSame, Shows, account_answer, answer_of, read_answer}
use Rattle.chain.specs.Tables.{Meaning, State}
use Rattle.chain.proofs.TableCalls.{Joins, looks_in_turn}
use Rattle.engine.proofs.ValidMachineLemmas.{found_key}

-- the first of some ids are looked up, and the tables are as before
pub record HasLooked {S A : Type 0} (t : Meaning S) (look : Machine → ℕ → Option A) (ids : List ℕ)
    (count : ℕ) (old new : S) (found : List A) : Type 0 where
  pub leaves : LeavesSame t old new (Ok (tt {0}))
  pub found_is : t.is_live new → found ≡ filter_map (look (t.state old).now) (take count ids)

-- what one more id gives
abbrev pub given_by : {A : Type 0} → Option A → List A
given_by None = []
given_by (Some x) = x ∷ []

one_of : {A : Type 0} (look : ℕ → Option A) (id : ℕ) → filter_map look (id ∷ []) ≡ given_by (look id)
one_of look id = of (look id) refl
  where
    of : (x : _) → look id ≡ x → filter_map look (id ∷ []) ≡ given_by x
    of None is = rw is refl
    of (Some x) is = rw is refl

one_more :
    {A : Type 0} (look : ℕ → Option A) (ids : List ℕ) (count : ℕ) → count < length ids →
    filter_map look (take (count + 1) ids)
    ≡ filter_map look (take count ids) ++ given_by (look (get_or ids count 0))
one_more look ids count within =
    ap (filter_map look) (take_more ids count 0 within)
    ∙ filter_map-append look (take count ids) (get_or ids count 0 ∷ [])
    ∙ ap (λ xs. filter_map look (take count ids) ++ xs) (one_of look (get_or ids count 0))

-- what is found behind what was found
pub one_found :
    {A : Type 0} (found more : List A) (answer : Option A) (x : A) → answer ≡ Some x →
    more ≡ found ++ x ∷ [] → more ≡ found ++ given_by answer
one_found found more answer x is grown = grown ∙ ap (λ o. found ++ given_by o) (sym is)

pub none_found :
    {A : Type 0} (found more : List A) (answer : Option A) → answer ≡ None → more ≡ found →
    more ≡ found ++ given_by answer
none_found found more answer is same =
    same ∙ sym (append-nil found) ∙ ap (λ o. found ++ given_by o) (sym is)

-- one id more is looked up
pub looked_on :
    {S A X : Type 0} (t : Meaning S) (look : Machine → ℕ → Option A) (ids : List ℕ) (count : ℕ)
    (a b c : S) (found more : List A) (answer : Option A) (x : X) → Joins t →
    HasLooked t look ids count a b found → count < length ids →
    (t.is_live c → answer ≡ look (t.state b).now (get_or ids count 0)) →
    LeavesSame t b c (Ok x) → more ≡ found ++ given_by answer → HasLooked t look ids (count + 1) a c more
looked_on t look ids count a b c found more answer x joins so_far within told leaves grown =
    record {
      leaves = looks_in_turn t a b c _ _ _ joins so_far.leaves leaves;
      found_is = λ live.
          let before = joins.lived b c leaves.follows live in
          let m_is = ap (λ (s : State). s.now) (so_far.leaves.same before) in
          grown
          ∙ ap (λ xs. xs ++ given_by answer) (so_far.found_is before)
          ∙ ap (λ x. filter_map (look (t.state a).now) (take count ids) ++ given_by x)
          (told live ∙ ap (λ m. look m (get_or ids count 0)) m_is)
          ∙ sym (one_more (look (t.state a).now) ids count within);
    }

-- a machine that is as before under its digest, among others that are as before
one_kept :
    (digest : List ℕ) (old new : Tenants) → new digest ≡ old digest → KeepsOthers digest old new →
    KeepsAll old new
one_kept digest old new own others other =
    elim (cases_Bool (bytes_eq other digest)) [
      | inl same ↦
          let is : other ≡ digest = (bytes_eq-Decides other digest).0 same in
          subst (λ d. new d ≡ old d) (sym is) own
      | inr apart ↦
          others other (λ is. absurd (both_ways _ apart ((bytes_eq-Decides other digest).1 is)))
    ]

-- work that leaves its machine as it is keeps every machine
module _ {O : Type 0} (gives : Machine → O → Machine → Type 0)
    (stays : (before : Machine) (output : O) (after : Machine) → gives before output after → after ≡ before) where
  done_keeps : (digest : List ℕ) (old new : Tenants) (output : O) → IsDone gives digest old new output → KeepsAll old new
  done_keeps digest old new output done =
      one_kept digest old new
      (done.holds ∙ ap Some (stays done.before output done.after done.given) ∙ sym done.held) done.others

  pub run_keeps :
      (digest : List ℕ) (old new : Tenants) (result : Result O BatchFault) →
      IsRun gives digest old new result → KeepsAll old new
  run_keeps digest old new (Ok output) run = done_keeps digest old new output run
  run_keeps digest old new (Err batch_fault.UnknownKey) run = run.1
  run_keeps digest old new (Err (batch_fault.Unavailable why)) run = run

  -- what the read leaves
  pub read_so :
      {S : Type 0} (t : LedgersMeaning S) (digest : List ℕ) (old new : S) (result : Result O BatchFault) →
      (t.is_live new → IsRun gives digest (t.tenants old) (t.tenants new) result) →
      t.follows old new → ReadsOnly t old new
  read_so t digest old new result run follows = record {
    same = λ live. run_keeps digest (t.tenants old) (t.tenants new) result (run live);
    follows = follows;
  }

  answered : (result : Result O BatchFault) → IsTold (read_answer result) → IsAnswered result
  answered (Ok answer) told = tt
  answered (Err batch_fault.UnknownKey) told = tt
  answered (Err (batch_fault.Unavailable why)) told = absurd told

  -- and what may be found after it
  pub found_by :
      {S : Type 0} (t : LedgersMeaning S) (digest : List ℕ) (old new : S) (result : Result O BatchFault)
      (Told : Type 0) → (Told → IsAnswered result) →
      Finds t (IsAnswered result) (LeadsBy gives digest) old new → Finds t Told KeepsAll old new
  found_by t digest old new result Told is_answered finds = record {
    found = λ found may. elim (finds.found found may) [
      | inl before ↦ inl before
      | inr led ↦ inr (led.0, done_keeps digest (t.tenants old) found led.1.0 led.1.1)
    ];
    live = λ told. finds.live (is_answered told);
  }

  pub found_so :
      {S : Type 0} (t : LedgersMeaning S) (digest : List ℕ) (old new : S) (result : Result O BatchFault)
      (answer : Result O ReadFault) → answer ≡ read_answer result →
      Finds t (IsAnswered result) (LeadsBy gives digest) old new →
      Finds t (IsTold answer) KeepsAll old new
  found_so t digest old new result answer is finds =
      found_by t digest old new result (IsTold answer)
      (λ told. answered result (subst (λ (r : Result O ReadFault). IsTold r) is told)) finds

-- a transfer that is found is found by its own id
pub found_there :
    (id : ℕ) (transfers others : List Transfer) (found : Option Transfer) (transfer : Transfer) →
    found ≡ transfer_with id transfers → found ≡ Some transfer → others ≡ transfers →
    transfer_with transfer.id others ≡ Some transfer
found_there id transfers others found transfer told is same =
    let there = sym told ∙ is in
    ap (transfer_with transfer.id) same
    ∙ ap (λ n. transfer_with n transfers) (found_key (λ (t : Transfer). t.id) id transfers transfer there)
    ∙ there

-- what is told of work that answers about an account
pub account_told :
    {A X : Type 0} (shows : X → Seen A) (answer : Machine → AccountAnswer A) (digest : List ℕ) (old new : Tenants)
    (result : Result (Result X AccountFault) BatchFault) → IsRun (Answers shows answer) digest old new result →
    IsShown shows (seen_in answer (old digest)) (account_answer result)
account_told shows answer digest old new (Ok output) run =
    subst (λ (o : Option Machine). IsShown shows (seen_in answer o) (answer_of output)) (sym run.held) run.given.is
account_told shows answer digest old new (Err batch_fault.UnknownKey) run = ap (seen_in answer) run.0
account_told shows answer digest old new (Err (batch_fault.Unavailable why)) run = tt

pub account_answered :
    {X : Type 0} (result : Result (Result X AccountFault) BatchFault) (told : Result X ReadFault) →
    told ≡ account_answer result → IsTold told → IsAnswered result
account_answered {X} result told is answered =
    at result (subst (λ (r : Result X ReadFault). IsTold r) is answered)
  where
    at : (r : Result (Result X AccountFault) BatchFault) → IsTold (account_answer r) → IsAnswered r
    at (Ok output) h = tt
    at (Err batch_fault.UnknownKey) h = tt
    at (Err (batch_fault.Unavailable why)) h = absurd h

-- what is told of work that shows something
shown_told :
    {A X : Type 0} (shows : X → Seen A) (answer : Machine → A) (digest : List ℕ) (old new : Tenants)
    (result : Result X BatchFault) → IsRun (Shows shows answer) digest old new result →
    IsShown shows (seen_in (λ m. Found (answer m)) (old digest)) (read_answer result)
shown_told shows answer digest old new (Ok output) run =
    ap (seen_in (λ m. Found (answer m))) run.held ∙ sym (ap (λ (s : Seen _). Ok s) run.given.is)
shown_told shows answer digest old new (Err batch_fault.UnknownKey) run =
    ap (seen_in (λ m. Found (answer m))) run.0
shown_told shows answer digest old new (Err (batch_fault.Unavailable why)) run = tt

-- such work, as a read
pub shown_read :
    {S A X : Type 0} (shows : X → Seen A) (answer : Machine → A) (t : LedgersMeaning S) (digest : List ℕ)
    (old new : S) (result : Result X BatchFault) (told : Result X ReadFault) → told ≡ read_answer result →
    (t.is_live new → IsRun (Shows shows answer) digest (t.tenants old) (t.tenants new) result) →
    (t.has_failed old ≡ true → result ≡ Err (batch_fault.Unavailable Disk)) →
    Finds t (IsAnswered result) (LeadsBy (Shows shows answer) digest) old new →
    t.follows old new →
    ReadsTenant t digest (λ tenant. IsShown shows (seen_in (λ m. Found (answer m)) tenant)) old new told
shown_read {S} {A} {X} shows answer t digest old new result told is run failed finds follows = record {
  told = λ live.
      subst (λ (r : Result X ReadFault). IsShown shows (seen_in (λ m. Found (answer m)) (t.tenants old digest)) r)
      (sym is) (shown_told shows answer digest (t.tenants old) (t.tenants new) result (run live));
  failed = λ has. is ∙ ap read_answer (failed has);
  finds = found_so (Shows shows answer) (λ before output after given. given.same) t digest old new result told is finds;
  reads = read_so (Shows shows answer) (λ before output after given. given.same) t digest old new result run follows;
}

-- work that answers about an account, as a read
pub account_read :
    {S A X : Type 0} (shows : X → Seen A) (answer : Machine → AccountAnswer A) (t : LedgersMeaning S)
    (digest : List ℕ) (old new : S) (result : Result (Result X AccountFault) BatchFault)
    (told : Result X ReadFault) → told ≡ account_answer result →
    (t.is_live new → IsRun (Answers shows answer) digest (t.tenants old) (t.tenants new) result) →
    (t.has_failed old ≡ true → result ≡ Err (batch_fault.Unavailable Disk)) →
    Finds t (IsAnswered result) (LeadsBy (Answers shows answer) digest) old new →
    t.follows old new →
    ReadsTenant t digest (λ tenant. IsShown shows (seen_in answer tenant)) old new told
account_read {S} {A} {X} shows answer t digest old new result told is run failed finds follows = record {
  told = λ live.
      subst (λ (r : Result X ReadFault). IsShown shows (seen_in answer (t.tenants old digest)) r)
      (sym is) (account_told shows answer digest (t.tenants old) (t.tenants new) result (run live));
  failed = λ has. is ∙ ap account_answer (failed has);
  finds = found_by (Answers shows answer) (λ before output after given. given.same) t digest old new result _
      (account_answered result told is) finds;
  reads = read_so (Answers shows answer) (λ before output after given. given.same) t digest old new result run follows;
}

-- a batch that is refused for the disk, as a read
pub account_refused :
    {X : Type 0} (result : Result (Result X AccountFault) BatchFault) (told : Result X ReadFault) →
    told ≡ account_answer result → result ≡ Err (batch_fault.Unavailable Disk) →
    told ≡ Err (fault.Unavailable Disk)
account_refused result told is refused = is ∙ ap account_answer refused

-- and as it is handed on
pub refused_so :
    {X : Type 0} (result : Result (Unit {0}) ReadFault) (read : Result X ReadFault) (why : ReadFault) →
    result ≡ Err why → read ≡ Err why → read ≡ Err (fault.Unavailable Disk) →
    result ≡ Err (fault.Unavailable Disk)
refused_so result read why told was refused =
    let same : why ≡ fault.Unavailable Disk = (let e = sym was ∙ refused in cc) in
    told ∙ ap (λ (f : ReadFault). Err f) same

pub not_answered :
    {X : Type 0} (read : Result X ReadFault) (found : X) → read ≡ Ok found →
    read ≡ Err (fault.Unavailable Disk) → ⊥
not_answered read found was refused = let e = sym was ∙ refused in cc
