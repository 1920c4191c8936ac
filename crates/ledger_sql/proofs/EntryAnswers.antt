-- An account's entries as they are read, one after the other.
use Rattle.std.proofs.Common.{◌≡◌, ◌⊎◌, ℕ, ◌≤◌, ℤ, pos, List, [], ◌∷◌, ◌++◌, length, map, take, drop, Bool, true, false, Option, Some, None, Ok, Err, Result, IfOk, OnOk, OnErr, inl, inr, refl, sym, ap, subst, ◌∙◌, arith, append_assoc}
use Rattle.std.specs.Prelude.{IsErr}
use Rattle.std.specs.declared.cmp.Ordering.{Ordering}
use Rattle.std.specs.List.Sorted.{IsPermutation, IsSorted}
use Rattle.std.proofs.lemmas.List.{append-nil, length-append, length-map, length-take, take-append-drop}
use Rattle.records.specs.declared.unavailable.Unavailable.{Unavailable}
use Rattle.sqlite_value.specs.declared.value.Value.{Value}
use Rattle.sqlite_value.specs.declared.value.Value.TheVariants.{Int, Blob}
use Rattle.sqlite_value.specs.Order.{Row, column, value_cmp}
use Rattle.sqlite_value.proofs.OrderLemmas.{then-Equal}
use Rattle.sqlite_schema.specs.declared.schema.Schema.{Schema}
use Rattle.sqlite_sql.specs.declared.ops.CompareOp.{CompareOp}
use Rattle.sqlite_sql.specs.declared.ops.CompareOp.TheVariants.{Ge, Le}
use Rattle.sqlite_sql.specs.Term.{Term, Env, eval}
use Rattle.sqlite_sql.specs.Query.{output, output_cmp, as_count, limited}
use Rattle.sqlite.specs.State.{State, HasCleanDisk, Shown, Begins}
use Rattle.ledger_sql.specs.declared.entry_cells.EntryCells.{EntryCells}
use Rattle.ledger_sql.specs.declared.table_fault.TableFault.{TableFault}
use Rattle.ledger_sql.specs.Effects.{IsLedger}
use Rattle.ledger_sql.specs.Entries.{entry_values, entries_when, ReadsFirst, HandsUpTo}
use Rattle.ledger_sql.specs.Handing.{HandsRows}
use Rattle.ledger_sql.specs.TableRows.{is_from, is_until}
use Rattle.ledger_sql.proofs.EntryTexts.{entry_query, given_limit, IsEntryText, first_from_text, first_from_query, first_until_text, first_until_query}
use Rattle.ledger_sql.proofs.ReadingTexts.{ledger_means}
use Rattle.ledger_sql.proofs.EntryLemmas.{AreFirst, compares, compares_from, compares_until, keys, entries_shown, entries_begun}

-- ---- the first of some entries

abbrev behind : Option ℕ → List Row → List Row
behind None rows = []
behind (Some n) rows = drop n rows

cut_whole : (much : Option ℕ) (rows : List Row) → limited much rows ++ behind much rows ≡ rows
cut_whole None rows = append-nil rows
cut_whole (Some n) rows = take-append-drop n rows

begins_first : (much : Option ℕ) (entries : List Row) (cmp : Row → Row → Ordering) (read : List EntryCells) (tail : List Row) → AreFirst much entries cmp (map entry_values read ++ tail) → ReadsFirst entries (IsSorted cmp) read
begins_first much entries cmp read tail it =
    let left = behind much it.ordered in
    let whole : it.ordered ≡ map entry_values read ++ (tail ++ left) = sym (sym (append_assoc (map entry_values read) tail left) ∙ ap (λ rows. rows ++ left) it.rows_are ∙ cut_whole much it.ordered) in
    record { rest = tail ++ left; all = subst (IsPermutation entries) whole it.all; order = subst (IsSorted cmp) whole it.order }

no_more_than : (n : ℕ) (entries : List Row) (cmp : Row → Row → Ordering) (read : List EntryCells) (tail : List Row) → AreFirst (Some n) entries cmp (map entry_values read ++ tail) → length read ≤ n
no_more_than n entries cmp read tail it =
    let rows_are : map entry_values read ++ tail ≡ take n it.ordered = it.rows_are in
    let long = ap length rows_are in
    omega (arith, long, length-append (map entry_values read) tail, length-map read entry_values, length-take n it.ordered)

over_so : {P Q : Type 0} (got : Result (Unit {0}) Unavailable) → (P → Q) → OnOk got P → OnOk got Q
over_so (Ok u) f p = f p
over_so (Err e) f p = tt

module _ (sql : List ℕ) (op : CompareOp) (descending : Bool) (limit : Term) (tenant : ℤ) (account : List ℕ) (time : ℤ) (more : Row) (in_time : Value → Bool) (tests : (v : Value) → compares op time v ≡ in_time v)
    (cmp : Row → Row → Ordering)
    (same : (x y : Env) → output_cmp (entry_query op descending limit) (output (entry_query op descending limit) x) (output (entry_query op descending limit) y)
    ≡ cmp (output (entry_query op descending limit) x).1 (output (entry_query op descending limit) y).1)
    (old new : State) (key : Row) (is : key ≡ keys tenant account time more op in_time tests) where
  abbrev entries : List Row
  entries = entries_when tenant account in_time old.now.trees

  abbrev much : Option ℕ
  much = as_count (eval limit (keys tenant account time more op in_time tests ∷ []))

  abbrev IsText : Type 0
  IsText = IsEntryText op descending limit sql old.now.schema

  abbrev Saw : Type 0
  Saw = HasCleanDisk new × IsLedger old.now.schema

  all_first : IsText → (read : List EntryCells) → Shown sql key old new (map entry_values read) → AreFirst much entries cmp (map entry_values read)
  all_first text read shown =
      entries_shown sql old.now.schema op descending limit text old new refl tenant account time more in_time tests cmp same (map entry_values read) (subst (λ k. Shown sql k old new (map entry_values read)) is shown)

  some_first : IsText → (read : List EntryCells) → Begins sql key old (map entry_values read) → (tail : List Row) × AreFirst much entries cmp (map entry_values read ++ tail)
  some_first text read begun =
      entries_begun sql old.now.schema op descending limit text old new refl tenant account time more in_time tests cmp same (map entry_values read) (subst (λ k. Begins sql k old (map entry_values read)) is begun)

  module _ {K : Type 0} (takes : K → EntryCells → K → Type 0) (is_full : K → Bool) (text : IsLedger old.now.schema → IsText) (before after : K)
      (r : Result (Unit {0}) TableFault) (h : HandsRows takes is_full sql key old new before after r) (got : Result (Unit {0}) Unavailable) where
    still : (got : Result (Unit {0}) Unavailable) (r : Result (Unit {0}) TableFault) → OnErr got (IsErr r) → OnErr r (is_full after ≡ false) → OnErr got (is_full after ≡ false)
    still (Ok u) r failed wants = tt
    still (Err e) (Ok u) failed wants = absurd (cc)
    still (Err e) (Err f) failed wants = wants

    begun : Saw → (h.handed ≡ []) ⊎ ReadsFirst entries (IsSorted cmp) h.handed
    begun saw = elim (h.first saw.0) [
      | inl none ↦ inl none
      | inr some ↦ let it = some_first (text saw.1) h.handed some in inr (begins_first much entries cmp h.handed it.0 it.1)
    ]

    few : (n : ℕ) → much ≡ Some n → Saw → length h.handed ≤ n
    few n is_n saw = elim (h.first saw.0) [
      | inl none ↦ subst (λ (xs : List EntryCells). length xs ≤ n) (sym none) (omega arith)
      | inr some ↦
          let it = some_first (text saw.1) h.handed some in
          no_more_than n entries cmp h.handed it.0 (subst (λ o. AreFirst o entries cmp (map entry_values h.handed ++ it.0)) is_n it.1)
    ]

    over : (got : Result (Unit {0}) Unavailable) → IfOk got (λ u. r ≡ Ok u) → Saw → OnOk got ((is_full after ≡ true) ⊎ AreFirst much entries cmp (map entry_values h.handed))
    over (Err e) known saw = tt
    over (Ok u) known saw = elim (subst (λ r. OnOk r ((is_full after ≡ true) ⊎ Shown sql key old new (map entry_values h.handed))) known (h.ended saw.0)) [
      | inl full ↦ inl full
      | inr shown ↦ inr (all_first (text saw.1) h.handed shown)
    ]

-- ---- so many at most

-- a text that reads the entries on one side of a time, which is told by a test, in an order
pub record ReadsSide (sql : List ℕ) (in_time : ℤ → Value → Bool) (cmp : Row → Row → Ordering) : Type 0 where
  pub op : CompareOp
  pub descending : Bool
  pub tests : (time : ℤ) (v : Value) → compares op time v ≡ in_time time v
  pub same : (x y : Env) → output_cmp (entry_query op descending given_limit) (output (entry_query op descending given_limit) x) (output (entry_query op descending given_limit) y)
      ≡ cmp (output (entry_query op descending given_limit) x).1 (output (entry_query op descending given_limit) y).1
  pub means : (s : Schema) → IsLedger s → IsEntryText op descending given_limit sql s

pub oldest : ReadsSide first_from_text is_from (λ a b. value_cmp (column a 1) (column b 1))
oldest = record { op = Ge; descending = false; tests = compares_from; same = λ x y. then-Equal _; means = ledger_means first_from_query }

pub newest : ReadsSide first_until_text is_until (λ a b. value_cmp (column b 1) (column a 1))
newest = record { op = Le; descending = true; tests = compares_until; same = λ x y. then-Equal _; means = ledger_means first_until_query }

pub entries_up_to : {sql : List ℕ} {in_time : ℤ → Value → Bool} {cmp : Row → Row → Ordering} {K : Type 0} (side : ReadsSide sql in_time cmp) (tenant : ℤ) (account : List ℕ) (time : ℤ) (count : ℕ) (old new : State) (key : Row)
    → key ≡ Int tenant ∷ Blob account ∷ Int time ∷ Int (pos count) ∷ [] → (takes : K → EntryCells → K → Type 0) (is_full : K → Bool) (before after : K) (r : Result (Unit {0}) TableFault) → HandsRows takes is_full sql key old new before after r
    → (got : Result (Unit {0}) Unavailable) → IfOk got (λ u. r ≡ Ok u) → OnErr got (IsErr r) → HandsUpTo takes is_full (HasCleanDisk new × IsLedger old.now.schema) count (entries_when tenant account (in_time time) old.now.trees) (IsSorted cmp) before after got
entries_up_to {sql} {in_time} {cmp} side tenant account time count old new key is takes is_full before after r h got known failed =
    let limits = Int (pos count) ∷ [] in
    let text = side.means old.now.schema in
    record {
      handed = h.handed;
      taken = h.taken;
      within = few sql side.op side.descending given_limit tenant account time limits (in_time time) (side.tests time) cmp side.same old new key is takes is_full text before after r h got count refl;
      first = begun sql side.op side.descending given_limit tenant account time limits (in_time time) (side.tests time) cmp side.same old new key is takes is_full text before after r h got;
      ended = λ saw. over_so got (λ end. elim end [ inl full ↦ inl full | inr it ↦ inr (record { ordered = it.ordered; all = it.all; order = it.order; read_is = it.rows_are }) ])
          (over sql side.op side.descending given_limit tenant account time limits (in_time time) (side.tests time) cmp side.same old new key is takes is_full text before after r h got got known saw);
      wants = still sql side.op side.descending given_limit tenant account time limits (in_time time) (side.tests time) cmp side.same old new key is takes is_full text before after r h got got r failed h.wants;
    }
