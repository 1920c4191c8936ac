-- What calls of a store leave, one after the other.
use Rattle.std.proofs.Common.{◌≡◌, ℕ, ℤ, Bool, true, false, true≢false, List, [], ◌∷◌, ◌++◌, map, append_assoc, Option, Some, None, Result, Ok, Err, IfOk, OnOk, OnErr, subst, sym, ap, ap₂, ◌∙◌, arith}
use Rattle.std.specs.Result.{is_err}
use Rattle.std.proofs.lemmas.List.{map-append}
use Rattle.sqlite_value.specs.Order.{Row, column}
use Rattle.sqlite_value.specs.declared.keys.Order.{Order}
use Rattle.sqlite_value.specs.declared.value.Value.{Value}
use Rattle.sqlite_value.specs.declared.value.Value.TheVariants.{Null, Int, Real, Text, Blob}
use Rattle.sqlite_trees.specs.declared.error.StoreError.{StoreError}
use Rattle.sqlite_trees.specs.declared.store.Store.{Ghosts}
use Rattle.sqlite_trees.specs.declared.store.Direction.TheVariants.{Forward}
use Rattle.sqlite_trees.specs.Tree.{from_key, sought}
use Rattle.sqlite_trees.specs.View.{Finds as IsAt, View, IsClean, KeepsSchema, IsFailure, IsQuiet, with_cursor}
use Rattle.sqlite_exec.specs.Calls.{OnlyReads}
use Rattle.sqlite_exec.specs.Loops.{left_of}
use Rattle.sqlite_exec.specs.Plan.{as_rowid}
use Rattle.sqlite_exec.proofs.CheckLemmas.{from_no_key, placed}
use Rattle.sqlite_rules.proofs.ViewLemmas.{still_quiet, reads_again}
use Rattle.keyed_trees.specs.Rows.{Finds, FindsAt, FindsRow, IsReadOf, columns_of, row_of}
use Rattle.keyed_trees.specs.StoreCalls.{ReadsStore}

-- a clause on one outcome, at that outcome
pub when_err : {A E : Type 0} {P : Type 0} (r : Result A E) → true ≡ is_err r → OnErr r P → P
when_err (Ok x) is h = absurd (true≢false is)
when_err (Err e) is h = h

pub when_ok : {A E : Type 0} {P : Type 0} (r : Result A E) → false ≡ is_err r → OnOk r P → P
when_ok (Ok x) is h = h
when_ok (Err e) is h = absurd (true≢false (sym is))

pub no_err : {A E : Type 0} (P : Type 0) (r : Result A E) → false ≡ is_err r → OnErr r P
no_err P (Ok x) is = tt
no_err P (Err e) is = absurd (true≢false (sym is))

-- a failure after a read is one since before the read
failure_after : (a b c : View) (e : StoreError) → OnlyReads a b → IsFailure b c e → IsFailure a c e
failure_after a b c e same it = record {
  kept = record {
    shape = it.kept.shape ∙ ap (λ (v : View). v.shape) same;
    reals = it.kept.reals ∙ ap (λ (v : View). v.reals) same;
    committed_shape = it.kept.committed_shape ∙ ap (λ (v : View). v.committed_shape) same;
    committed_reals = it.kept.committed_reals ∙ ap (λ (v : View). v.committed_reals) same;
    numbered = it.kept.numbered ∙ ap (λ (v : View). v.is_numbered) same;
    was_open = λ h. rw (← ap (λ (v : View). v.is_open) same) (it.kept.was_open h);
    committed = λ h. it.kept.committed h ∙ ap (λ (v : View). v.committed) same;
    marks = λ h. it.kept.marks h ∙ ap (λ (v : View). v.marks) same;
  };
  unchanged = λ h. it.unchanged h ∙ ap (λ (v : View). let w : View = record v { cursors = c.cursors } in w) same;
  refused = λ clean h. it.refused clean h ∙ ap (λ (v : View). let w : View = record v { cursors = c.cursors } in w) same;
}

-- where nothing but cursors has changed, any error may be answered
pub failure_same : (a b : View) (e : StoreError) → OnlyReads a b → IsFailure a b e
failure_same a b e same = record {
  kept = record {
    shape = ap (λ (v : View). v.shape) same;
    reals = ap (λ (v : View). v.reals) same;
    committed_shape = ap (λ (v : View). v.committed_shape) same;
    committed_reals = ap (λ (v : View). v.committed_reals) same;
    numbered = ap (λ (v : View). v.is_numbered) same;
    was_open = λ h. sym (ap (λ (v : View). v.is_open) same) ∙ h;
    committed = λ h. ap (λ (v : View). v.committed) same;
    marks = λ h. ap (λ (v : View). v.marks) same;
  };
  unchanged = λ h. same;
  refused = λ clean h. same;
}

pub schema_still : (a b c : View) → KeepsSchema a b → KeepsSchema b c → KeepsSchema a c
schema_still a b c p q = record {
  shape = q.shape ∙ p.shape;
  reals = q.reals ∙ p.reals;
  committed_shape = q.committed_shape ∙ p.committed_shape;
  committed_reals = q.committed_reals ∙ p.committed_reals;
  numbered = q.numbered ∙ p.numbered;
}

-- a call that failed, after calls that read
pub failed_since : {S A : Type 0} (g : Ghosts S) (a b c : S) (e : StoreError) → (IsClean (g.view b) → OnlyReads (g.view a) (g.view b)) → KeepsSchema (g.view a) (g.view b) → IsQuiet g.view g.faults g.recovers g.is_shielded a b
    → (IsClean (g.view c) → IsFailure (g.view b) (g.view c) e) → KeepsSchema (g.view b) (g.view c) → IsQuiet g.view g.faults g.recovers g.is_shielded b c → ReadsStore {A = A} g a c (Err e)
failed_since g a b c e same schema quiet failure more then = record {
  same = λ clean. tt;
  sound = λ clean. tt;
  err = λ clean. failure_after (g.view a) (g.view b) (g.view c) e (same (omega (arith, then.clean))) (failure clean);
  schema = schema_still (g.view a) (g.view b) (g.view c) schema more;
  quiet = still_quiet quiet then;
}

-- calls that have only read, whatever they answered
pub read_only : {S A : Type 0} (g : Ghosts S) (a b : S) (r : Result A StoreError) → (IsClean (g.view b) → OnlyReads (g.view a) (g.view b)) → (IsClean (g.view b) → (g.view a).is_broken ≡ false) → KeepsSchema (g.view a) (g.view b)
    → IsQuiet g.view g.faults g.recovers g.is_shielded a b → ReadsStore g a b r
read_only g a b (Ok x) same sound schema quiet = record { same = same; sound = sound; err = λ clean. tt; schema = schema; quiet = quiet }
read_only g a b (Err e) same sound schema quiet =
    record { same = λ clean. tt; sound = λ clean. tt; err = λ clean. failure_same (g.view a) (g.view b) e (same clean); schema = schema; quiet = quiet }

-- the same, after calls that have only read
pub read_on : {S A : Type 0} (g : Ghosts S) (a b c : S) (r : Result A StoreError) → (IsClean (g.view b) → OnlyReads (g.view a) (g.view b)) → (IsClean (g.view b) → (g.view a).is_broken ≡ false) → KeepsSchema (g.view a) (g.view b)
    → IsQuiet g.view g.faults g.recovers g.is_shielded a b → (IsClean (g.view c) → OnlyReads (g.view b) (g.view c)) → KeepsSchema (g.view b) (g.view c) → IsQuiet g.view g.faults g.recovers g.is_shielded b c → ReadsStore g a c r
read_on g a b c r same sound schema quiet more then after =
    read_only g a c r (λ clean. reads_again (g.view a) (g.view b) (g.view c) (same (omega (arith, after.clean))) (more clean)) (λ clean. sound (omega (arith, after.clean)))
    (schema_still (g.view a) (g.view b) (g.view c) schema then) (still_quiet quiet after)

-- a cursor that was placed before all rows of a table
pub placed_before : (old new : View) (o : Order) (table t : ℕ) (key : Row) → key ≡ [] → table ≡ t → new ≡ with_cursor old 0 (sought o Forward key (old.trees table)) → left_of new 0 ≡ old.trees t
placed_before old new o table t key none is at =
    ap (λ (v : View). left_of v 0) at ∙ placed old 0 (sought o Forward key (old.trees table)) ∙ ap (λ k. from_key o k (old.trees table)) none ∙ from_no_key o (old.trees table) ∙ ap old.trees is

pub placed_reads : (old new : View) (left : List Row) → new ≡ with_cursor old 0 left → OnlyReads old new
placed_reads old new left e = e ∙ ap (λ (v : View). let w : View = record old { cursors = v.cursors } in w) (sym e)

pub same_reads : (a b : View) → b ≡ a → OnlyReads a b
same_reads a b e = e ∙ ap (λ (v : View). let w : View = record a { cursors = v.cursors } in w) (sym e)

-- one more row was read of those before it
pub one_more : {R : Type 0} (cells : R → Row) (read pushed : List (ℤ × R)) (it : ℤ × R) (before after all : List Row) → pushed ≡ read ++ it ∷ [] → before ≡ row_of cells it ∷ after
    → map (row_of cells) read ++ before ≡ all → map (row_of cells) pushed ++ after ≡ all
one_more cells read pushed it before after all push step was =
    ap (λ xs. map (row_of cells) xs ++ after) push
    ∙ ap (λ xs. xs ++ after) (map-append (row_of cells) read (it ∷ []))
    ∙ append_assoc (map (row_of cells) read) (row_of cells it ∷ []) after
    ∙ ap (λ xs. map (row_of cells) read ++ xs) (sym step)
    ∙ was

-- what was found, as it was read from its row
pub found_read : {R E F : Type 0} (cells : R → Row) (test : Row → Bool) (rows : List Row) (row : Row) (found : Result Bool E) (read : Result (Option (ℤ × R)) F) → IfOk read (IsReadOf cells found row) → IfOk found (FindsRow test rows row) → IfOk read (Finds cells test rows)
found_read cells test rows row found (Err e) is there = tt
found_read cells test rows row found (Ok None) is there = subst (λ f. IfOk f (FindsRow test rows row)) is there
found_read cells test rows row found (Ok (Some it)) is there = subst (λ r. FindsRow test rows r true) is.1 (subst (λ f. IfOk f (FindsRow test rows row)) is.0 there)

-- so it is of the one row at a rowid
pub found_read_at : {R E F : Type 0} (cells : R → Row) (id : ℤ) (rows : List Row) (row : Row) (found : Result Bool E) (read : Result (Option (ℤ × R)) F) → IfOk read (IsReadOf cells found row) → IfOk found (IsAt rows id row) → IfOk read (FindsAt cells id rows)
found_read_at cells id rows row found (Err e) is there = tt
found_read_at cells id rows row found (Ok None) is there = subst (λ f. IfOk f (IsAt rows id row)) is there
found_read_at cells id rows row found (Ok (Some it)) is there = subst (λ r. IsAt rows id r true) is.1 (subst (λ f. IfOk f (IsAt rows id row)) is.0 there)

-- a row with a rowid is that and its columns
pub row_is : (row columns : Row) (id : ℤ) → as_rowid (column row 0) ≡ Some id → columns_of row ≡ columns → row ≡ Int id ∷ columns
row_is [] columns id at rest = absurd (let e : None ≡ Some id = at in cc)
row_is (v ∷ row) columns id at rest = ap₂ (λ first more. first ∷ more) (number v at) rest
  where
    number : (w : Value) → as_rowid w ≡ Some id → w ≡ Int id
    number Null at = absurd (cc)
    number (Int n) at = ap Int (let e : n ≡ id = cc in e)
    number (Real x) at = absurd (cc)
    number (Text t) at = absurd (cc)
    number (Blob b) at = absurd (cc)
