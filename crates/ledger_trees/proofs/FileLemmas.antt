-- What a call does to the directory and to the clocks, whose rowids are the tenants' numbers.
use Rattle.std.proofs.Common.{◌≡◌, ℕ, ℤ, Bool, true, false, not, cond, List, [], ◌∷◌, map, filter, refl, sym, ap, subst, ◌∙◌, IsPermutation, IsTrue}
use Rattle.std.specs.List.{AllByRecursion}
use Rattle.std.proofs.lemmas.Bool.Decides.{Decides-int_eq}
use Rattle.std.proofs.lemmas.List.Sorted.{IsPermutation-map}
use Rattle.sqlite_value.specs.declared.value.Value.{Value}
use Rattle.sqlite_value.specs.declared.value.Value.TheVariants.{Int, Text, Blob}
use Rattle.sqlite_value.specs.Order.{Row, column}
use Rattle.sqlite_trees.specs.Tree.{rowid, has_rowid, put_row}
use Rattle.sqlite_trees.specs.View.{is_int as is_number}
use Rattle.sqlite_trees.proofs.ListLemmas.{IsPermutation-filter, filter-map, filter_same, all_of, all-filter}
use Rattle.sqlite_rules.specs.Edit.{id_in}
use Rattle.sqlite_rules.proofs.TableLemmas.{int_is}
use Rattle.sqlite.specs.State.{State}
use Rattle.keyed_trees.specs.Effects as effect
use Rattle.ledger_sql.specs.Effects.{AddsFileRow, AddsRows, SetsDigest, SetsOne, WritesInside}
use Rattle.ledger_sql.specs.Rowids.{IsNumbered}
use Rattle.ledger_sql.specs.Schema.{ledger_schema, clock_tree, tenant_tree}
use Rattle.ledger_sql.specs.TableRows.{is_int, cells_from, clock_rows, directory_rows}
use Rattle.ledger_sql.specs.Values.{clock_values, directory_values}
use Rattle.ledger_layout.specs.FileRows.{clock_columns, tenant_columns}
use Rattle.ledger_layout.specs.Keys.{ledger_keys}
use Rattle.ledger_layout.proofs.FrameLemmas.{inside}
use Rattle.ledger_layout.proofs.KeyLemmas.{numbered}
use Rattle.ledger_trees.proofs.EffectLemmas.{tables_stay}
use Rattle.ledger_trees.proofs.PutLemmas.{put_free, put_aside, numbered_put}
use Rattle.ledger_trees.proofs.RowLemmas.{one_mapped, replaced, kept_aside, it_passes, same_int, other_int}

all_stay : {A : Type 0} (xs : List A) → filter (λ _. true) xs ≡ xs
all_stay [] = refl
all_stay (x ∷ xs) = ap (λ ys. x ∷ ys) (all_stay xs)

none_stay : {A : Type 0} (xs : List A) → filter (λ _. false) xs ≡ []
none_stay [] = refl
none_stay (x ∷ xs) = none_stay xs

none_both : {A : Type 0} (p : A → Bool) (xs : List A) → filter p (filter (λ x. not (p x)) xs) ≡ []
none_both p [] = refl
none_both p (x ∷ xs) = at (p x) refl (none_both p xs)
  where
    at : (b : Bool) → p x ≡ b → filter p (filter (λ x. not (p x)) xs) ≡ [] → filter p (filter (λ x. not (p x)) (x ∷ xs)) ≡ []
    at true is more = ap (λ b. filter p (cond (not b) (x ∷ filter (λ x. not (p x)) xs) (filter (λ x. not (p x)) xs))) is ∙ more
    at false is more =
        ap (λ b. filter p (cond (not b) (x ∷ filter (λ x. not (p x)) xs) (filter (λ x. not (p x)) xs))) is
        ∙ ap (λ b. cond b (x ∷ filter p (filter (λ x. not (p x)) xs)) (filter p (filter (λ x. not (p x)) xs))) is ∙ more

-- a value that is this number
number_is : (n : ℤ) (v : Value) → IsTrue (is_number v) → is_int n v ≡ true → v ≡ Int n
number_is n v whole is =
    let held = int_is v whole in
    let same : id_in v ≡ n = (Decides-int_eq (id_in v) n).0 (ap (is_int n) (sym held) ∙ is) in
    held ∙ ap Int same

-- the row of the directory that a row of its table is
abbrev seen : Row → Row
seen row = column row 0 ∷ cells_from 2 2 row

-- the clock that a row of its table is
abbrev clock_of : Row → Row
clock_of = cells_from 2 1

module _ (old new : State) (ledger : old.now.schema ≡ ledger_schema) where
  abbrev tenants : List Row
  tenants = old.now.trees tenant_tree

  abbrev clocks : List Row
  clocks = old.now.trees clock_tree

  pub adds_tenant : (number : ℤ) (name digest : List ℕ) → effect.AddsAt ledger_keys tenant_tree number (tenant_columns name digest) old new → AddsFileRow directory_rows tenant_tree (directory_values number name digest) old new
  adds_tenant number name digest it = record {
    all = subst (λ rows. IsPermutation (directory_values number name digest ∷ map seen tenants) (map seen rows)) (sym it.rows) (IsPermutation-map seen _ _ (put_free number (tenant_columns name digest) tenants it.free));
    tables = tables_stay tenant_tree old new ledger it.others;
    inside = inside old new it.inside;
    numbered = λ was. subst IsNumbered (sym it.rows) (numbered_put number (tenant_columns name digest) tenants was);
  }

  pub adds_clock : (tenant clock : ℤ) → effect.AddsAt ledger_keys clock_tree tenant (clock_columns clock) old new → AddsRows clock_rows clock_tree tenant (clock_values clock ∷ []) old new
  adds_clock tenant clock it =
      let added : Row = Int tenant ∷ clock_columns clock in
      let own = λ (r : Row). is_int tenant (column r 0) in
      let mine : filter own (added ∷ clocks) ≡ added ∷ filter own clocks = ap (λ b. cond b (added ∷ filter own clocks) (filter own clocks)) (same_int tenant) in
      record {
        own = subst (λ rows. IsPermutation (clock_values clock ∷ clock_rows tenant old.now.trees) (map clock_of (filter own rows))) (sym it.rows)
            (subst (λ rows. IsPermutation (map clock_of rows) (map clock_of (filter own (put_row added clocks)))) mine
            (IsPermutation-map clock_of _ _ (IsPermutation-filter own _ _ (put_free tenant (clock_columns clock) clocks it.free))));
        others = λ other ne.
            ap (λ rows. map clock_of (filter (λ r. is_int other (column r 0)) rows)) it.rows
            ∙ ap (map clock_of) (put_aside tenant (clock_columns clock) (λ r. is_int other (column r 0)) clocks (other_int tenant other ne) it.free);
        tables = tables_stay clock_tree old new ledger it.others;
        inside = inside old new it.inside;
        numbered = λ was. subst IsNumbered (sym it.rows) (numbered_put tenant (clock_columns clock) clocks was);
      }

  -- a row that is found by its number has it as its rowid
  at_number : (number : ℤ) (was : Row) (rows : List Row) → IsNumbered rows → filter (λ r. is_int number (column r 0)) rows ≡ was ∷ [] → (rowid was ≡ Int number) × (filter (has_rowid number) rows ≡ was ∷ [])
  at_number number was rows whole one =
      let whole_one = (subst (AllByRecursion (λ r. IsTrue (is_number (rowid r)))) one (all-filter (λ r. IsTrue (is_number (rowid r))) (λ r. is_int number (column r 0)) rows whole.whole)).0 in
      let passes = it_passes (λ r. is_int number (column r 0)) was was refl rows one in
      (number_is number (rowid was) whole_one passes, filter_same (has_rowid number) (λ r. is_int number (column r 0)) rows (all_of _ (numbered number) rows) ∙ one)

  pub sets_clock : (tenant clock : ℤ) → effect.PutsInto ledger_keys clock_tree (Int tenant ∷ clock_columns clock) old new → SetsOne clock_rows clock_tree tenant (λ _. true) (clock_values clock) old new
  sets_clock tenant clock it = record {
    inside = inside old new it.inside;
    one = λ row single whole.
        let found = one_mapped clock_of (filter own clocks) row (sym (all_stay (map clock_of (filter own clocks))) ∙ single) in
        let was = found.0 in
        let same = (at_number tenant was clocks whole found.1).0 in
        let rest = filter (λ r. not (own r)) clocks in
        let moved = IsPermutation-map clock_of _ _ (IsPermutation-filter own (later ∷ rest) (put_row later clocks) (replaced own was later same clocks whole.rise found.1)) in
        let front : map clock_of (filter own (later ∷ rest)) ≡ clock_values clock ∷ filter (λ _. not true) (clock_rows tenant old.now.trees) =
        ap (λ b. map clock_of (cond b (later ∷ filter own rest) (filter own rest))) (same_int tenant)
        ∙ ap (λ xs. clock_values clock ∷ xs) (ap (map clock_of) (none_both own clocks) ∙ sym (none_stay (clock_rows tenant old.now.trees))) in
        record {
          own = subst (λ xs. IsPermutation (clock_values clock ∷ filter (λ _. not true) (clock_rows tenant old.now.trees)) (map clock_of (filter own xs))) (sym it.rows)
              (subst (λ xs. IsPermutation xs (map clock_of (filter own (put_row later clocks)))) front moved);
          others = λ other ne.
              ap (λ xs. map clock_of (filter (λ r. is_int other (column r 0)) xs)) it.rows
              ∙ ap (map clock_of) (kept_aside own was later same (λ r. is_int other (column r 0)) (ap (is_int other) same ∙ other_int tenant other ne) (other_int tenant other ne) clocks whole.rise found.1);
          tables = tables_stay clock_tree old new ledger it.others;
          inside = inside old new it.inside;
          numbered = subst IsNumbered (sym it.rows) (numbered_put tenant (clock_columns clock) clocks whole);
        };
  }
    where
      later : Row
      later = Int tenant ∷ clock_columns clock

      own : Row → Bool
      own r = is_int tenant (column r 0)

  -- where one row of the directory has the number, what was found is that row
  pub sets_digest : (number id : ℤ) (name earlier digest : List ℕ) → filter (has_rowid number) tenants ≡ (Int id ∷ tenant_columns name earlier) ∷ []
      → effect.PutsInto ledger_keys tenant_tree (Int number ∷ tenant_columns name digest) old new → SetsDigest number digest old new
  sets_digest number id name earlier digest there it = record {
    inside = inside old new it.inside;
    one = λ its_name its_digest single whole.
        let found = one_mapped seen (filter own tenants) (directory_values number its_name its_digest) (sym (filter-map own seen tenants) ∙ single) in
        let was = found.0 in
        let at = at_number number was tenants whole found.1 in
        let same_row : was ≡ Int id ∷ tenant_columns name earlier = let e : was ∷ [] ≡ (Int id ∷ tenant_columns name earlier) ∷ [] = sym at.1 ∙ there in cc in
        let shown : Int id ∷ Text name ∷ Blob earlier ∷ [] ≡ directory_values number its_name its_digest = ap seen (sym same_row) ∙ found.2 in
        let name_is : name ≡ its_name = cc in
        let moved = IsPermutation-map seen _ _ (replaced own was later at.0 tenants whole.rise found.1) in
        record {
          directory = subst (λ n. IsPermutation (directory_values number n digest ∷ filter (λ r. not (own r)) (map seen tenants)) (map seen (new.now.trees tenant_tree))) name_is
              (subst (λ xs. IsPermutation (directory_values number name digest ∷ filter (λ r. not (own r)) (map seen tenants)) (map seen xs)) (sym it.rows)
              (subst (λ xs. IsPermutation (directory_values number name digest ∷ xs) (map seen (put_row later tenants))) (sym (filter-map (λ r. not (own r)) seen tenants)) moved));
          tables = tables_stay tenant_tree old new ledger it.others;
          numbered = subst IsNumbered (sym it.rows) (numbered_put number (tenant_columns name digest) tenants whole);
        };
  }
    where
      later : Row
      later = Int number ∷ tenant_columns name digest

      own : Row → Bool
      own r = is_int number (column r 0)

  -- where no row has the number, none is set
  pub sets_no_digest : (number : ℤ) (digest : List ℕ) → filter (has_rowid number) tenants ≡ [] → WritesInside old new → SetsDigest number digest old new
  sets_no_digest number digest none stays = record {
    inside = stays;
    one = λ its_name its_digest single whole.
        let found = one_mapped seen (filter (λ r. is_int number (column r 0)) tenants) (directory_values number its_name its_digest) (sym (filter-map (λ r. is_int number (column r 0)) seen tenants) ∙ single) in
        let at = at_number number found.0 tenants whole found.1 in
        absurd (let e = sym none ∙ at.1 in cc);
  }
