-- From rows that were read to the answers of the calls.
use Rattle.std.proofs.Common.{◌≡◌, ◌+◌, ℕ, ℤ, Bool, List, [], ◌∷◌, filter, get_or, map, Option, Some, None, refl, sym, ap, subst, ◌∙◌, All, IsPermutation, IsSorted, Ordering, Result, Ok, Err, IfOk, is_lt, string_bytes}
use Rattle.std.specs.Ordering.{int_cmp, ordering_then}
use Rattle.std.proofs.lemmas.List.Sorted.{IsPermutation-map}
use Rattle.sqlite_value.specs.declared.value.Value.TheVariants.{Blob, Int}
use Rattle.sqlite_value.specs.Order.{Row, column, row_cmp, value_cmp}
use Rattle.sqlite_value.proofs.OrderLemmas.{then-Equal, value_cmp-Blob, value_cmp-Int}
use Rattle.sqlite_trees.specs.Tree.{Trees, has_rowid}
use Rattle.sqlite_trees.proofs.ListLemmas.{all_of, filter_same, IsPermutation-same, map-map}
use Rattle.sqlite_schema.specs.declared.schema.Schema.{Schema}
use Rattle.sqlite.specs.State.{State, HasCleanDisk}
use Rattle.keyed_trees.specs.Calls as call
use Rattle.keyed_trees.specs.Rows.{FindsAt, row_of}
use Rattle.rows.specs.declared.all_rows.DirectoryRow.{DirectoryRow}
use Rattle.ledger_layout.specs.declared.file_rows.ClockRow.{ClockRow}
use Rattle.ledger_layout.specs.declared.file_rows.TenantEntry.{TenantEntry}
use Rattle.ledger_layout.specs.FileRows.{clock_columns, tenant_columns, version_columns}
use Rattle.ledger_layout.proofs.FrameLemmas.{follows}
use Rattle.ledger_layout.proofs.KeyLemmas.{numbered}
use Rattle.ledger_sql.specs.Calls.{LeavesFound, LeavesListed, LeavesRead}
use Rattle.ledger_sql.specs.Entries.{ReadsUpTo}
use Rattle.ledger_sql.specs.Reading.{ReadsRows, clock_cmp, directory_cmp, id_cmp}
use Rattle.ledger_sql.specs.Schema.{clock_tree, schema_tree, tenant_tree}
use Rattle.ledger_sql.specs.TableRows.{cells_from, clock_rows, directory_rows, is_int, version_rows}
use Rattle.ledger_sql.specs.Values.{clock_values, directory_values, version_values}
use Rattle.ledger_spans.proofs.ListLemmas.{sorted_map}
use Rattle.ledger_spans.specs.Listing.{clocks_in, entry_of}

-- a call that only read, whatever is made of its answer
pub read_after : {A B E F : Type 0} (old new : State) (x : A) (r : Result B F) → call.LeavesRead {A = A} {E = E} old new (Ok x) → LeavesRead old new r
read_after old new x (Ok y) it = record { same = it.same; kept = it.kept; follows = follows old new it.follows }
read_after old new x (Err e) it = record { same = λ clean. tt; kept = it.kept; follows = follows old new it.follows }

-- the same, where the ledger's words are used already
pub read_again : {A B E F : Type 0} (old new : State) (x : A) (r : Result B F) → LeavesRead {A = A} {E = E} old new (Ok x) → LeavesRead old new r
read_again old new x (Ok y) it = record { same = it.same; kept = it.kept; follows = it.follows }
read_again old new x (Err e) it = record { same = λ clean. tt; kept = it.kept; follows = it.follows }

-- the rows of a span that were read, as what they stand for
pub found : {X C A Y E F G : Type 0} (part : X → C) (cells : A → C) (values : C → Row) (items : Y → List A) (most : ℕ) (there : Trees → List Row) (InOrder : List Row → Type 0) (Fits : A → Type 0) (old new : State) (read shown : List X) (was : G) (r : Result Y F)
    → (HasCleanDisk new → ReadsUpTo (λ x. values (part x)) most (there old.now.trees) InOrder read) → LeavesRead {A = G} {E = E} old new (Ok was) → shown ≡ read → IfOk r (λ y. map cells (items y) ≡ map part shown) → IfOk r (λ y. All Fits (items y))
    → LeavesFound (λ y. All Fits (items y)) (λ trees y. ReadsUpTo (λ a. values (cells a)) most (there trees) InOrder (items y)) old new r
found part cells values items most there InOrder Fits old new read shown was (Err e) is reads all same fits = record { ok = λ clean ledger. tt; fits = tt; reads = read_again old new was (Err e) reads }
found part cells values items most there InOrder Fits old new read shown was (Ok y) is reads all same fits = record {
  ok = λ clean ledger.
      let it = is clean in
      record {
        ordered = it.ordered;
        all = it.all;
        order = it.order;
        read_is = sym (map-map values cells (items y)) ∙ ap (map values) (same ∙ ap (map part) all) ∙ map-map values part read ∙ it.read_is;
      };
  fits = fits;
  reads = read_again old new was (Ok y) reads;
}

-- a table that was read whole
pub listed : {A Y E F : Type 0} (ours : Schema) (Answer : Trees → Y → Type 0) (old new : State) (was : A) (r : Result Y F) → (HasCleanDisk new → IfOk r (Answer old.now.trees)) → LeavesRead {A = A} {E = E} old new (Ok was) → LeavesListed ours Answer old new r
listed ours Answer old new was r is reads = record { whole = λ clean starts. is clean; reads = read_again old new was r reads }

-- the same, in the words of the tables over trees
pub listed_after : {A Y E F : Type 0} (ours : Schema) (Answer : Trees → Y → Type 0) (old new : State) (was : A) (r : Result Y F) → (HasCleanDisk new → IfOk r (Answer old.now.trees)) → call.LeavesRead {A = A} {E = E} old new (Ok was) → LeavesListed ours Answer old new r
listed_after ours Answer old new was r is reads = record { whole = λ clean starts. is clean; reads = read_after old new was r reads }

-- the columns alone of rows that were read, in the same order
pub parts : {X C : Type 0} (part : X → C) (values : C → Row) (cmp : Row → Row → Ordering) (table : List Row) (read : List X) (taken : List C) → taken ≡ map part read → ReadsRows (λ x. values (part x)) (λ a b. cmp (values (part a)) (values (part b))) table read
    → ReadsRows values (λ a b. cmp (values a) (values b)) table taken
parts part values cmp table read taken is it = subst (ReadsRows values (λ a b. cmp (values a) (values b)) table) (sym is) (record {
  all = subst (IsPermutation table) (sym (map-map values part read)) it.all;
  order = sorted_map (λ a b. cmp (values a) (values b)) part read it.order;
})

-- another word for the order
pub reordered : {R : Type 0} (values : R → Row) (one other : R → R → Ordering) (table : List Row) (read : List R) → ((a b : R) → one a b ≡ other a b) → ReadsRows values one table read → ReadsRows values other table read
reordered values one other table read same it = record {
  all = it.all;
  order = λ k d low high. ap is_lt (sym (same (get_or read (k + 1) d) (get_or read k d))) ∙ it.order k d low high;
}

pub by_id : (a b : List ℕ) → row_cmp (Blob a ∷ []) (Blob b ∷ []) ≡ id_cmp a b
by_id a b = then-Equal (value_cmp (Blob a) (Blob b)) ∙ value_cmp-Blob a b

pub by_id_and_time : (a b : List ℕ) (m n : ℤ) → row_cmp (Blob a ∷ Int m ∷ []) (Blob b ∷ Int n ∷ []) ≡ ordering_then (id_cmp a b) (int_cmp m n)
by_id_and_time a b m n = λ i. ordering_then (value_cmp-Blob a b i) ((then-Equal (value_cmp (Int m) (Int n)) ∙ value_cmp-Int m n) i)

-- ---- tables that no tenant owns

pub versions : {V : Type 0} (version : V → ℤ) (trees : Trees) (rows : List (ℤ × V)) (read : List ℤ) → map (row_of (λ v. version_columns (version v))) rows ≡ trees schema_tree → read ≡ map (λ row. version row.1) rows
    → IsPermutation (version_rows trees) (map version_values read)
versions version trees rows read is taken =
    IsPermutation-same _ _ (ap (map (λ (row : Row). column row 2 ∷ [])) (sym is) ∙ map-map (λ (row : Row). column row 2 ∷ []) (row_of (λ v. version_columns (version v))) rows ∙ sym (ap (map version_values) taken ∙ map-map version_values (λ row. version row.1) rows))

pub clocks : (tenant : ℤ) (trees : Trees) (found : Option (ℤ × ClockRow)) (read : List ℤ) → FindsAt (λ (row : ClockRow). clock_columns row.clock) tenant (trees clock_tree) found → read ≡ clocks_in found → ReadsRows clock_values clock_cmp (clock_rows tenant trees) read
clocks tenant trees found read there taken = record {
  all = subst (λ xs. IsPermutation (clock_rows tenant trees) (map clock_values xs)) (sym taken) (IsPermutation-same _ _ (is found there));
  order = λ k d low high. refl;
}
  where
    seen : Row → Row
    seen row = column row 2 ∷ []

    own : Row → Bool
    own row = is_int tenant (column row 0)

    rows : clock_rows tenant trees ≡ map seen (filter (has_rowid tenant) (trees clock_tree))
    rows = ap (map seen) (sym (filter_same (has_rowid tenant) own (trees clock_tree) (all_of _ (numbered tenant) (trees clock_tree))))

    is : (it : Option (ℤ × ClockRow)) → FindsAt (λ (row : ClockRow). clock_columns row.clock) tenant (trees clock_tree) it → clock_rows tenant trees ≡ map clock_values (clocks_in it)
    is None none = rows ∙ ap (map seen) none
    is (Some it) one = rows ∙ ap (map seen) one

pub directory_read : (trees : Trees) (entries : List (ℤ × TenantEntry)) (rows : List DirectoryRow) → map (row_of (λ (e : TenantEntry). tenant_columns (string_bytes e.name) e.digest)) entries ≡ trees tenant_tree → IsPermutation entries (map entry_of rows)
    → IsSorted directory_cmp rows → ReadsRows (λ (row : DirectoryRow). directory_values row.number (string_bytes row.name) row.digest) directory_cmp (directory_rows trees) rows
directory_read trees entries rows is all order =
    let shown : (ℤ × TenantEntry) → Row = row_of (λ (e : TenantEntry). tenant_columns (string_bytes e.name) e.digest) in
    let seen : Row → Row = λ row. column row 0 ∷ cells_from 2 2 row in
    let values : DirectoryRow → Row = λ row. directory_values row.number (string_bytes row.name) row.digest in
    record {
      all = subst (λ xs. IsPermutation xs (map values rows)) (sym (ap (map seen) (sym is) ∙ map-map seen shown entries))
          (subst (IsPermutation (map (λ e. seen (shown e)) entries)) (map-map (λ e. seen (shown e)) entry_of rows) (IsPermutation-map (λ e. seen (shown e)) entries (map entry_of rows) all));
      order = order;
    }
