-- What rows that passed an audit say of the tables that they were read from.
use Rattle.std.proofs.Common.{◌≡◌, ℕ, ℤ, pos, List, [], ◌∷◌, map, Some, refl, sym, ap, subst, ◌∙◌, arith, All}
use Rattle.std.specs.BTreeSet.{contains}
use Rattle.std.specs.List.{AllByRecursion}
use Rattle.std.specs.List.Sorted.{IsPermutation}
use Rattle.std.specs.String.{string_bytes}
use Rattle.std.proofs.lemmas.List.Elements.{All-cons, All-nil, All-from_recursion, recursion_from_All}
use Rattle.std.proofs.lemmas.List.Sorted.{length_permutation, All-permutation, IsPermutation-map, IsPermutation-trans, IsPermutation-sym}
use Rattle.amount.specs.Column.{column_of}
use Rattle.records.specs.Machine.{Machine}
use Rattle.rows.specs.declared.all_rows.AllRows.{AllRows}
use Rattle.rows.specs.declared.all_rows.DirectoryRow.{DirectoryRow}
use Rattle.rows.specs.Cells.{account_cells, transfer_cells, balance_cells, status_cells, history_cells}
use Rattle.rows.specs.Prescribed.{rows_for}
use Rattle.rows.specs.TypedRows.{FileRows}
use Rattle.rows.specs.Widths.{AreStorable, IsStorableStatus}
use Rattle.audit.specs.Sound.{AreSound}
use Rattle.sqlite_value.specs.declared.value.Value.TheVariants.{Int}
use Rattle.sqlite_value.specs.Order.{Row, column}
use Rattle.sqlite_trees.specs.Tree.{Trees}
use Rattle.sqlite_trees.proofs.ListLemmas.{map-map, all_from_map, all-map, all_weaker, all_both, all-permutation}
use Rattle.ledger_sql.specs.TableRows.{directory_rows, clock_rows}
use Rattle.ledger_sql.specs.Values.{directory_values, clock_values, account_values, transfer_values, balance_values, status_values, history_values, id_values}
use Rattle.stored_tables.specs.Covers.{IsCovered}
use Rattle.stored_tables.specs.Holds.{HoldsMachine}
use Rattle.stored_ledgers.specs.Directory.{number_of}
use Rattle.stored_ledgers.specs.DueSets.{DueSet, due_cmp, CoversMachine}
use Rattle.openings.specs.Opened.{CoversCells}
use Rattle.openings.specs.Whole.{AreAllRows}
use Rattle.openings.specs.Tables.{AreTenantRows}
use Rattle.stored_ledgers.specs.DirectoryLaws.{found_row, all_among}

-- a list with the elements of a list of one
pub only_one : (rows : List Row) (row : Row) → IsPermutation rows (row ∷ []) → rows ≡ row ∷ []
only_one [] row one = absurd (omega (arith, length_permutation [] (row ∷ []) one))
only_one (first ∷ []) row one =
    let all = All-permutation (λ y. y ≡ row) (row ∷ []) (first ∷ []) (IsPermutation-sym (first ∷ []) (row ∷ []) one)
    (All-cons (λ y. y ≡ row) row [] refl (All-nil (λ y. y ≡ row))) in
    let same : first ≡ row = all 0 first (omega arith) in
    ap (λ (r : Row). r ∷ []) same
only_one (first ∷ next ∷ rows) row one = absurd (omega (arith, length_permutation (first ∷ next ∷ rows) (row ∷ []) one))

-- a table whose rows were read as these cells holds the typed rows
table_held : {R C : Type 0} (cells : R → C) (values : C → Row) (xs typed : List R) (own : List C) (rows : List Row)
    → IsPermutation xs typed → map cells typed ≡ own → IsPermutation rows (map values own)
    → IsPermutation (map (λ r. values (cells r)) xs) rows
table_held cells values xs typed own rows same are reads =
    IsPermutation-trans _ (map (λ r. values (cells r)) typed) rows
    (IsPermutation-map (λ r. values (cells r)) xs typed same)
    (subst (λ zs. IsPermutation zs rows) (map-map values cells typed)
    (subst (λ zs. IsPermutation (map values zs) rows) (sym are) (IsPermutation-sym rows (map values own) reads)))

module _ (number : ℤ) (trees : Trees) (own : FileRows) (read : AreTenantRows 3 number trees own)
    (sound : AreSound 3 own) where
  abbrev told : Machine
  told = sound.0

  clock_held : clock_rows number trees ≡ clock_values (pos (rows_for 3 told).clock) ∷ []
  clock_held =
      let clocks = ap (λ (rows : FileRows). rows.clocks) sound.2.cells in
      only_one (clock_rows number trees) (clock_values (pos sound.2.typed.clock))
      (subst (λ cs. IsPermutation (clock_rows number trees) (map clock_values cs)) (sym clocks) read.clocks.all)
      ∙ ap (λ clock. clock_values (pos clock) ∷ []) (sym sound.2.same.clock)

  -- the database holds the machine that the tenant's rows tell
  pub machine_held : HoldsMachine number told trees
  machine_held =
      let same = sound.2.same in
      let cells = sound.2.cells in record {
        valid = sound.1;
        rows = record {
          clock = clock_held;
          accounts = table_held account_cells account_values _ _ _ _ same.accounts
              (ap (λ (rows : FileRows). rows.accounts) cells) read.accounts.all;
          transfers = table_held transfer_cells transfer_values _ _ _ _ same.transfers
              (ap (λ (rows : FileRows). rows.transfers) cells) read.transfers.all;
          balances = table_held balance_cells balance_values _ _ _ _ same.balances
              (ap (λ (rows : FileRows). rows.balances) cells) (read.balances.there (omega arith)).all;
          statuses = table_held status_cells status_values _ _ _ _ same.statuses
              (ap (λ (rows : FileRows). rows.statuses) cells) (read.statuses.there (omega arith)).all;
          history = table_held history_cells history_values _ _ _ _ same.history
              (ap (λ (rows : FileRows). rows.history) cells) (read.history.there (omega arith)).all;
          failed = table_held column_of id_values _ _ _ _ same.failed
              (ap (λ (rows : FileRows). rows.failed) cells) (read.failed.there (omega arith)).all;
        };
      }

  -- and a set that was made of its statuses covers it
  pub machine_covered : (set : DueSet) → AreStorable (rows_for 3 told)
      → All (CoversCells set) own.statuses → CoversMachine set told
  machine_covered set fits covers =
      let typed = sound.2.typed.statuses in
      let statuses = ap (λ (rows : FileRows). rows.statuses) sound.2.cells in
      let each = all_from_map (CoversCells set) status_cells typed
      (subst (AllByRecursion (CoversCells set)) (sym statuses) (recursion_from_All (CoversCells set) _ covers)) in
      let widths = all-permutation IsStorableStatus (rows_for 3 told).statuses typed sound.2.same.statuses
      (recursion_from_All IsStorableStatus _ fits.statuses) in
      let there = all_both (λ row. CoversCells set (status_cells row)) IsStorableStatus (IsCovered (contains due_cmp set))
      (λ row covers fit. covers row fit refl) typed each widths in
      record {
        all = All-from_recursion (IsCovered (contains due_cmp set)) (rows_for 3 told).statuses
            (all-permutation (IsCovered (contains due_cmp set)) typed (rows_for 3 told).statuses
            (IsPermutation-sym (rows_for 3 told).statuses typed sound.2.same.statuses) there);
      }

module _ {version : ℕ} (trees : Trees) (all : AllRows) (read : AreAllRows version trees all) where
  abbrev values : DirectoryRow → Row
  values row = directory_values row.number (string_bytes row.name) row.digest

  -- what holds of the rows of each number in the directory
  of_numbers : (P : ℤ → Type 0) → AllByRecursion (λ row. P row.number) all.directory.items
      → AllByRecursion (λ row. (number : ℤ) → column row 0 ≡ Int number → P number) (directory_rows trees)
  of_numbers P each =
      all-permutation (λ row. (number : ℤ) → column row 0 ≡ Int number → P number) (map values all.directory.items)
      (directory_rows trees) (IsPermutation-sym (directory_rows trees) (map values all.directory.items) read.directory.all)
      (all-map (λ row. (number : ℤ) → column row 0 ≡ Int number → P number) values all.directory.items
      (all_weaker (λ (row : DirectoryRow). P row.number)
      (λ row. (number : ℤ) → column (values row) 0 ≡ Int number → P number)
      (λ row here number is. subst P (number_is row.number number is) here) all.directory.items each))
    where
      number_is : (a b : ℤ) → Int a ≡ Int b → a ≡ b
      number_is a b same = cc

  -- holds of each tenant's number
  pub of_tenant : (P : ℤ → Type 0) → AllByRecursion (λ row. P row.number) all.directory.items
      → (digest : List ℕ) (number : ℤ) → number_of digest trees ≡ Some number → P number
  of_tenant P each digest number is =
      let found = found_row digest number trees is in
      all_among (λ row. (number : ℤ) → column row 0 ≡ Int number → P number) (directory_rows trees) found.row
      (of_numbers P each) found.among number found.has_number

-- what holds of the number of each tenant in one reading does so in another
pub same_numbers : {version : ℕ} (trees : Trees) (all other : AllRows) → AreAllRows version trees all
    → AreAllRows version trees other → (P : ℤ → Type 0) → AllByRecursion (λ row. P row.number) all.directory.items
    → AllByRecursion (λ row. P row.number) other.directory.items
same_numbers trees all other read again P each =
    let stored = λ (row : DirectoryRow). directory_values row.number (string_bytes row.name) row.digest in
    let Q = λ (row : Row). (number : ℤ) → column row 0 ≡ Int number → P number in
    all_weaker (λ row. Q (stored row)) (λ (row : DirectoryRow). P row.number) (λ row holds. holds row.number refl)
    other.directory.items
    (all_from_map Q stored other.directory.items
    (all-permutation Q (directory_rows trees) (map stored other.directory.items) again.directory.all
    (of_numbers trees all read P each)))
