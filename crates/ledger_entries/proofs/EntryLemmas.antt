-- The entries of an account are those that join the rows of a range of its history.
use Rattle.std.proofs.Common.{◌≡◌, ℕ, ℤ, Bool, true, false, not, ◌&&◌, List, [], ◌++◌, map, filter, refl, sym, ap, subst, ◌∙◌, IsPermutation, true≢false}
use Rattle.std.specs.List.{AllByRecursion, flat_map}
use Rattle.std.proofs.lemmas.List.{append-nil}
use Rattle.std.proofs.lemmas.List.Sorted.{IsPermutation-map}
use Rattle.sqlite_value.specs.declared.value.Value.{Value}
use Rattle.sqlite_value.specs.declared.value.Value.TheVariants.{Null, Int, Real, Text, Blob}
use Rattle.sqlite_value.specs.Order.{Row, column, value_cmp}
use Rattle.sqlite_trees.specs.declared.store.Direction.{Direction}
use Rattle.sqlite_trees.specs.declared.store.Direction.TheVariants.{Forward}
use Rattle.sqlite_trees.specs.Tree.{Trees}
use Rattle.sqlite_trees.proofs.ListLemmas.{all_of, all-map, filter-map, filter_none, filter_same, flat_map-filter, flat_map-map, flat_map_same_on, map-map}
use Rattle.sqlite_sql.specs.Ops.{is_null}
use Rattle.keyed_trees.specs.Rows.{is_in_range, row_of}
use Rattle.rows.specs.declared.history_cells.HistoryCells.{HistoryCells}
use Rattle.rows.specs.declared.transfer_cells.TransferCells.{TransferCells}
use Rattle.ledger_sql.specs.Entries.{entries_when, entry_values}
use Rattle.ledger_sql.specs.Schema.{history_tree, transfer_tree}
use Rattle.ledger_sql.specs.TableRows.{cells_from, is_blob, is_int, is_own, is_same, transfer_rows}
use Rattle.ledger_sql.specs.Values.{history_values}
use Rattle.ledger_layout.specs.Keys.{by_entry, by_time}
use Rattle.ledger_layout.specs.declared.kind.TenantRow.{TenantRow}
use Rattle.ledger_layout.proofs.KeyLemmas.{filter_both, is_blob_is, is_int_is}
use Rattle.ledger_entries.specs.Handing.{entry_with, joined, transfer_columns, transfers_at}
use Rattle.ledger_entries.specs.Pieces.{history_columns}
use Rattle.ledger_entries.specs.Walks.{in_time}
use Rattle.ledger_entries.proofs.KeyOrder.{at_time, is_reached, range_is, reached_is, the_start, the_stop, time_key}

moved_in : (a b c n x : Bool) → (c && n) ≡ x → ((a && (b && c)) && n) ≡ (a && (b && x))
moved_in true true c n x e = e
moved_in true false c n x e = refl
moved_in false b c n x e = refl

module _ (tenant : ℤ) (trees : Trees) where
  -- the entries of the cells of a row of the history
  abbrev entries_of : Row → List Row
  entries_of cells =
      map (λ transfer. cells ++ transfer) (filter (λ transfer. is_same (column transfer 12) (column cells 1)) (transfer_rows tenant trees))

  joined_is : (row : Row) → joined tenant trees row ≡ entries_of (cells_from 2 6 row)
  joined_is row = append-nil (entries_of (cells_from 2 6 row))

  -- each entry has the time of its row
  pub joined_times : (row : Row) → AllByRecursion (λ e. column e 1 ≡ column row 3) (joined tenant trees row)
  joined_times row =
      subst (AllByRecursion (λ (e : Row). column e 1 ≡ column row 3)) (sym (joined_is row))
      (all-map (λ (e : Row). column e 1 ≡ column row 3) (λ transfer. cells_from 2 6 row ++ transfer) _ (all_of (λ transfer. column (cells_from 2 6 row ++ transfer) 1 ≡ column row 3) (λ transfer. refl) _))

  -- a row of no time has none
  no_time : (row : Row) → not (is_null (column row 3)) ≡ false → joined tenant trees row ≡ []
  no_time row null = joined_is row ∙ ap (map (λ transfer. cells_from 2 6 row ++ transfer)) (none (column row 3) null)
    where
      none : (v : Value) → not (is_null v) ≡ false → filter (λ transfer. is_same (column transfer 12) v) (transfer_rows tenant trees) ≡ []
      none Null e = filter_none (λ transfer. is_same (column transfer 12) Null) (transfer_rows tenant trees) (all_of _ (λ transfer. refl) _)
      none (Int n) e = absurd (true≢false e)
      none (Real x) e = absurd (true≢false e)
      none (Text t) e = absurd (true≢false e)
      none (Blob b) e = absurd (true≢false e)

  module _ (account : List ℕ) (time : ℤ) (d : Direction) where
    abbrev rows : List Row
    rows = trees history_tree

    abbrev in_reach : Row → Bool
    in_reach r = is_own tenant r && (is_blob account (column r 2) && is_reached d (value_cmp (column r 3) (Int time)))

    abbrev has_time : Row → Bool
    has_time r = not (is_null (column r 3))

    abbrev is_told : Row → Bool
    is_told r = is_blob account (column r 2) && in_time d time (column r 3)

    range_rows : filter (is_in_range by_entry d (the_start tenant account time) (the_stop tenant account)) rows ≡ filter in_reach rows
    range_rows =
        filter_same _ in_reach rows
        (all_of _ (λ r. range_is tenant account time d r ∙ (λ i. is_int_is tenant (column r 1) i && (is_blob_is account (column r 2) i && is_reached d (value_cmp (column r 3) (Int time))))) rows)

    told_rows : filter has_time (filter in_reach rows) ≡ filter is_told (filter (is_own tenant) rows)
    told_rows =
        filter_both in_reach has_time rows
        ∙ filter_same (λ r. in_reach r && has_time r) (λ r. is_own tenant r && is_told r) rows
        (all_of _ (λ r. moved_in (is_own tenant r) (is_blob account (column r 2)) (is_reached d (value_cmp (column r 3) (Int time))) (has_time r) _ (reached_is time d (column r 3))) rows)
        ∙ sym (filter_both (is_own tenant) is_told rows)

    pub entries_are : flat_map (joined tenant trees) (filter (is_in_range by_entry d (the_start tenant account time) (the_stop tenant account)) rows) ≡ entries_when tenant account (in_time d time) trees
    entries_are =
        ap (flat_map (joined tenant trees)) range_rows
        ∙ sym (flat_map-filter (joined tenant trees) has_time no_time (filter in_reach rows))
        ∙ ap (flat_map (joined tenant trees)) told_rows
        ∙ flat_map_same_on (joined tenant trees) (λ r. entries_of (cells_from 2 6 r)) joined_is (filter is_told (filter (is_own tenant) rows))
        ∙ sym (flat_map-map entries_of (cells_from 2 6) (filter is_told (filter (is_own tenant) rows)))
        ∙ ap (flat_map entries_of) (sym (filter-map (λ row. is_blob account (column row 0) && in_time d time (column row 1)) (cells_from 2 6) (filter (is_own tenant) rows)))

  -- what was read by the time of a row makes its entries
  pub transfers_join : (row : ℤ × TenantRow HistoryCells) (read : List (ℤ × TenantRow TransferCells)) → IsPermutation (transfers_at tenant row.1.cells.timestamp trees) (map (row_of transfer_columns) read)
      → IsPermutation (joined tenant trees (row_of history_columns row)) (map entry_values (map (entry_with row.1.cells) read))
  transfers_join row read same =
      let history = history_values row.1.cells in
      let time = row.1.cells.timestamp in
      let joins : Row → Row = λ r. history ++ cells_from 2 14 r in
      let there : joined tenant trees (row_of history_columns row) ≡ map joins (transfers_at tenant time trees) =
      joined_is (row_of history_columns row)
      ∙ ap (map (λ transfer. history ++ transfer))
      (filter-map (λ transfer. is_int time (column transfer 12)) (cells_from 2 14) (filter (is_own tenant) (trees transfer_tree))
      ∙ ap (map (cells_from 2 14)) (filter_both (is_own tenant) (λ r. is_int time (column r 14)) (trees transfer_tree)))
      ∙ map-map (λ transfer. history ++ transfer) (cells_from 2 14) (transfers_at tenant time trees) in
      let here : map joins (map (row_of transfer_columns) read) ≡ map entry_values (map (entry_with row.1.cells) read) =
      map-map joins (row_of transfer_columns) read ∙ sym (map-map entry_values (entry_with row.1.cells) read) in
      subst (λ xs. IsPermutation xs (map entry_values (map (entry_with row.1.cells) read))) (sym there)
      (subst (IsPermutation (map joins (transfers_at tenant time trees))) here (IsPermutation-map joins _ _ same))

pub transfers_found : (tenant time : ℤ) (trees : Trees) (read : List (ℤ × TenantRow TransferCells)) → IsPermutation (filter (is_in_range (by_time transfer_tree 12) Forward (time_key tenant time) (time_key tenant time)) (trees transfer_tree)) (map (row_of transfer_columns) read)
    → IsPermutation (transfers_at tenant time trees) (map (row_of transfer_columns) read)
transfers_found tenant time trees read all =
    subst (λ xs. IsPermutation xs (map (row_of transfer_columns) read)) (filter_same _ _ (trees transfer_tree) (all_of _ (at_time tenant time) (trees transfer_tree))) all
