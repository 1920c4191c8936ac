-- What is found in the directory and among the clocks.
use Rattle.std.proofs.Common.{◌≡◌, ℕ, ℤ, Bool, List, [], ◌∷◌, map, filter, Option, Some, None, option_map, sym, subst, string_bytes}
use Rattle.sqlite_value.specs.declared.value.Value.TheVariants.{Int, Text, Blob}
use Rattle.sqlite_value.specs.Order.{Row, column}
use Rattle.sqlite_trees.specs.Tree.{Trees, has_rowid}
use Rattle.sqlite_trees.proofs.ListLemmas.{filter-map}
use Rattle.keyed_trees.specs.Rows.{Finds, FindsAt, has_key}
use Rattle.rows.specs.declared.all_rows.DirectoryRow.{DirectoryRow}
use Rattle.ledger_sql.specs.Effects.{Picks}
use Rattle.ledger_sql.specs.Schema.{clock_tree, tenant_tree}
use Rattle.ledger_sql.specs.TableRows.{is_int, is_blob, is_text, cells_from, clock_rows, directory_rows, numbers_with_digest, with_name}
use Rattle.ledger_sql.specs.Values.{clock_values, directory_values}
use Rattle.ledger_layout.specs.FileRows.{clock_columns, tenant_columns}
use Rattle.ledger_layout.specs.Keys.{by_digest, by_name}
use Rattle.ledger_layout.specs.declared.file_rows.ClockRow.{ClockRow}
use Rattle.ledger_layout.specs.declared.file_rows.TenantEntry.{TenantEntry}
use Rattle.ledger_layout.proofs.KeyLemmas.{digested, found_at, named, numbered, picks_seen}

abbrev columns_of : TenantEntry → Row
columns_of entry = tenant_columns (string_bytes entry.name) entry.digest

abbrev row_of : (ℤ × TenantEntry) → DirectoryRow
row_of it = record { number = it.0; name = it.1.name; digest = it.1.digest }

abbrev values_of : DirectoryRow → Row
values_of row = directory_values row.number (string_bytes row.name) row.digest

-- a row of the directory, and its number alone
abbrev shown : Row → Row
shown row = column row 0 ∷ cells_from 2 2 row

abbrev number_of : Row → Row
number_of row = column row 0 ∷ []

pub picks_number : (digest : List ℕ) (trees : Trees) (found : Option (ℤ × TenantEntry)) → Finds columns_of (has_key by_digest (Blob digest ∷ [])) (trees tenant_tree) found
    → Picks (numbers_with_digest digest trees) (option_map (λ number. Int number ∷ []) (option_map (λ it. it.0) found))
picks_number digest trees None it = picks_seen columns_of (has_key by_digest (Blob digest ∷ [])) (λ r. is_blob digest (column r 3)) number_of (trees tenant_tree) (digested digest) None it
picks_number digest trees (Some e) it = picks_seen columns_of (has_key by_digest (Blob digest ∷ [])) (λ r. is_blob digest (column r 3)) number_of (trees tenant_tree) (digested digest) (Some e) it

-- rows of the directory that a test picks, told of the rows of its table
picks_shown : (p q : Row → Bool) (rows : List Row) → ((r : Row) → p r ≡ q (shown r)) → (found : Option (ℤ × TenantEntry)) → Finds columns_of p rows found
    → Picks (filter q (map shown rows)) (option_map values_of (option_map row_of found))
picks_shown p q rows same None it = subst (λ xs. xs ≡ []) (sym (filter-map q shown rows)) (picks_seen columns_of p (λ r. q (shown r)) shown rows same None it)
picks_shown p q rows same (Some e) it = subst (λ xs. Picks xs (Some (values_of (row_of e)))) (sym (filter-map q shown rows)) (picks_seen columns_of p (λ r. q (shown r)) shown rows same (Some e) it)

pub picks_named : (name : List ℕ) (trees : Trees) (found : Option (ℤ × TenantEntry)) → Finds columns_of (has_key by_name (Text name ∷ [])) (trees tenant_tree) found
    → Picks (with_name name (directory_rows trees)) (option_map values_of (option_map row_of found))
picks_named name trees found it = picks_shown (has_key by_name (Text name ∷ [])) (λ row. is_text name (column row 1)) (trees tenant_tree) (named name) found it

pub picks_numbered : (number : ℤ) (trees : Trees) (found : Option (ℤ × TenantEntry)) → FindsAt columns_of number (trees tenant_tree) found
    → Picks (filter (λ row. is_int number (column row 0)) (directory_rows trees)) (option_map values_of (option_map row_of found))
picks_numbered number trees found it = picks_shown (has_rowid number) (λ row. is_int number (column row 0)) (trees tenant_tree) (numbered number) found (found_at columns_of number (trees tenant_tree) found it)

pub picks_clock : (tenant : ℤ) (trees : Trees) (found : Option (ℤ × ClockRow)) → FindsAt (λ (row : ClockRow). clock_columns row.clock) tenant (trees clock_tree) found
    → Picks (clock_rows tenant trees) (option_map clock_values (option_map (λ it. it.1.clock) found))
picks_clock tenant trees None it = picks_seen (λ (row : ClockRow). clock_columns row.clock) (has_rowid tenant) (λ r. is_int tenant (column r 0)) (cells_from 2 1) (trees clock_tree) (numbered tenant) None (found_at (λ (row : ClockRow). clock_columns row.clock) tenant (trees clock_tree) None it)
picks_clock tenant trees (Some e) it = picks_seen (λ (row : ClockRow). clock_columns row.clock) (has_rowid tenant) (λ r. is_int tenant (column r 0)) (cells_from 2 1) (trees clock_tree) (numbered tenant) (Some e) (found_at (λ (row : ClockRow). clock_columns row.clock) tenant (trees clock_tree) (Some e) it)
