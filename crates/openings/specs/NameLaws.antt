-- Tenants' names, however the directory is read.
use Rattle.std.proofs.Common.{◌≡◌, ◌<◌, ℕ, All, List, map, string_bytes, refl, sym, subst}
use Rattle.std.proofs.Common.{get_or}
use Rattle.std.proofs.lemmas.List.{get_or-map, length-map}
use Rattle.std.specs.List.Sorted.{IsPermutation}
use Rattle.std.proofs.lemmas.List.Elements.{All-map}
use Rattle.std.proofs.lemmas.List.Sorted.{All-permutation, IsPermutation-sym, IsPermutation-trans}
use Rattle.rows.specs.declared.all_rows.AllRows.{AllRows}
use Rattle.rows.specs.declared.all_rows.DirectoryRow.{DirectoryRow}
use Rattle.sqlite_trees.specs.Tree.{Trees}
use Rattle.sqlite_value.specs.Order.{Row}
use Rattle.ledger_sql.specs.TableRows.{directory_rows}
use Rattle.ledger_sql.specs.Values.{directory_values}
use Rattle.tenants.specs.NameText.{IsTenantName}
use Rattle.openings.specs.Opened.{HasNames}
use Rattle.openings.specs.Told.{HasNamesIn}
use Rattle.openings.specs.Whole.{AreAllRows}

-- a row of the directory, as it is stored
abbrev stored : DirectoryRow → Row
stored row = directory_values row.number (string_bytes row.name) row.digest

-- whoever is stored so has a name that a tenant may have
abbrev IsNamed : Row → Type 0
IsNamed cells = (row : DirectoryRow) → cells ≡ stored row → IsTenantName (string_bytes row.name)

same_name_of : (row other : DirectoryRow) → stored row ≡ stored other
    → string_bytes row.name ≡ string_bytes other.name
same_name_of row other same = cc

is_named : (row : DirectoryRow) → IsTenantName (string_bytes row.name) → IsNamed (stored row)
is_named row named other same = subst IsTenantName (same_name_of row other same) named

-- what is named as it is stored has a name
unmapped : (items : List DirectoryRow) → All IsNamed (map stored items) → HasNames items
unmapped items are k d below =
    let at : get_or (map stored items) k (stored d) ≡ stored (get_or items k d) =
    get_or-map stored items k d (stored d) below in
    let inside = subst (λ n. k < n) (sym (length-map items stored)) below in
    subst IsNamed at (are k (stored d) inside) (get_or items k d) refl

-- names that were read once are those of each reading
pub good_names : (version : ℕ) (trees : Trees) (all : AllRows) → AreAllRows version trees all
    → HasNames all.directory.items → HasNamesIn version trees
good_names version trees all read names other again =
    let items = other.directory.items in
    let same : IsPermutation (map stored all.directory.items) (map stored items) =
    IsPermutation-trans (map stored all.directory.items) (directory_rows trees) (map stored items)
    (IsPermutation-sym (directory_rows trees) (map stored all.directory.items) read.directory.all)
    again.directory.all in
    let were : All IsNamed (map stored all.directory.items) =
    All-map IsNamed stored all.directory.items
    (λ k d below. is_named (get_or all.directory.items k d) (names k d below)) in
    let are : All IsNamed (map stored items) =
    All-permutation IsNamed (map stored all.directory.items) (map stored items) same were in
    unmapped items are
