-- A tenant that is found by its number.
use Rattle.std.proofs.Common.{◌≡◌, ℕ, ◌≤◌, ℤ, Option, Some, None, option_map, List, length, sym, ap, ◌∙◌}
use Rattle.std.specs.String.{string_bytes}
use Rattle.sqlite_trees.specs.Tree.{Trees}
use Rattle.rows.specs.declared.all_rows.DirectoryRow.{DirectoryRow}
use Rattle.ledger_sql.specs.Effects.{Picks}
use Rattle.ledger_sql.specs.Values.{directory_values}
use Rattle.stored_ledgers.specs.Directory.{first_digest, with_number}
use Rattle.stored_ledgers.proofs.TenantLemmas.{only_picked}

-- what is found of its row
pub number_found : (number : ℤ) (trees : Trees) (found : Option DirectoryRow)
    (digest : Option (List ℕ)) → length (with_number number trees) ≤ 1
    → Picks (with_number number trees) (option_map (λ row. directory_values row.number
    (string_bytes row.name) row.digest) found)
    → digest ≡ option_map (λ row. row.digest) found
    → digest ≡ first_digest (with_number number trees)
number_found number trees None digest few picks is = is ∙ sym (ap first_digest picks)
number_found number trees (Some row) digest few picks is =
    is ∙ sym (ap first_digest (only_picked _ _ few picks))
