use Rattle.rows.proofs.AnyOrder.{same_row}
use Rattle.rows.proofs.Permuted.{distinct_permuted, keys_distinct}
use Rattle.rows.proofs.Replaced.{picked, replaced}
use Rattle.rows.proofs.SameChanges.{same_changed}
use Rattle.rows.proofs.table_laws.found_by_key.Goals as goal

pub returns : goal.returns
returns g c = record {
  distinct = distinct_permuted;
  found = λ key id xs ys same once. same_row key xs ys id (keys_distinct key xs once) same;
  alone = λ key id xs once. picked key id xs (once id);
  changed = same_changed;
  replaced = λ key id change xs row once found. replaced key id change xs row (once id) found;
}
