use Rattle.std.proofs.Common.{ℕ, map, refl, sym, ◌∙◌}
use Rattle.std.specs.List.Sorted.{IsPermutation}
use Rattle.records.specs.Machine.{Machine}
use Rattle.rows.specs.declared.status_row.StatusRow.{StatusRow}
use Rattle.rows.specs.Prescribed.{rows_for, status_rows}
use Rattle.rows.specs.Tables.{IsAscendingBy}
use Rattle.running.specs.Running.{IsRunning}
use Rattle.running.proofs.SameByKey.{same_by_key}
use Rattle.running.proofs.ToldRows.{told, told_in_order, told_ok, states_apart, statuses_told}
use Rattle.running.proofs.running.Running.status_rows.Goals as goal

-- the row of an entry of the map
abbrev row_of : ℕ × StatusRow → StatusRow
row_of entry = record entry.1 { transfer = entry.0 }

abbrev transfer_of : StatusRow → ℕ
transfer_of row = row.transfer

pub returns-clause-in_order : goal.returns-clause-in_order
returns-clause-in_order c =
    let entries = c.args.self.now.statuses.rows.entries in
    told_ok c.all.result (λ v. v.items) (map row_of entries) (λ xs. IsAscendingBy transfer_of xs) c.all.ensures.rows (told_in_order transfer_of row_of (λ entry. refl) entries c.all.ensures.in_order)

pub returns-clause-all : goal.returns-clause-all
unfolding rows_for
returns-clause-all c =
    let entries = c.args.self.now.statuses.rows.entries in
    told_ok c.all.result (λ v. v.items) (map row_of entries) (λ xs. (m : Machine) → IsRunning m c.args.self.now → IsPermutation (status_rows m) xs) c.all.ensures.rows
    (λ m running. same_by_key transfer_of (status_rows m) (map row_of entries) (states_apart m running.valid) (told_in_order transfer_of row_of (λ entry. refl) entries c.all.ensures.in_order)
    (λ id. sym (told transfer_of row_of (λ entry. refl) id entries ∙ statuses_told (rows_for 3 m).statuses c.args.self.now.statuses id running.agrees.statuses)))
