-- What the history of a replay is with one entry more.
use Rattle.std.proofs.Common.{◌≡◌, List, ◌++◌, sym, ap, subst}
use Rattle.records.specs.declared.accepted.Accepted.{Accepted}
use Rattle.records.specs.declared.transfer.Transfer.{Transfer}
use Rattle.records.specs.Machine.{Machine}
use Rattle.records.specs.Step.{at_clock}
use Rattle.records.specs.Valid.{with_transfer}
use Rattle.rows.specs.declared.history_row.HistoryRow.{HistoryRow}
use Rattle.rows.specs.Prescribed.{rows_for, history_rows}
use Rattle.rows.specs.TypedRows.{TypedRows}
use Rattle.rows.specs.Changes.{with_accepted, new_history}
use Rattle.running.specs.declared.entry.Entry.TheVariants.{Moved}
use Rattle.running.specs.Entries.{with_entry}
use Rattle.running.specs.History.{IsToldMore}

-- a transfer has its two rows
pub two_of_transfer : (m : Machine) (a : Accepted) → rows_for 3 (with_transfer m a.stored) ≡ with_accepted a (rows_for 3 m) → history_rows (with_transfer m a.stored) ≡ history_rows m ++ new_history a
unfolding rows_for with_accepted
two_of_transfer m a law = ap (λ (rows : TypedRows). rows.history) law

pub told_transfer : {H : Type 0} (told : H → H → List HistoryRow → Type 0) (old new : H) (m : Machine) (t : Transfer) (a : Accepted) → a.stored ≡ t → rows_for 3 (with_transfer (at_clock m t.at) a.stored) ≡ with_accepted a (rows_for 3 (at_clock m t.at)) → ((first : H) (rows : List HistoryRow) → told first old rows → told first new (rows ++ new_history a)) → IsToldMore told old new m (with_entry m (Moved t))
told_transfer told old new m t a same law step first before =
    subst (λ (x : Transfer). told first new (history_rows (with_transfer (at_clock m t.at) x))) same
    (subst (told first new) (sym (two_of_transfer (at_clock m t.at) a law)) (step first (history_rows m) before))
