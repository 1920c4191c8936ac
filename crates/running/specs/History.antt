-- What is told of a tenant's history as it is replayed.
use Rattle.std.specs.Prelude.{List}
use Rattle.records.specs.Machine.{Machine}
use Rattle.rows.specs.declared.history_row.HistoryRow.{HistoryRow}
use Rattle.rows.specs.Prescribed.{history_rows}

-- what was told the history of one machine is told that of another
abbrev pub IsToldMore :
    {H : Type 0} → (H → H → List HistoryRow → Type 0) → H → H → Machine → Machine → Type 0
IsToldMore {H} told old new m n =
    (first : H) → told first old (history_rows m) → told first new (history_rows n)
