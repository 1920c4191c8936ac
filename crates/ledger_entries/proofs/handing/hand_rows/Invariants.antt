use Rattle.std.proofs.Common.{◌≡◌, ◌≤◌, length, map, take}
use Rattle.keyed_trees.specs.Kept.{state}
use Rattle.keyed_trees.specs.Rows.{row_of}
use Rattle.ledger_sql.specs.Schema.{ledger_schema}
use Rattle.ledger_entries.specs.Handing.{joined}
use Rattle.ledger_entries.specs.Pieces.{history_columns}
use Rattle.ledger_entries.proofs.LoopLemmas.{IsHandingRows}
use Rattle.ledger_entries.proofs.handing.hand_rows.Given as goal

abbrev pub invariant-loop-row : goal.invariant-loop-row
invariant-loop-row g l =
    record {
      tenant : l.wanted.tenant ≡ l.fn.wanted.tenant;
      within : l.row-index ≤ length l.rows;
      handing : IsHandingRows g.K.EntrySink.takes g.K.EntrySink.is_full (state ledger_schema g.S.Store l.fn.tables) (state ledger_schema g.S.Store l.tables) (joined l.fn.wanted.tenant (state ledger_schema g.S.Store l.fn.tables).now.trees)
          (take l.row-index (map (row_of history_columns) l.rows)) l.fn.wanted.left l.wanted.left l.fn.sink l.sink;
    }
