use Rattle.std.proofs.Common.{◌≡◌, ◌≤◌, map, take}
use Rattle.std.specs.List.{All}
use Rattle.records.specs.Step.{max_clock}
use Rattle.records.specs.Streams.{TakesRows}
use Rattle.chain.specs.AccountEntries.{entry_time, row_of}
use Rattle.chain.specs.Pages.{behind_last}
use Rattle.chain.proofs.pieces.hand_piece.Given as goal

-- The sink has taken the rows so far.
abbrev pub invariant-loop-entry : goal.invariant-loop-entry
invariant-loop-entry g l =
    TakesRows g.S.RowSink.takes l.fn.sink (map (row_of l.account) (take l.entry-index l.entries)) l.sink
    × (All (λ entry. entry_time entry ≤ max_clock) l.entries →
    l.behind ≡ behind_last entry_time l.span.order 0 (take l.entry-index l.entries))
