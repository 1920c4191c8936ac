use Rattle.std.proofs.Common.{◌≡◌, ◌+◌, ◌≤◌, false, length, map, take}
use Rattle.records.specs.Streams.{TakesRows}
use Rattle.ledger_entries.specs.Handing.{entry_with}
use Rattle.ledger_entries.proofs.handing.hand_transfers.Given as goal

abbrev pub invariant-loop-transfer : goal.invariant-loop-transfer
invariant-loop-transfer g l =
    record {
      taken : TakesRows g.K.EntrySink.takes l.fn.sink (take l.transfer-index (map (entry_with l.history) l.transfers)) l.sink;
      few : l.transfer-index + l.left ≡ l.fn.left;
      within : l.transfer-index ≤ length l.transfers;
      wants : g.K.EntrySink.is_full l.sink ≡ false;
    }
