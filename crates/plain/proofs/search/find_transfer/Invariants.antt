use Rattle.std.proofs.Common.{◌≡◌, drop}
use Rattle.records.specs.Machine.{transfer_with}
use Rattle.plain.proofs.search.find_transfer.Given as goal

abbrev pub invariant-loop-transfer : goal.invariant-loop-transfer
invariant-loop-transfer l =
    transfer_with l.id (drop l.transfer-index l.transfers) ≡ transfer_with l.id l.transfers
