use Rattle.std.proofs.Common.{ap, map}
use Rattle.chain.specs.AccountEntries.{row_of}
use Rattle.parts.specs.Parts.{span_of}
use Rattle.parts.proofs.LaterEntries.{same_later}
use Rattle.parts.proofs.laws.rests_stay.Goals as goal

pub returns : goal.returns
returns c m later rest continues ends =
    ap (map (row_of rest.account)) (same_later m later rest.account (span_of rest) continues ends)
