use Rattle.std.proofs.Common.{◌≡◌, ◌-◌, Some, sym, length, arith}
use Rattle.std.specs.List.{slice_get}
use Rattle.parts.proofs.PartLemmas.{behind_is}
use Rattle.parts.proofs.rest.Rest.behind.Goals as goal

pub returns : goal.returns
returns c bounded =
    let entries = c.args.entries.now in
    let last = c.in_ok-last.last.now in
    let is : slice_get entries (length entries - 1) ≡ Some last = sym c.in_ok-last.ensures.value in
    behind_is c.args.self.now c.args.clock entries last _ _ bounded is (omega (arith, c.if-entries.false)) c.saturating_add.ensures c.min.ensures
