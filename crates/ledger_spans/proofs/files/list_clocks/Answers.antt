use Rattle.std.proofs.Common.{SFits, rules, to_z-of_z, w64}
use Rattle.ledger_spans.proofs.FoundLemmas.{clocks, listed_after}
use Rattle.ledger_spans.proofs.files.list_clocks.Goals as goal

pub returns : goal.returns
returns g c =
    let tenant : SFits w64 c.args.tenant = search rules in
    listed_after _ _ _ _ c.in-Ok.found _
    (λ clean. clocks c.args.tenant (g.S.Store.view c.args.tables.now.store).trees c.in-Ok.found _ (simp to_z-of_z at (c.in-Ok.ensures.found clean)) c.in_ok-clocks.ensures) c.in-Ok.ensures.reads
