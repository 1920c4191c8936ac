use Rattle.ledger_spans.proofs.FoundLemmas.{directory_read, listed_after}
use Rattle.ledger_spans.proofs.tenants.directory.Goals as goal

pub returns : goal.returns
returns g c =
    listed_after _ _ _ _ c.in-Ok.entries _ (λ clean. directory_read (g.S.Store.view c.args.tables.now.store).trees c.in-Ok.entries.items _ (c.in-Ok.ensures.read clean) c.in_ok-rows.ensures.all c.in_ok-rows.ensures.order) c.in-Ok.ensures.reads
