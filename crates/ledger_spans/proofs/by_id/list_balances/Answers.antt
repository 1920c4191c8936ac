use Rattle.std.proofs.Common.{SFits, rules, to_z-of_z, w64}
use Rattle.ledger_sql.specs.Reading.{balance_cmp}
use Rattle.ledger_sql.specs.Values.{balance_values}
use Rattle.ledger_spans.specs.Listing.{by_first}
use Rattle.ledger_spans.proofs.FoundLemmas.{by_id, listed, reordered}
use Rattle.ledger_spans.proofs.by_id.list_balances.Goals as goal

pub returns : goal.returns
returns g c =
    let tenant : SFits w64 c.args.tenant = search rules in
    listed _ _ _ _ c.in_ok-rows.rows _
    (λ clean. reordered balance_values (by_first 1 balance_values) balance_cmp _ _ (λ a b. by_id a.account b.account) (simp to_z-of_z at (c.in_ok-rows.ensures.read clean))) c.in_ok-rows.ensures.reads
