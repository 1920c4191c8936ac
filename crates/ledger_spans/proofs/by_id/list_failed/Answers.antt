use Rattle.std.proofs.Common.{◌∙◌, ap, map, take, SFits, rules, to_z-of_z, w64}
use Rattle.sqlite_value.specs.Order.{row_cmp}
use Rattle.ledger_layout.specs.declared.kinds.FailedCells.{FailedCells}
use Rattle.ledger_sql.specs.Reading.{id_cmp}
use Rattle.ledger_sql.specs.Values.{id_values}
use Rattle.ledger_spans.specs.Listing.{by_first}
use Rattle.ledger_spans.proofs.FoundLemmas.{by_id, listed, parts, reordered}
use Rattle.ledger_spans.proofs.by_id.list_failed.Goals as goal

pub returns : goal.returns
returns g c =
    let tenant : SFits w64 c.args.tenant = search rules in
    listed _ _ _ _ c.in_ok-failed.failed _
    (λ clean. reordered id_values (by_first 1 id_values) id_cmp _ _ (λ a b. by_id a b)
    (parts (λ (row : FailedCells). row.id) id_values (λ a b. row_cmp (take 1 a) (take 1 b)) _ c.in_ok-failed.failed.items _ (c.in_ok-ids.ensures ∙ ap (map (λ row. row.id)) c.as_slice.ensures.value) (simp to_z-of_z at (c.in_ok-failed.ensures.read clean))))
    c.in_ok-failed.ensures.reads
