use Rattle.std.proofs.Common.{◌∙◌, ap, map}
use Rattle.ledger_layout.specs.declared.file_rows.VersionRow.{VersionRow}
use Rattle.ledger_spans.proofs.FoundLemmas.{listed_after, versions}
use Rattle.ledger_spans.proofs.files.list_versions.Goals as goal

pub returns : goal.returns
returns g c =
    listed_after _ _ _ _ c.in-Ok.rows _
    (λ clean. versions (λ (row : VersionRow). row.version) (g.S.Store.view c.args.tables.now.store).trees c.in-Ok.rows.items _ (c.in-Ok.ensures.read clean) (c.in_ok-versions.ensures ∙ ap (map (λ row. row.1.version)) c.as_slice.ensures.value)) c.in-Ok.ensures.reads
