use Rattle.std.proofs.Common.{◌∙◌}
use Rattle.admin_client.proofs.ServedLemmas.{gathered_text}
use Rattle.admin_client.proofs.served_statements.period_text.Goals as goal

pub returns : goal.returns
returns c =
    let all = c.in_ok-gathered.ensures in (
      all.0,
      all.1,
      c.in_ok-extract_text.ensures
          ∙ gathered_text _ c.args.asked.now _ c.in_ok-gathered.gathered _
          c.as_slice-transfers.ensures.value all.2,
    )
