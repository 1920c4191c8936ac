use Rattle.std.proofs.Common.{◌∙◌, ap, length, sym}
use Rattle.admin_client.proofs.ExtractLemmas.{transfers_told}
use Rattle.admin_client.proofs.extracts.transfers_of.Goals as goal

pub returns-in-Ok-clause-found : goal.returns-in-Ok-clause-found
returns-in-Ok-clause-found g c = record {
  told = λ live.
      transfers_told _ _ _ c.as_slice.result.now c.in-Ok.found.clock _ c.if-not-is_wide.false
      (c.as_slice.ensures.value ∙ c.in_ok-ids.ensures) (c.in-Ok.ensures.told live)
      (sym c.in-Ok.found.entries.ok.0 ∙ sym c.len.ensures ∙ c.if-len-rows.true ∙ ap length c.rows.ensures);
  reads = c.in-Ok.ensures.reads;
}
