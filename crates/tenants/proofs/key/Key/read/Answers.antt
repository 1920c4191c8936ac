use Rattle.std.proofs.Common.{sym, ap, ◌∙◌}
use Rattle.std.specs.Result.{result_ok}
use Rattle.tenants.proofs.KeyLemmas.{result_ok-decode_sized}
use Rattle.tenants.proofs.key.Key.read.Goals as goal

pub returns-in_err-bytes-clause-key : goal.returns-in_err-bytes-clause-key
returns-in_err-bytes-clause-key c =
    c.from_residual.ensures ∙ sym c.in_err-bytes.was ∙ c.ok.ensures.value ∙ ap result_ok c.from_hex.ensures
    ∙ result_ok-decode_sized c.args.text.now

pub returns-clause-key : goal.returns-clause-key
returns-clause-key c =
    sym c.in_ok-bytes.was ∙ c.ok.ensures.value ∙ ap result_ok c.from_hex.ensures
    ∙ result_ok-decode_sized c.args.text.now
