use Rattle.std.proofs.Common.{refl, ap, ◌∙◌}
use Rattle.std.specs.Str.{str_eq_ignore_ascii_case}
use Rattle.std.proofs.lemmas.Str.Ascii.{trim_ascii_is}
use Rattle.ledger_http.proofs.header.is_token.Goals as goal

pub returns : goal.returns
returns c =
    c.is_named.ensures
    ∙ ap (λ part. str_eq_ignore_ascii_case part c.args.token.now)
    (trim_ascii_is c.args.part.now c.trim_ascii.result.now _ refl c.trim_ascii.ensures.value)
