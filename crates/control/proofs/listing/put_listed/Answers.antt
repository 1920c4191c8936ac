use Rattle.std.proofs.Common.{string_bytes, subst}
use Rattle.std.proofs.lemmas.Result.{on_ok_weaker}
use Rattle.std.specs.Io.KnownBytes.{Appends}
use Rattle.command_texts.specs.Lines.{tenants_line}
use Rattle.control.proofs.Lines.{appends_both}
use Rattle.control.proofs.listing.put_listed.Goals as goal

pub returns-clause-listed : goal.returns-clause-listed
returns-clause-listed g c =
    on_ok_weaker c.put_text.result
    (λ written. (
      string_bytes c.in_ok-lines.lines,
      c.in_ok-lines.ensures.told,
      appends_both _ _ _ tenants_line _ c.in_ok-put_tenants.ensures.ok
          (subst (Appends _ _) c.as_str.ensures.value written),
    ))
    c.put_text.ensures.ok
