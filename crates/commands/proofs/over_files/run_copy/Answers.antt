use Rattle.std.proofs.Common.{◌∙◌, List, ℕ, refl, string_bytes, subst}
use Rattle.std.specs.Io.KnownBytes.{Appends}
use Rattle.sqlite_wal.specs.Files.{image_at}
use Rattle.command_texts.specs.Lines.{copied_line}
use Rattle.control.specs.Answers.{TellsCopied}
use Rattle.commands.specs.Holding.{HasOpened, HasToldOr, IsFrom}
use Rattle.commands.proofs.over_files.run_copy.Goals as goal

pub returns : goal.returns
returns g c =
    let digits = c.in_ok-digits.ensures.number in
    record {
      copied = record {
        bytes = digits.0;
        line =
            subst
            (λ (text : List ℕ). Appends (g.O.Drain.written c.args.out)
            (g.O.Drain.written c.put_copied.new.out) (copied_line text))
            (c.as_str-2.ensures.value ∙ digits.1) c.in_ok-put_copied.ensures.ok;
        path = string_bytes c.in_ok-to.to;
        is = c.in_ok-to.ensures;
        copied =
            subst
            (λ (text : List ℕ). HasToldOr (TellsCopied (string_bytes c.in_ok-to.to) text)
            (HasOpened (IsFrom (image_at g.St.Start))) c.in_ok-digits.field-0.held)
            digits.1
            (subst
            (λ (path : List ℕ). HasToldOr (TellsCopied path (string_bytes c.in_ok-digits.field-0.digits))
            (HasOpened (IsFrom (image_at g.St.Start))) c.in_ok-digits.field-0.held)
            c.as_str.ensures.value c.in_ok-digits.ensures.copied);
      };
      calm = (refl, refl);
      contents = c.in_ok-digits.ensures.contents;
      fault = tt;
    }
