use Rattle.std.proofs.Common.{List, ℕ, subst, sym}
use Rattle.std.specs.Prelude.{IsUtf8}
use Rattle.std.proofs.lemmas.Fmt.{IsAscii-decimal}
use Rattle.std.proofs.lemmas.Str.{IsUtf8-from_ascii}
use Rattle.reply_marks.proofs.clock.number.Goals as goal

pub returns-in_default : goal.returns-in_default
returns-in_default c n fits is =
    c.in_default.ensures.cases.0 (subst (λ (l : List ℕ). IsUtf8 l) (sym is) (IsUtf8-from_ascii _ (IsAscii-decimal n fits)))
