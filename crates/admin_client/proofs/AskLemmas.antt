-- Why words ask for nothing.
use Rattle.std.proofs.Common.{◌≡◌, ◌∙◌, ℕ, IfErr, Result, Ok, Err, ap, sym, subst}
use Rattle.std.specs.Result.{IsErrAnd}
use Rattle.command_line.specs.Values.{text_in}
use Rattle.command_line.specs.declared.commands.StatementWords.{StatementWords}
use Rattle.command_texts.specs.declared.fault.Fault.{Fault}
use Rattle.command_texts.specs.declared.fault.Fault.TheVariants.{BadFormat}
use Rattle.admin_client.specs.Asking.{IsUnasked, ReadsFrom, ReadsTo, read_form}

-- the bounds are moments, and the form is none
pub form_unread :
    {T : Type 0} (result : Result T Fault) (words : StatementWords) (from to : ℕ) (fault : Fault)
    → IsErrAnd result (λ f. f ≡ fault)
    → ReadsFrom (text_in words.from) (Ok from) → ReadsTo (text_in words.to) (Ok to)
    → Err fault ≡ read_form (text_in words.format) → fault ≡ BadFormat
    → IfErr result (IsUnasked words)
form_unread (Ok value) words from to fault same first last is none = tt
form_unread (Err f) words from to fault same first last is none =
    subst (λ (f : Fault). IsUnasked words f) (sym (same ∙ none)) (
      (record { from = from; to = to }, record { from = first; to = last }),
      sym is ∙ ap (λ (f : Fault). Err f) none,
    )
