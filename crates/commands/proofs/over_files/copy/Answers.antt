use Rattle.std.proofs.Common.{◌≡◌, List, ℕ, Some, refl, string_bytes, subst}
use Rattle.control.specs.Copying.{copied_text}
use Rattle.commands.proofs.over_files.copy.Goals as goal

pub returns-in_ok-copied_in-in-Some-clause-copied : goal.returns-in_ok-copied_in-in-Some-clause-copied
returns-in_ok-copied_in-in-Some-clause-copied g c = (
  _,
  refl,
  rw c.in-Some.is at c.in_ok-answer.ensures,
  subst (λ (body : List ℕ). copied_text body ≡ Some (string_bytes c.in_ok-copied_in-in-Some.field-0))
      c.body.ensures c.in_ok-copied_in-in-Some.ensures.told,
)
