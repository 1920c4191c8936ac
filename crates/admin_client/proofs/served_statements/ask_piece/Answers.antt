use Rattle.std.proofs.Common.{List, ℕ, refl, subst}
use Rattle.control.specs.Entries.{AreEntriesTold}
use Rattle.admin_client.proofs.served_statements.ask_piece.Goals as goal

pub returns-in_ok-entries_in-in-Some : goal.returns-in_ok-entries_in-in-Some
returns-in_ok-entries_in-in-Some c =
    let entries = c.in_ok-entries_in-in-Some in (
      _,
      refl,
      rw c.in-Some.is at c.in_ok-answer.ensures,
      subst (λ (body : List ℕ). AreEntriesTold body entries.field-0) c.body.ensures entries.ensures.told,
    )
