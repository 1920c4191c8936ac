use Rattle.std.proofs.Common.{subst}
use Rattle.control.specs.Answers.{TellsEntries}
use Rattle.control.specs.declared.piece_asked.PieceAsked.{PieceAsked}
use Rattle.admin_client.proofs.served_statements.ask_first.Goals as goal

pub returns-in-Some : goal.returns-in-Some
returns-in-Some c = record {
  piece = c.first_asked-asked.ensures;
  told =
      subst (λ (piece : PieceAsked). TellsEntries piece c.in-Some.entries c.in-Some.answer)
      c.first_asked-asked.ensures (rw c.in-Some.is at c.in_ok-entries.ensures);
}
