use Rattle.std.proofs.Common.{Result, sym, subst, ap, ◌∙◌}
use Rattle.chain.specs.declared.account_entry.AccountEntry.{AccountEntry}
use Rattle.chain.specs.declared.reads.Listed.{Listed}
use Rattle.chain.specs.declared.reads.ReadFault.{ReadFault}
use Rattle.chain.proofs.LookLemmas.{found_by, read_so}
use Rattle.parts.specs.Pieces.{GivesPiece, IsPieceOf, piece_told}
use Rattle.parts.proofs.PieceLemmas.{answered, told_by}
use Rattle.parts.proofs.piece.read_piece.Goals as goal

pub returns : goal.returns
returns g c = record {
  told = λ live.
      subst (λ (r : Result (Listed AccountEntry) ReadFault).
      IsPieceOf c.args.account c.args.span.now (g.L.Ledgers.means.tenants c.args.ledgers.now c.args.digest.now) r)
      (sym c.piece_told.ensures)
      (told_by c.args.account c.args.span.now c.args.digest.now (g.L.Ledgers.means.tenants c.args.ledgers.now)
      (g.L.Ledgers.means.tenants c.in_batch.new.self) c.in_batch.result (c.in_batch.ensures.run live));
  failed = λ failed. c.piece_told.ensures ∙ ap piece_told (c.in_batch.ensures.failed failed);
  finds =
      found_by (GivesPiece c.args.account c.args.span.now) (λ before output after given. given.0)
      g.L.Ledgers.means c.args.digest.now c.args.ledgers.now c.in_batch.new.self c.in_batch.result _
      (answered c.in_batch.result c.piece_told.result c.piece_told.ensures) c.in_batch.ensures.finds;
  reads =
      read_so (GivesPiece c.args.account c.args.span.now) (λ before output after given. given.0)
      g.L.Ledgers.means c.args.digest.now c.args.ledgers.now c.in_batch.new.self c.in_batch.result
      c.in_batch.ensures.run c.in_batch.ensures.follows;
}
