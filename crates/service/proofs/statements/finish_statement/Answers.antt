use Rattle.std.proofs.Common.{◌≡◌, ◌++◌, ℕ, List, Option, Some, subst, ap, ◌∙◌}
use Rattle.ledger_http.specs.ReplyText.{reply_text}
use Rattle.parts.specs.Parts.{chunks_left}
use Rattle.parts.specs.declared.rest.Rest.{Rest}
use Rattle.service.specs.Begun.{reply_with}
use Rattle.service.proofs.FinishLemmas.{none_read, part_more, read_more}
use Rattle.service.proofs.statements.finish_statement.Goals as goal

pub parts-init : goal.parts-init
parts-init g c = record {
  read = none_read g.L.Ledgers.means c.args.ledgers.now (g.met.L.Ledgers.stays c.args.ledgers.now);
  whole = λ live.
      let grown = rw c.if-is_err.ensures.negation at c.extend_from_slice.ensures.items in
      ap (λ (xs : List ℕ). xs ++ chunks_left (g.L.Ledgers.means.tenants c.args.ledgers.now) (Some c.args.rest))
      (grown ∙ ap (λ (xs : List ℕ). xs ++ c.bytes.result.now) c.new-text.ensures.items ∙ c.bytes.ensures);
}

pub parts-preserved : goal.parts-preserved
parts-preserved g c =
    let t = g.L.Ledgers.means in
    let before = c.parts.invariant.read in
    let reads = c.in-Ok.ensures.reads in record {
      read = read_more t c.args.ledgers.now c.parts.ledgers c.part.new.ledgers _
          (g.met.L.Ledgers.then c.args.ledgers.now c.parts.ledgers c.part.new.ledgers)
          (g.met.L.Ledgers.lived c.args.ledgers.now c.parts.ledgers before.follows)
          (g.met.L.Ledgers.lived c.parts.ledgers c.part.new.ledgers reads.follows) before reads
          c.in-Ok.ensures.finds;
      whole = λ live.
          let mid = g.met.L.Ledgers.lived c.parts.ledgers c.part.new.ledgers reads.follows live in
          subst (λ (r : Option Rest). c.extend_from_slice-in-parts.new.self.items ++ chunks_left (t.tenants c.args.ledgers.now) r
          ≡ reply_text (reply_with (t.tenants c.args.ledgers.now) c.args.front.now (Some c.args.rest)))
          c.in-Some.is
          (part_more (t.tenants c.args.ledgers.now) (t.tenants c.parts.ledgers) c.parts.rest c.in-Ok.part c.parts.text.items
          c.extend_from_slice-in-parts.new.self.items _ (before.same mid) (c.in-Ok.ensures.told live)
          (c.parts.invariant.whole mid)
          (rw c.if-is_err-2.ensures.negation at c.extend_from_slice-in-parts.ensures.items ∙ ap (λ (xs : List ℕ). c.parts.text.items ++ xs) c.as_slice.ensures));
    }
