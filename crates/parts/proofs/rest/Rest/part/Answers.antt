use Rattle.std.proofs.Common.{ℕ, Option, ap, subst, sym, ◌∙◌}
use Rattle.records.specs.Machine.{Machine}
use Rattle.chain.specs.AccountEntries.{account_entries_within}
use Rattle.parts.specs.Parts.{IsPart, IsPartOf}
use Rattle.parts.proofs.PartLemmas.{parted}
use Rattle.parts.proofs.PieceLemmas.{part_refused}
use Rattle.parts.proofs.rest.Rest.part.Goals as goal

pub returns-in_err-listed : goal.returns-in_err-listed
returns-in_err-listed g c =
    part_refused g.L.Ledgers.means c.args.self.now.digest c.args.before.now c.args.self.now c.span.result
    c.args.ledgers.now c.read_piece.new.ledgers c.from_residual.result _ c.from_residual.ensures.1 c.in_err-listed.ensures

pub returns-in-Ok : goal.returns-in-Ok
returns-in-Ok g c = record {
  told = λ live.
      let told = c.in_ok-listed.ensures.told live in
      let m = told.0 in
      let piece = told.2 in
      let old = g.met.L.Ledgers.lived c.args.ledgers.now c.read_piece.new.ledgers c.in_ok-listed.ensures.reads.follows live in
      let valid = g.met.L.Ledgers.valid c.args.ledgers.now old c.args.self.now.digest m told.1 in
      let so = parted m valid c.args.self.now c.in_ok-listed.listed.entries.items
      (piece.entries ∙ ap (account_entries_within m c.args.self.now.account) c.span.ensures) c.args.before.now c.in-Ok.part piece.there
      (subst (λ (clock : ℕ). IsPartOf c.args.before.now c.args.self.now clock c.in_ok-listed.listed.entries.items c.in-Ok.part) piece.clock c.in-Ok.ensures) in
      subst (λ (tenant : Option Machine). IsPart c.args.before.now tenant c.args.self.now c.in-Ok.part) (sym told.1) so;
  failed = λ has. absurd (let e = c.in_ok-listed.ensures.failed has in cc);
  finds = c.in_ok-listed.ensures.finds;
  reads = c.in_ok-listed.ensures.reads;
}
