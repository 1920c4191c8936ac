use Rattle.std.proofs.Common.{◌≡◌, ℕ, true, false, length, ap, ◌∙◌, sym, get_or, arith}
use Rattle.plain.proofs.Rekeyed.{front, one_more, are_rekeyed, rekeyed_valid}
use Rattle.plain.proofs.book.Book.rekey.Goals as goal
use Rattle.plain.proofs.book.Book.rekey.Goals.{then-eq, else-eq}

pub loop-tenant-preserved : goal.loop-tenant-preserved
loop-tenant-preserved c =
    let is = ap (get_or c.loop-tenant.tenant-items c.loop-tenant.tenant-index) c.tenant-item.is in
    elim c.if-eq.branch [
      | then-eq w ↦
          w.tenant-items-is
          ∙ one_more c.args.was.now c.args.digest.now true c.loop-tenant.tenant-index
          c.args.self.now c.loop-tenant.tenant-items _ (sym c.eq.ensures ∙ w.if-eq.true)
          c.loop-tenant.invariant (omega arith) is
      | else-eq w ↦
          w.tenant-items-is
          ∙ one_more c.args.was.now c.args.digest.now false c.loop-tenant.tenant-index
          c.args.self.now c.loop-tenant.tenant-items _ (sym c.eq.ensures ∙ w.if-eq.false)
          c.loop-tenant.invariant (omega arith) is
    ]

pub returns-clause-rekeyed : goal.returns-clause-rekeyed
returns-clause-rekeyed c =
    let there = c.deref_mut-tenant-items.ensures.value ∙ c.self.view_is in
    let count : c.loop-tenant.tenant-index ≡ length c.args.self.now =
    let same = ap length there in omega arith in
    are_rekeyed c.args.was.now c.args.digest.now c.args.self.now c.loop-tenant.tenant-items _ _
    (c.loop-tenant.invariant ∙ ap (λ (n : ℕ). front c.args.was.now c.args.digest.now n c.args.self.now) count)
    (c.loop-tenant.auto.tenant-items ∙ c.deref_mut-tenant-items.ensures.len) c.requires

pub returns-clause-usable : goal.returns-clause-usable
returns-clause-usable c =
    rekeyed_valid c.args.was.now c.args.digest.now c.args.self.now _ (returns-clause-rekeyed c)
