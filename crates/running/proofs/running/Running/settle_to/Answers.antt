use Rattle.std.proofs.Common.{◌≡◌, ◌≤◌, refl, sym, ◌∙◌, arith}
use Rattle.running.proofs.Released.{settled}
use Rattle.running.proofs.AppliedEntry.{on_false}
use Rattle.running.proofs.running.Running.settle_to.Goals as goal

pub returns : goal.returns
returns c m is =
    let same : m.clock ≡ c.requires.0.clock = sym is.clock ∙ c.requires.1.clock in
    let by = c.requires.2 in
    let later : m.clock ≤ c.args.clock = omega (arith, same, by) in
    let inv = c.loop.invariant m is later in
    let all = on_false c.in_ok-expire_next.field-0 _ c.if-branch.false c.in_ok-expire_next.ensures.all in
    let got = all m inv.0 inv.1 in
    settled c.clock_rows.ensures.last m c.args.clock inv.0 c.expire_next.new.self _ got.0 got.1 c.requires.3 refl refl refl refl refl
