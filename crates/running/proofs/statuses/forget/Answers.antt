use Rattle.std.proofs.Common.{◌≡◌, ℕ, true, sym, ◌∙◌, subst}
use Rattle.std.specs.BTreeSet as sorted
use Rattle.std.proofs.lemmas.Option.{same_Some}
use Rattle.running.specs.Holds.{key_cmp}
use Rattle.running.proofs.HeldStatuses.{removed}
use Rattle.running.proofs.statuses.forget.Goals as goal

pub returns-in-Some-clause-fewer : goal.returns-in-Some-clause-fewer
returns-in-Some-clause-fewer c time is has =
    let same : time ≡ c.in-Some.time = same_Some time c.in-Some.time (sym is ∙ c.in-Some.is) in
    let found : c.remove.result ≡ true = c.remove.ensures.test ∙ subst (λ (t : ℕ). sorted.contains key_cmp c.args.due.now (t, c.args.transfer) ≡ true) same has in
    removed c.remove.result _ _ found c.remove.ensures.len
