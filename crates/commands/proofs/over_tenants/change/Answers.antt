use Rattle.std.proofs.Common.{List, ℕ, inr, subst}
use Rattle.sqlite_wal.specs.Files.{image_at}
use Rattle.commands.specs.Changing.{IsChangeIn}
use Rattle.commands.proofs.ChangeLemmas.{none_made, tells_change}
use Rattle.commands.proofs.UndoneLemmas.{undone_in}
use Rattle.commands.proofs.over_tenants.change.Goals as goal

pub returns-in_ok-is_told_in-in-Some-clause-made : goal.returns-in_ok-is_told_in-in-Some-clause-made
returns-in_ok-is_told_in-in-Some-clause-made g c = none_made c.args.what c.args.db.now

pub returns-in_ok-is_told_in-in-Some-clause-changed : goal.returns-in_ok-is_told_in-in-Some-clause-changed
returns-in_ok-is_told_in-in-Some-clause-changed g c =
    tells_change c.args.what c.args.tenant.now c.args.key.now c.in-Some.answer c.call.result c.call.ensures
    (rw c.in-Some.is at c.in_ok-answer.ensures)
    (subst (λ (body : List ℕ). IsChangeIn c.args.what c.args.tenant.now body) c.body.ensures
    c.in_ok-is_told_in-in-Some.ensures.told)

pub returns-in_err-made-in-None-clause-fault : goal.returns-in_err-made-in-None-clause-fault
returns-in_err-made-in-None-clause-fault g c =
    undone_in _ (image_at g.St.Start) _ c.in_err-made-in-None.field-0.0 c.from_residual-in_err-made-in-None.result
    c.from_residual-in_err-made-in-None.ensures.1 (inr c.in_err-made-in-None.ensures.fault)
