use Rattle.std.proofs.Common.{None, sym, subst}
use Rattle.store.specs.declared.store.Store.{Store}
use Rattle.commands.specs.Kept.{Attends}
use Rattle.commands.specs.declared.kept.Kept.{Kept}
use Rattle.commands.specs.declared.kept.Kept.TheVariants.{Open}
use Rattle.commands.proofs.OrderLemmas.{order_renews}
use Rattle.commands.proofs.orders.carry_out.Goals as goal

pub returns-in-Open-clause-renews : goal.returns-in-Open-clause-renews
returns-in-Open-clause-renews g c =
    subst (λ (was : Kept (Store _ _)). Attends None was (Open c.carry_out_on-done.new.store)) (sym c.in-Open.is)
    (order_renews c.args.order.now _ c.carry_out_on-done.new.store c.carry_out_on-done.result
    c.carry_out_on-done.ensures)
