use Rattle.std.proofs.Common.{ap, ◌∙◌}
use Rattle.records.specs.Balances.{balances_of, balances_in}
use Rattle.chain.specs.Tables.{State}
use Rattle.plain.proofs.plain_tables.PlainTables.balances.Goals as goal

pub balances-requires-clause-debits : goal.balances-requires-clause-debits
balances-requires-clause-debits c =
    rw c.deref.ensures.value (c.sums_fit.ensures _ c.self.invariant.now _).debits

pub balances-requires-clause-credits : goal.balances-requires-clause-credits
balances-requires-clause-credits c =
    rw c.deref.ensures.value (c.sums_fit.ensures _ c.self.invariant.now _).credits

pub returns : goal.returns
returns c =
    c.balances.ensures
    ∙ ap (λ transfers. balances_of transfers c.self.inside.clock c.args.id) c.deref.ensures.value
    ∙ ap (λ (s : State). balances_in s.now c.args.id) c.self.view_is
