use Rattle.chain.proofs.HoldLemmas.{hold_is}
use Rattle.chain.proofs.lookups.hold_of.Goals as goal

pub returns : goal.returns
returns g c = record {
  value = λ live.
      let before = g.met.T.Tables.lived _ _ c.in_ok-state.ensures.leaves.follows live in
      hold_is (g.T.Tables.means.state c.args.tables.now).now c.args.transfer.now c.in_ok-state.field-0 c.in-Some.state
      c.due_or_never.result (g.met.T.Tables.valid _ before c.requires.usable) (c.requires.held before)
      (c.in_ok-state.ensures.value live) c.in-Some.is c.due_or_never.ensures;
  leaves = record {
    same = c.in_ok-state.ensures.leaves.state;
    usable = c.in_ok-state.ensures.leaves.usable;
    follows = c.in_ok-state.ensures.leaves.follows;
  };
}
