use Rattle.std.proofs.Common.{ap}
use Rattle.chain.specs.Tables.{State}
use Rattle.plain.proofs.KeptLists.{kept_failed, state_failed}
use Rattle.plain.proofs.plain_tables.PlainTablesTables.record_failed.Goals as goal

pub invariant_of-self : goal.invariant_of-self
invariant_of-self c =
    kept_failed _ _ _ _ c.self.view_is (c.requires.unmarked tt) c.self.invariant
    (c.requires.fails tt).next c.in-Ok.ensures.items

pub returns-in-Ok : goal.returns-in-Ok
returns-in-Ok c = record {
  state = λ live. state_failed _ _ _ c.push.new.self c.self.view_is (c.requires.unmarked tt)
      c.self.invariant c.in-Ok.ensures.items;
  usable = (kept_failed _ _ _ c.push.new.self c.self.view_is (c.requires.unmarked tt)
      c.self.invariant (c.requires.fails tt).next c.in-Ok.ensures.items).now;
  undone = λ live. tt;
  follows =
      ap (λ (s : State). s.begun)
      (state_failed _ _ _ c.push.new.self c.self.view_is (c.requires.unmarked tt) c.self.invariant
      c.in-Ok.ensures.items);
}
