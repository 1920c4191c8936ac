use Rattle.std.proofs.Common.{ap}
use Rattle.chain.specs.Tables.{State}
use Rattle.plain.proofs.KeptLists.{kept_transfer, state_transfer}
use Rattle.plain.proofs.plain_tables.PlainTablesTables.accept_transfer.Goals as goal

pub invariant_of-self : goal.invariant_of-self
invariant_of-self c =
    kept_transfer _ _ _ _ c.self.view_is c.self.invariant (c.requires.next tt).next
    c.in-Ok.ensures.items

pub returns-in-Ok : goal.returns-in-Ok
returns-in-Ok c = record {
  state = λ live. state_transfer _ _ _ c.push.new.self c.self.view_is c.self.invariant
      c.in-Ok.ensures.items;
  usable = (kept_transfer _ _ _ c.push.new.self c.self.view_is c.self.invariant
      (c.requires.next tt).next c.in-Ok.ensures.items).now;
  undone = λ live. tt;
  follows =
      ap (λ (s : State). s.begun)
      (state_transfer _ _ _ c.push.new.self c.self.view_is c.self.invariant c.in-Ok.ensures.items);
}
