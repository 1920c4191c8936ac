use Rattle.std.proofs.Common.{rules}
use Rattle.plain.proofs.KeptLists.{kept_later}
use Rattle.plain.proofs.plain_tables.PlainTablesTables.settle.Goals as goal

pub invariant_of-self : goal.invariant_of-self
invariant_of-self c =
    kept_later _ _ _ c.self.view_is c.self.invariant (c.requires.later tt) c.requires.bounded

pub returns : goal.returns
returns c = record {
  state = λ live. search rules;
  usable = (kept_later _ _ _ c.self.view_is c.self.invariant (c.requires.later tt)
      c.requires.bounded).now;
  undone = λ live. tt;
  follows = search rules;
}
