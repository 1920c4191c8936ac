use Rattle.std.proofs.Common.{refl, rules}
use Rattle.commands.proofs.settling.Settler.rest_behind.Goals as goal

pub returns-then-not-begins-clause-behind : goal.returns-then-not-begins-clause-behind
returns-then-not-begins-clause-behind c = record {
  noted = c.note-rest.new.self.behind;
  notes = c.note-rest.ensures.behind;
  ends = λ begins. absurd (search rules);
  goes_on = λ goes. refl;
}

pub returns-clause-behind : goal.returns-clause-behind
returns-clause-behind c = record {
  noted = c.note-rest.new.self.behind;
  notes = c.note-rest.ensures.behind;
  ends = λ begins. c.end_search.ensures;
  goes_on = λ goes. absurd (goes (c.begins.ensures.0 (search rules)));
}
