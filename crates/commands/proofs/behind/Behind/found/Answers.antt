use Rattle.std.proofs.Common.{inl, refl, rules}
use Rattle.std.proofs.lemmas.Fn.{filter_same}
use Rattle.commands.proofs.behind.Behind.found.Goals as goal

pub returns-then-overdue : goal.returns-then-overdue
returns-then-overdue c = record {
  before = filter_same _ _ _ (λ x b f' k. search rules) _ _ c.retain.ensures.filtered;
  since = search rules;
}

pub returns-else-overdue : goal.returns-else-overdue
returns-else-overdue c = record {
  before = filter_same _ _ _ (λ x b f' k. search rules) _ _ c.retain.ensures.filtered;
  since = inl refl;
}
