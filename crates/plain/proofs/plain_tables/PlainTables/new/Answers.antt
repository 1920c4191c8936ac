use Rattle.std.proofs.Common.{refl, rules}
use Rattle.plain.proofs.NewTenant.{valid_new}
use Rattle.plain.proofs.plain_tables.PlainTables.new.Goals as goal

pub invariant_of-result : goal.invariant_of-result
invariant_of-result c = record {
  now = valid_new _ _ _ c.new.ensures.items c.new-2.ensures.items c.new-3.ensures.items;
  begun = valid_new _ _ _ refl refl refl;
  lists = search rules;
  failed = search rules;
  mark = tt;
}

pub returns-clause-usable : goal.returns-clause-usable
returns-clause-usable c =
    valid_new _ _ _ c.new.ensures.items c.new-2.ensures.items c.new-3.ensures.items
