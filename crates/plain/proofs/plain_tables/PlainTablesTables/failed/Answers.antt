use Rattle.std.proofs.Common.{sym, ◌∙◌, ap, rules}
use Rattle.records.specs.Machine.{has_id}
use Rattle.chain.specs.Tables.{State}
use Rattle.plain.proofs.AscendingIds.{has_ascending}
use Rattle.plain.proofs.plain_tables.PlainTablesTables.failed.Goals as goal

pub returns : goal.returns
returns c = record {
  value = λ live.
      c.find_id.ensures
      ∙ ap (has_id c.args.id) c.deref.ensures.value
      ∙ sym (has_ascending c.args.id c.self.inside.failed.items)
      ∙ ap (λ (s : State). has_id c.args.id s.now.failed) c.self.view_is;
  leaves = search rules;
}
