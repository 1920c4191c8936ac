use Rattle.std.proofs.Common.{ap, sym, ◌∙◌}
use Rattle.records.specs.Facts.{account_in}
use Rattle.chain.specs.AccountEntries.{account_entries, asked_entry, entry_time, page_asked}
use Rattle.chain.specs.Pages.{first_shown}
use Rattle.chain.specs.Tables.{State}
use Rattle.chain.proofs.HistoryRows.{transfers_told}
use Rattle.chain.proofs.histories.TransfersOfWork.run.Goals as goal

pub returns-clause-gives : goal.returns-clause-gives
returns-clause-gives g c live =
    let asked = c.args.self.asked in
    let looked = g.met.T.Tables.lived _ _ c.in_ok-found.ensures.leaves.follows live in
    let begun = g.met.T.Tables.lived _ _ c.in_ok-account.ensures.leaves.follows looked in
    let before = g.met.T.Tables.lived _ _ c.in_ok-clock.ensures.leaves.follows begun in
    let first = c.in_ok-clock.ensures.leaves.state begun in
    let second = c.in_ok-account.ensures.leaves.state looked ∙ first in record {
      is =
          transfers_told (g.T.Tables.means.state c.args.tables.now).now asked c.in_ok-clock.clock c.in-Some.field-0
          c.deref.result.now c.in_ok-entries.entries.items
          (g.met.T.Tables.valid _ before c.requires.usable) (c.in_ok-clock.ensures.value begun)
          (sym (c.in_ok-account.ensures.value looked ∙ ap (λ (s : State). account_in s.now asked.account_id) first) ∙ c.in-Some.is)
          (c.deref.ensures.value ∙ c.in_ok-found.ensures.value live
          ∙ ap (λ (s : State). first_shown entry_time (asked_entry asked) (page_asked asked) (account_entries s.now asked.account_id)) second)
          c.in_ok-entries.ensures;
      same = ap (λ (s : State). s.now) (c.in_ok-found.ensures.leaves.same live ∙ second);
    }

pub returns-clause-over : goal.returns-clause-over
returns-clause-over g c = record {
  usable = c.in_ok-found.ensures.leaves.usable;
  unmarked = λ live.
      let looked = g.met.T.Tables.lived _ _ c.in_ok-found.ensures.leaves.follows live in
      let begun = g.met.T.Tables.lived _ _ c.in_ok-account.ensures.leaves.follows looked in
      let before = g.met.T.Tables.lived _ _ c.in_ok-clock.ensures.leaves.follows begun in
      ap (λ (s : State). s.marked)
      (c.in_ok-found.ensures.leaves.same live ∙ c.in_ok-account.ensures.leaves.state looked ∙ c.in_ok-clock.ensures.leaves.state begun)
      ∙ (c.requires.fresh before).unmarked;
  follows = g.met.T.Tables.then _ _ _
      (g.met.T.Tables.then _ _ _ c.in_ok-clock.ensures.leaves.follows c.in_ok-account.ensures.leaves.follows)
      c.in_ok-found.ensures.leaves.follows;
}
