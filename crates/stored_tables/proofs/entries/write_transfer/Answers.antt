use Rattle.std.proofs.Common.{sym, ap, subst, ◌∙◌, rules}
use Rattle.std.specs.Option.{option_to_list}
use Rattle.sqlite.specs.State.{State, HasCleanDisk}
use Rattle.rows.specs.Changes.{new_statuses}
use Rattle.ledger_sql.specs.Effects.{IsInside}
use Rattle.ledger_sql.specs.Frames.{Follows}
use Rattle.stored_tables.specs.BatchLaws.{clean_before, follows_itself, follows_then}
use Rattle.stored_tables.specs.Moves.{CanWrite}
use Rattle.stored_tables.proofs.EntryRows.{Status, status_written, none_written, history_written, transfer_written}
use Rattle.stored_tables.proofs.Numbers.{passed}
use Rattle.stored_tables.proofs.Writing.{still_inside}
use Rattle.stored_tables.proofs.entries.write_transfer.Goals.{After-new_history-history, in-Some+in_ok-add_status, in_default}
use Rattle.stored_tables.proofs.entries.write_transfer.Goals as goal

module _ (g : _) (c : After-new_history-history g) where
  abbrev s0 : State
  s0 = g.T.LedgerTables.state c.args.tables.now

  abbrev s1 : State
  s1 = g.T.LedgerTables.state c.add_transfer.new.self

  abbrev s2 : State
  s2 = g.T.LedgerTables.state c.set_both.new.tables

  abbrev s3 : State
  s3 = g.T.LedgerTables.state c.end_pending.new.tables

  abbrev s4 : State
  s4 = g.T.LedgerTables.state c.match-new_status.tables

  -- the transaction goes on
  can_write : HasCleanDisk s3 → CanWrite s3
  can_write clean3 =
      let clean2 = clean_before s2 s3 c.end_pending.ensures.follows clean3 in
      let clean1 = clean_before s1 s2 c.set_both.ensures.follows clean2 in
      let clean0 = clean_before s0 s1 c.add_transfer.ensures.follows clean1 in
      let first = still_inside s0 s1 (c.requires.inside clean0) (c.in_ok-add_transfer.ensures.ok clean1).inside in
      let second = still_inside s1 s2 first (c.in_ok-set_both.ensures.ok clean2).inside in
      let third = (c.in_ok-end_pending.ensures.ok clean3).inside in
      record { inside = still_inside s2 s3 second third; is_open = third.shown.is_open }

  -- the status of the transfer is written in this state, if it has one
  abbrev Opens : State → Type 0
  Opens s = (HasCleanDisk s → Status c.args.tenant.0 (new_statuses c.args.accepted.now.stored) s3 s) × Follows s3 s

  opened : Opens s4
  opened =
      let t = c.args.tenant.0 in
      let stored = c.args.accepted.now.stored in
      elim c.match-new_status.branch [
        | in-Some+in_ok-add_status w ↦ subst (λ tables. Opens (g.T.LedgerTables.state tables)) (sym w.tables-is) (
          λ clean.
              status_written t stored w.in-Some.status s3 _ (can_write (clean_before s3 _ w.add_status.ensures.follows clean)).inside (sym (ap option_to_list w.in-Some.is) ∙ c.new_status.ensures.row)
              (rw (passed t (search rules)) at (w.in_ok-add_status.ensures.ok clean)),
          w.add_status.ensures.follows,
        )
        | in_default w ↦ subst (λ tables. Opens (g.T.LedgerTables.state tables)) (sym w.tables-is) (
          λ clean. none_written t stored s3 (can_write clean) (sym (ap option_to_list w.in_default.is) ∙ c.new_status.ensures.row),
          follows_itself s3,
        )
      ]

  inside : HasCleanDisk s4 → IsInside s4
  inside clean = still_inside s3 s4 (can_write (clean_before s3 s4 opened.1 clean)).inside (opened.0 clean).inside

pub returns-in_err-add_status-clause-changes : goal.returns-in_err-add_status-clause-changes
returns-in_err-add_status-clause-changes g c = record {
  ok = search rules;
  follows = follows_then _ _ _ (follows_then _ _ _ (follows_then _ _ _ c.add_transfer.ensures.follows c.set_both.ensures.follows) c.end_pending.ensures.follows) c.add_status.ensures.follows;
}

pub add_history-requires-clause-inside : goal.add_history-requires-clause-inside
add_history-requires-clause-inside g c = inside g (goal.at.add_history-requires-clause-inside g c).After-new_history-history

pub returns-clause-changes : goal.returns-clause-changes
returns-clause-changes g c =
    let at = (goal.at.returns-clause-changes g c).After-new_history-history in
    let t = c.args.tenant.0 in
    let a = c.args.accepted.now in
    let s5 = g.T.LedgerTables.state c.add_history.new.self in
    let opens = opened g at in
    record {
      ok = λ clean5.
          let clean4 = clean_before (s4 g at) s5 c.add_history.ensures.follows clean5 in
          let clean3 = clean_before (s3 g at) (s4 g at) opens.1 clean4 in
          let clean2 = clean_before (s2 g at) (s3 g at) c.end_pending.ensures.follows clean3 in
          let clean1 = clean_before (s1 g at) (s2 g at) c.set_both.ensures.follows clean2 in
          let clean0 = clean_before (s0 g at) (s1 g at) c.add_transfer.ensures.follows clean1 in
          let history = history_written t a _ _ (s4 g at) s5 c.add_history.result (inside g at clean4) c.new_history-history.ensures (rw (passed t (search rules)) at (c.add_history.ensures.ok clean5)) in
          transfer_written t a (s0 g at) (s1 g at) (s2 g at) (s3 g at) (s4 g at) s5 (c.requires.inside clean0) (rw (passed t (search rules)) at (c.in_ok-add_transfer.ensures.ok clean1)) (c.in_ok-set_both.ensures.ok clean2)
          (c.in_ok-end_pending.ensures.ok clean3) (opens.0 clean4) c.add_history.result history;
      follows = follows_then _ _ _ (follows_then _ _ _ (follows_then _ _ _ (follows_then _ _ _ c.add_transfer.ensures.follows c.set_both.ensures.follows) c.end_pending.ensures.follows) opens.1) c.add_history.ensures.follows;
    }
