use Rattle.std.proofs.Common.{rules, List, [], ◌∷◌, map, filter, sym, subst, ◌∙◌, arith}
use Rattle.std.proofs.lemmas.List.{map-append}
use Rattle.std.proofs.lemmas.Map.Iter.{iter_end}
use Rattle.std.specs.Map.Iter.{deref}
use Rattle.stored_tables.specs.declared.kept.KeptRow.{KeptRow}
use Rattle.stored_tables.specs.BatchLaws.{clean_before, follows_itself, follows_then}
use Rattle.stored_tables.specs.Kept.{kept_in}
use Rattle.stored_tables.proofs.ClockMoves.{clock_moved}
use Rattle.stored_tables.proofs.DueKeys.{is_within}
use Rattle.stored_tables.proofs.Keeping.{changes_twice}
use Rattle.stored_tables.proofs.Numbers.{passed}
use Rattle.stored_tables.proofs.ReleasedAll.{ReleasesSeen, seen_none, seen_more, due_flushed, can_write_still}
use Rattle.stored_tables.proofs.settling.move_clock.Goals as goal

pub loop-entry-init : goal.loop-entry-init
loop-entry-init g c =
    let s0 = g.T.LedgerTables.state c.args.tables.now in (
      tt,
      tt,
      λ clean.
          subst (λ (items : List KeptRow). ReleasesSeen c.args.tenant.0 c.args.clock (kept_in items) [] s0 s0) (sym c.new-kept.ensures)
          (seen_none c.args.tenant.0 c.args.clock c.clock_rows.ensures.first c.rows_fit.ensures c.keys_are_distinct.ensures s0 (c.requires.writing clean)),
      follows_itself s0,
    )

pub release_next-requires : goal.release_next-requires
release_next-requires g c clean =
    let s0 = g.T.LedgerTables.state c.args.tables.now in
    let before = clean_before _ _ c.loop-entry.invariant.3 clean in
    can_write_still s0 (g.T.LedgerTables.state c.loop-entry.tables) (c.requires.writing before) (c.loop-entry.invariant.2 clean).inside

pub flush-requires : goal.flush-requires
flush-requires g c clean =
    let s0 = g.T.LedgerTables.state c.args.tables.now in
    let before = clean_before _ _ c.loop-entry.invariant.3 clean in
    can_write_still s0 (g.T.LedgerTables.state c.loop-entry.tables) (c.requires.writing before) (c.loop-entry.invariant.2 clean).inside

pub loop-entry-preserved : goal.loop-entry-preserved
loop-entry-preserved g c =
    let s0 = g.T.LedgerTables.state c.args.tables.now in
    let s1 = g.T.LedgerTables.state c.loop-entry.tables in
    let s2 = g.T.LedgerTables.state c.release_next.new.tables in
    let follows = c.release_next.ensures.follows in
    let more = kept_in c.release_next.new.kept.items in (
      tt,
      tt,
      λ clean.
          let before = clean_before _ _ follows clean in
          subst (λ seen. ReleasesSeen c.args.tenant.0 c.args.clock more seen s0 s2) (sym (map-append deref c.loop-entry.yielded (c.in-Some.entry ∷ [])))
          (seen_more c.args.tenant.0 c.args.clock (kept_in c.loop-entry.kept.items) more (map deref c.loop-entry.yielded) c.in-Some.entry.now s0 s1 s2 (c.loop-entry.invariant.2 before) (c.in_ok-release_next.ensures.ok clean)),
      follows_then s0 s1 s2 c.loop-entry.invariant.3 follows,
    )

pub returns-in_err-release_next : goal.returns-in_err-release_next
returns-in_err-release_next g c = record { ok = search rules; follows = follows_then _ _ _ c.loop-entry.invariant.3 c.release_next.ensures.follows }

pub returns-in_err-flush : goal.returns-in_err-flush
returns-in_err-flush g c = record { ok = search rules; follows = follows_then _ _ _ c.loop-entry.invariant.3 c.flush.ensures.changes.follows }

pub returns : goal.returns
returns g c =
    let s0 = g.T.LedgerTables.state c.args.tables.now in
    let s1 = g.T.LedgerTables.state c.loop-entry.tables in
    let s2 = g.T.LedgerTables.state c.flush.new.tables in
    let keys = c.args.due.now.keys in
    let kept = kept_in c.loop-entry.kept.items in
    let start = c.into_iter-entry-iterator.ensures.into_iter_gives ∙ c.range-entry-items.ensures.between (search rules)
    ∙ (λ i. filter (is_within (c.new.ensures.start i) (c.new.ensures.end i)) keys) in
    let end = iter_end deref (filter (is_within (c.min-from.result, 340282366920938463463374607431768211455) (c.args.clock, 340282366920938463463374607431768211455)) keys) c.loop-entry.yielded c.into_iter-entry-iterator.result c.loop-entry.entry-iterator c.next.new.self c.next.result start
    c.loop-entry.yielded_by c.in-None.is c.next.ensures.steps in
    changes_twice g.T.LedgerTables.state c.args.tables.now c.flush.new.tables c.set_clock.new.self c.set_clock.result _ _ c.requires.writing (follows_then s0 s1 s2 c.loop-entry.invariant.3 c.flush.ensures.changes.follows) c.set_clock.ensures.follows
    (λ can flushed set.
    let before = clean_before _ _ c.flush.ensures.changes.follows flushed in
    clock_moved c.clock_rows.ensures.last c.args.tenant.0 c.args.past c.args.clock _ _ _ _ c.set_clock.result can.inside
    (due_flushed c.rows_fit.ensures c.args.tenant.0 c.args.past c.min-from.result c.args.clock keys kept c.flush.new.kept.items s0 s1 s2 (search (rules, arith))
    (subst (λ seen. ReleasesSeen c.args.tenant.0 c.args.clock kept seen s0 s1) end.0 (c.loop-entry.invariant.2 before)) (c.in_ok-flush.ensures.changes.ok flushed) c.in_ok-flush.ensures.empty)
    (rw (passed c.args.tenant.0 (search rules)) at (c.set_clock.ensures.ok set)))
