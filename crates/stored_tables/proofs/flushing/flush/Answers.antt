use Rattle.std.proofs.Common.{ap, ◌++◌, ◌∙◌}
use Rattle.std.specs.Option.{option_to_list}
use Rattle.stored_tables.specs.BatchLaws.{clean_before, follows_itself, follows_then}
use Rattle.stored_tables.specs.Kept.{kept_in}
use Rattle.stored_tables.proofs.KeptMoves.{same_kept, kept_then, one_flushed}
use Rattle.stored_tables.proofs.Writing.{still_inside}
use Rattle.stored_tables.proofs.flushing.flush.Goals as goal

pub loop-row-init : goal.loop-row-init
loop-row-init g c =
    let s0 = g.T.LedgerTables.state c.args.tables.now in
    (λ clean. same_kept c.args.tenant.0 (kept_in c.args.kept.now.items) s0 (c.requires clean), follows_itself s0)

pub set_balances-requires : goal.set_balances-requires
set_balances-requires g c clean =
    let s0 = g.T.LedgerTables.state c.args.tables.now in
    let before = clean_before _ _ c.loop-row.invariant.1 clean in
    still_inside s0 (g.T.LedgerTables.state c.loop-row.tables) (c.requires before).inside (c.loop-row.invariant.0 clean).inside

pub loop-row-preserved : goal.loop-row-preserved
loop-row-preserved g c =
    let s0 = g.T.LedgerTables.state c.args.tables.now in
    let s1 = g.T.LedgerTables.state c.loop-row.tables in
    let s2 = g.T.LedgerTables.state c.set_balances.new.tables in
    let more = c.loop-row.kept.items in
    let rest = c.pop.new.self.items in
    let row = c.in-Some.row in (
      λ clean.
          let before = clean_before _ _ c.set_balances.ensures.follows clean in
          kept_then c.args.tenant.0 (kept_in c.args.kept.now.items) (kept_in more) (kept_in rest) s0 s1 s2 (c.loop-row.invariant.0 before)
          (one_flushed c.args.tenant.0 more rest row s1 s2 (c.pop.ensures.items ∙ ap (λ o. rest ++ option_to_list o) c.in-Some.is) (c.in_ok-set_balances.ensures.ok clean)),
      follows_then s0 s1 s2 c.loop-row.invariant.1 c.set_balances.ensures.follows,
    )
