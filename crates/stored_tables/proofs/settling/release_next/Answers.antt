use Rattle.std.proofs.Common.{◌≡◌, None, Some, sym, subst, ◌∙◌, ap}
use Rattle.std.proofs.lemmas.Option.{same_Some}
use Rattle.sqlite.specs.State.{HasCleanDisk}
use Rattle.rows.specs.Settling.{is_due_row}
use Rattle.ledger_sql.specs.Effects.{IsInside}
use Rattle.stored_tables.specs.BatchLaws.{clean_before, follows_itself}
use Rattle.stored_tables.specs.Kept.{kept_in}
use Rattle.stored_tables.specs.Moves.{IsStatusOf}
use Rattle.stored_tables.proofs.ExpiryWrites.{still_told, told_of_row}
use Rattle.stored_tables.proofs.Keeping.{changes, changes_twice}
use Rattle.stored_tables.proofs.KeptMoves.{same_kept}
use Rattle.stored_tables.proofs.Released.{MakesRoom, passes, releases, room_then}
use Rattle.stored_tables.proofs.Writing.{still_inside}
use Rattle.stored_tables.proofs.settling.release_next.Goals.{After-status, then-len-gt-MOST+in_ok-flush, else-len-gt-MOST}
use Rattle.stored_tables.proofs.settling.release_next.Goals as goal

module _ (g : _) (c : After-status g) where
  room : MakesRoom c.args.tenant.0 (kept_in c.args.kept.now.items) (kept_in c.if-len-gt-MOST.kept.items) (g.T.LedgerTables.state c.args.tables.now) (g.T.LedgerTables.state c.if-len-gt-MOST.tables)
  room =
      let s0 = g.T.LedgerTables.state c.args.tables.now in
      elim c.if-len-gt-MOST.branch [
        | then-len-gt-MOST+in_ok-flush w ↦ rw (w.tables-is, w.kept-is) (record { flushes = w.in_ok-flush.ensures.changes.ok; follows = w.flush.ensures.changes.follows })
        | else-len-gt-MOST w ↦ rw (w.tables-is, w.kept-is) (record { flushes = λ clean. same_kept c.args.tenant.0 (kept_in c.args.kept.now.items) s0 (c.requires clean); follows = follows_itself s0 })
      ]

  inside : HasCleanDisk (g.T.LedgerTables.state c.if-len-gt-MOST.tables) → IsInside (g.T.LedgerTables.state c.if-len-gt-MOST.tables)
  inside clean = still_inside _ _ (c.requires (clean_before _ _ room.follows clean)).inside (room.flushes clean).inside

pub expire-requires-clause-told : goal.expire-requires-clause-told
expire-requires-clause-told g c clean =
    let t = c.args.tenant.0 in
    let s1 = g.T.LedgerTables.state c.if-len-gt-MOST.tables in
    let before = clean_before s1 _ c.status.ensures.reads.follows clean in
    let schema = (inside g (goal.at.expire-requires-clause-told g c).After-status before).schema in
    let told : IsStatusOf t c.args.id s1.now.trees (Some c.in-Some.row) = subst (IsStatusOf t c.args.id s1.now.trees) c.in-Some.is (c.in_ok-row.ensures.ok clean schema) in
    still_told t c.in-Some.row s1 (g.T.LedgerTables.state c.status.new.tables) (c.in_ok-row.ensures.reads.same clean) (told_of_row t c.args.id c.in-Some.row s1.now.trees told)

pub returns-in_default : goal.returns-in_default
returns-in_default g c =
    let looked = (goal.at.returns-in_default g c).After-status in
    let kept = kept_in c.if-len-gt-MOST.kept.items in
    room_then g.T.LedgerTables.state c.args.tenant.0 c.args.clock c.args.id _ kept _ c.args.tables.now c.if-len-gt-MOST.tables c.status.new.tables _ (room g looked)
    (changes g.T.LedgerTables.state c.if-len-gt-MOST.tables c.status.new.tables _ _ _ (inside g looked) c.status.ensures.reads.follows
    (λ inside clean. passes c.args.tenant.0 c.args.clock c.args.id c.in_ok-row.field-0 _ _ (c.in_ok-row.ensures.ok clean inside.schema) (c.in_ok-row.ensures.reads.same clean) kept inside
    (λ row there. absurd (let e : None ≡ Some row = sym c.in_default.is ∙ there in cc))))

pub returns-then-is_due : goal.returns-then-is_due
returns-then-is_due g c =
    let looked = (goal.at.returns-then-is_due g c).After-status in
    let kept = kept_in c.if-len-gt-MOST.kept.items in
    room_then g.T.LedgerTables.state c.args.tenant.0 c.args.clock c.args.id _ kept _ c.args.tables.now c.if-len-gt-MOST.tables c.expire.new.tables _ (room g looked)
    (changes_twice g.T.LedgerTables.state c.if-len-gt-MOST.tables c.status.new.tables c.expire.new.tables c.expire.result _ _ (inside g looked) c.status.ensures.reads.follows c.expire.ensures.follows
    (λ inside before clean.
    releases c.args.tenant.0 c.args.clock c.args.id c.in_ok-row.field-0 _ _ (c.in_ok-row.ensures.ok before inside.schema) (c.in_ok-row.ensures.reads.same before) kept (kept_in c.expire.new.kept.items) c.clock_rows.ensures.next _ c.in-Some.row c.in-Some.is (sym c.is_due.ensures ∙ c.if-is_due.true) c.expire.result
    (c.expire.ensures.ok clean)))

pub returns-else-is_due : goal.returns-else-is_due
returns-else-is_due g c =
    let looked = (goal.at.returns-else-is_due g c).After-status in
    let kept = kept_in c.if-len-gt-MOST.kept.items in
    room_then g.T.LedgerTables.state c.args.tenant.0 c.args.clock c.args.id _ kept _ c.args.tables.now c.if-len-gt-MOST.tables c.status.new.tables _ (room g looked)
    (changes g.T.LedgerTables.state c.if-len-gt-MOST.tables c.status.new.tables _ _ _ (inside g looked) c.status.ensures.reads.follows
    (λ inside clean. passes c.args.tenant.0 c.args.clock c.args.id c.in_ok-row.field-0 _ _ (c.in_ok-row.ensures.ok clean inside.schema) (c.in_ok-row.ensures.reads.same clean) kept inside
    (λ row there. ap (is_due_row c.args.clock) (same_Some _ _ (sym there ∙ c.in-Some.is)) ∙ sym c.is_due.ensures ∙ c.if-is_due.false)))
