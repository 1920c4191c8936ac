use Rattle.std.proofs.Common.{Ok, refl, sym, ◌∙◌, rules}
use Rattle.sqlite.proofs.Callers.{unchanged_then}
use Rattle.sqlite.specs.State.{HasCleanDisk, IsUnchanged}
use Rattle.records.specs.declared.unavailable.Unavailable.TheVariants.{Disk}
use Rattle.rows.specs.Cells.{transfer_cells}
use Rattle.rows.specs.Widths.{IsStorableTransfer}
use Rattle.ledger_sql.specs.Frames.{Follows}
use Rattle.ledger_sql.specs.Values.{transfer_values}
use Rattle.stored_tables.specs.BatchLaws.{clean_before, follows_then}
use Rattle.stored_tables.specs.Kept.{kept_in}
use Rattle.stored_tables.specs.Releasing.{IsTransferOf}
use Rattle.stored_tables.proofs.ExpiryReads.{told_or, expiry_told, still_ledger, inside_still}
use Rattle.stored_tables.proofs.ExpiryWrites.{expired, still_told}
use Rattle.stored_tables.proofs.Numbers.{passed}
use Rattle.stored_tables.proofs.PointReads.{row_read, same_transfer}
use Rattle.stored_tables.proofs.expiring.expire.Goals.{In_ok-credit}
use Rattle.stored_tables.proofs.expiring.expire.Goals as goal

pub balances_of-requires : goal.balances_of-requires
balances_of-requires g c clean = (c.in_ok-find_transfer.ensures.reads.same clean).0.is_open

pub balances_of-requires-2 : goal.balances_of-requires-2
balances_of-requires-2 g c clean = (c.in_ok-debit.ensures.reads.same clean).0.is_open

pub returns-in_err-debit : goal.returns-in_err-debit
returns-in_err-debit g c = record { ok = search rules; follows = follows_then _ _ _ c.find_transfer.ensures.reads.follows c.balances_of.ensures.reads.follows }

pub returns-in_err-credit : goal.returns-in_err-credit
returns-in_err-credit g c = record { ok = search rules; follows = follows_then _ _ _ (follows_then _ _ _ c.find_transfer.ensures.reads.follows c.balances_of.ensures.reads.follows) c.balances_of-2.ensures.reads.follows }

-- what was read is so still
module _ (g : _) (c : In_ok-credit g) where
  follows : Follows (g.T.LedgerTables.state c.args.tables.now) (g.T.LedgerTables.state c.balances_of-2.new.tables)
  follows = follows_then _ _ _ (follows_then _ _ _ c.find_transfer.ensures.reads.follows c.balances_of.ensures.reads.follows) c.balances_of-2.ensures.reads.follows

  same : HasCleanDisk (g.T.LedgerTables.state c.balances_of-2.new.tables) → IsUnchanged (g.T.LedgerTables.state c.args.tables.now) (g.T.LedgerTables.state c.balances_of-2.new.tables)
  same clean3 =
      let clean2 = clean_before _ _ c.balances_of-2.ensures.reads.follows clean3 in
      let clean1 = clean_before _ _ c.balances_of.ensures.reads.follows clean2 in
      unchanged_then _ _ _ (unchanged_then _ _ _ (c.in_ok-find_transfer.ensures.reads.same clean1) (c.in_ok-debit.ensures.reads.same clean2)) (c.in_ok-credit.ensures.reads.same clean3)

pub returns-in_err-left : goal.returns-in_err-left
returns-in_err-left g c = record { ok = search rules; follows = follows g (goal.at.returns-in_err-left g c).In_ok-credit }

pub set_state-requires-clause-inside : goal.set_state-requires-clause-inside
set_state-requires-clause-inside g c clean =
    let read = (goal.at.set_state-requires-clause-inside g c).In_ok-credit in
    inside_still _ _ (same g read clean) (c.requires.inside (clean_before _ _ (follows g read) clean))

pub set_state-requires-clause-told : goal.set_state-requires-clause-told
set_state-requires-clause-told g c clean =
    let read = (goal.at.set_state-requires-clause-told g c).In_ok-credit in
    still_told c.args.tenant.0 c.args.row.now _ _ (same g read clean) (c.requires.told (clean_before _ _ (follows g read) clean))

pub returns : goal.returns
returns g c =
    let t = c.args.tenant.0 in
    let id = c.args.row.now.transfer in
    let transfer = c.in_ok-transfer.transfer in
    let kept = kept_in c.args.kept.now.items in
    let s0 = g.T.LedgerTables.state c.args.tables.now in
    let s1 = g.T.LedgerTables.state c.find_transfer.new.self in
    let s2 = g.T.LedgerTables.state c.balances_of.new.tables in
    let s3 = g.T.LedgerTables.state c.balances_of-2.new.tables in
    let s4 = g.T.LedgerTables.state c.set_state.new.tables in
    let read = (goal.at.returns g c).In_ok-credit in
    record {
      ok = λ clean4.
          let clean3 = clean_before s3 s4 c.set_state.ensures.follows clean4 in
          let clean2 = clean_before s2 s3 c.balances_of-2.ensures.reads.follows clean3 in
          let clean1 = clean_before s1 s2 c.balances_of.ensures.reads.follows clean2 in
          let first = c.in_ok-find_transfer.ensures.reads.same clean1 in
          let second = c.in_ok-debit.ensures.reads.same clean2 in
          let ledger = (c.requires.inside (clean_before s0 s3 (follows g read) clean3)).schema in
          let ledger1 = still_ledger s0 s1 first ledger in
          let found = rw (passed t (search rules)) at (c.in_ok-find_transfer.ensures.ok clean1 ledger) in
          let own : IsTransferOf t id s0.now.trees transfer =
          told_or c.in_ok-find_transfer.field-0 Disk (Ok transfer) (search rules) (IsTransferOf t id s0.now.trees) (λ u some rows held fit once.
          sym (row_read (λ x. transfer_values (transfer_cells x)) (λ x. x.id) IsStorableTransfer (λ x id. refl) (λ x fit. fit.widths.id) same_transfer c.columns_keep_order.ensures.one_to_one id c.requires.fits.transfer
          rows.transfers _ _ (c.found_by_key.ensures.alone (λ x. x.id) id rows.transfers once) fit held.transfers c.in_ok-find_transfer.ensures.fits found) ∙ some) in
          let told =
          expiry_told t kept id s0 s1 s2 transfer c.in_ok-debit.debit c.in_ok-credit.credit c.in_ok-left.left.0 c.in_ok-left.left.1 first second own (c.in_ok-debit.ensures.ok clean2 ledger1)
          (c.in_ok-credit.ensures.ok clean3 (still_ledger s1 s2 second ledger1)) c.in_ok-left.ensures.0 c.in_ok-left.ensures.1 in
          expired t id kept (kept_in c.keep_both.new.kept.items) _ s0 s3 s4 told (same g read clean3) c.keep_both.ensures c.set_state.result (c.set_state.ensures.ok clean4);
      follows = follows_then s0 s3 s4 (follows g read) c.set_state.ensures.follows;
    }
