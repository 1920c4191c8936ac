use Rattle.std.proofs.Common.{sym, arith}
use Rattle.records.specs.Valid.{IsNextTimestamp}
use Rattle.chain.proofs.events.TransferEventBatchEvent.run_one.Goals as goal

pub accept_transfer-requires-clause-next : goal.accept_transfer-requires-clause-next
accept_transfer-requires-clause-next g c live =
    let t = g.T.Tables.means in
    let old = t.state c.args.tables.now in
    let was : t.is_live c.args.tables.now =
    g.met.T.Tables.lived _ _ c.in_ok-facts.ensures.leaves.follows live in
    let here = c.requires.in_batch was in
    let next : IsNextTimestamp old.now c.args.timestamp = record {
      positive = c.requires.in_time.positive;
      after_accounts = here.after_accounts;
      after_transfers = here.after_transfers;
      in_batch = rw here.at c.requires.in_time.in_batch;
      by_clock = rw here.at (omega (arith, c.requires.in_time.by_clock));
    } in
    let valid = g.met.T.Tables.valid c.args.tables.now was c.requires.usable in
    rw (c.in_ok-facts.ensures.leaves.state live)
    (c.in-Accept.ensures.next old.now valid (c.in_ok-facts.ensures.value live) (sym here.at) next)
