use Rattle.std.proofs.Common.{◌+◌, ◌<◌, length, inl, inr, arith, rules}
use Rattle.ledger_entries.specs.Handing.{entry_with}
use Rattle.ledger_entries.proofs.HandLemmas.{full_then, hands_all, hands_some, takes_next, wants_then}
use Rattle.ledger_entries.proofs.handing.hand_transfers.Goals as goal

pub returns-then-left-eq0 : goal.returns-then-left-eq0
returns-then-left-eq0 g c =
    let was = c.loop-transfer.invariant in
    hands_some g.K.EntrySink.takes g.K.EntrySink.is_full (entry_with c.args.history.now) c.args.transfers.now _ _ _ _ c.loop-transfer.transfer-index was.within was.taken was.few (inr c.if-left-eq0.true)

pub returns-then-not-entry : goal.returns-then-not-entry
returns-then-not-entry g c =
    let was = c.loop-transfer.invariant in
    let i = c.loop-transfer.transfer-index in
    let lt : i < length c.args.transfers.now = c.loop-transfer-test.true in
    let taken = takes_next g.K.EntrySink.takes g.K.EntrySink.is_full (entry_with c.args.history.now) c.args.transfers.now _ _ _ i _ lt was.taken c.entry.ensures.taken in
    hands_some g.K.EntrySink.takes g.K.EntrySink.is_full (entry_with c.args.history.now) c.args.transfers.now _ _ _ _ (i + 1) (omega arith) taken (omega arith) (inl (full_then c.entry.result (g.K.EntrySink.is_full c.entry.new.self) c.entry.ensures.more (search rules)))

pub loop-transfer-preserved : goal.loop-transfer-preserved
loop-transfer-preserved g c =
    let was = c.loop-transfer.invariant in
    let i = c.loop-transfer.transfer-index in
    let lt : i < length c.args.transfers.now = c.loop-transfer-test.true in
    record {
      taken = takes_next g.K.EntrySink.takes g.K.EntrySink.is_full (entry_with c.args.history.now) c.args.transfers.now _ _ _ i _ lt was.taken c.entry.ensures.taken;
      few = omega arith;
      within = omega arith;
      wants = wants_then c.entry.result (g.K.EntrySink.is_full c.entry.new.self) c.entry.ensures.more c.if-not-entry.false;
    }

pub returns : goal.returns
returns g c =
    let was = c.loop-transfer.invariant in
    hands_all g.K.EntrySink.takes g.K.EntrySink.is_full (entry_with c.args.history.now) c.args.transfers.now _ _ _ _ c.loop-transfer.transfer-index was.within was.taken was.few (omega arith) was.wants
