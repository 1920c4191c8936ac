use Rattle.std.proofs.Common.{map, to_z-of_z, SFits, w64, rules}
use Rattle.sqlite.specs.State.{HasCleanDisk}
use Rattle.keyed_trees.specs.Kept.{state}
use Rattle.keyed_trees.specs.Rows.{row_of}
use Rattle.ledger_sql.specs.Schema.{ledger_schema}
use Rattle.ledger_entries.specs.Handing.{entry_with, joined}
use Rattle.ledger_entries.specs.Pieces.{history_columns}
use Rattle.ledger_entries.proofs.EntryLemmas.{transfers_join}
use Rattle.ledger_entries.proofs.HandLemmas.{hands_row, none_handed, none_wanted}
use Rattle.ledger_entries.proofs.StateLemmas.{still}
use Rattle.ledger_entries.proofs.handing.hand_row.Goals as goal

pub returns-then-wanted-eq0-clause-handed : goal.returns-then-wanted-eq0-clause-handed
returns-then-wanted-eq0-clause-handed g c = none_wanted g.K.EntrySink.takes g.K.EntrySink.is_full _ _ _ _ _ c.if-wanted-eq0.true

pub returns-in_err-transfers-clause-handed : goal.returns-in_err-transfers-clause-handed
returns-in_err-transfers-clause-handed g c =
    none_handed g.K.EntrySink.takes g.K.EntrySink.is_full _ _ _ _ _ _ c.from_residual.result c.find_transfers.ensures.left c.from_residual.ensures.0 c.requires

pub returns-clause-handed : goal.returns-clause-handed
returns-clause-handed g c =
    let honest = HasCleanDisk (state ledger_schema g.S.Store c.find_transfers.new.tables) in
    let trees = (state ledger_schema g.S.Store c.args.tables.now).now.trees in
    let time_fits : SFits w64 c.args.row.now.1.cells.timestamp = search rules in
    let found = simp to_z-of_z at c.in_ok-transfers.ensures.found in
    let list = rw c.deref.ensures.value at c.hand_transfers.ensures in
    hands_row g.K.EntrySink.takes g.K.EntrySink.is_full honest (joined c.args.wanted.now.tenant trees) (row_of history_columns c.args.row.now) c.args.wanted.now.left c.args.sink.now
    (map (entry_with c.args.row.now.1.cells) c.in_ok-transfers.transfers.items) _ _ _ _ c.find_transfers.ensures.left (λ clean. transfers_join c.args.wanted.now.tenant trees c.args.row.now c.in_ok-transfers.transfers.items (found clean)) list

pub returns-clause-same : goal.returns-clause-same
returns-clause-same g c clean = still _ _ (c.in_ok-transfers.ensures.same clean)
