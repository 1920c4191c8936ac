use Rattle.std.proofs.Common.{◌≡◌, false}
use Rattle.sqlite.specs.Values.{bound}
use Rattle.ledger_sql.proofs.HandLemmas.{IsHanding}
use Rattle.ledger_sql.proofs.entries.hand_out.Given as goal

abbrev pub invariant-rows : goal.invariant-rows
invariant-rows g l =
    (l.rows.conn.ghost_name ≡ l.initial.rows.conn.ghost_name)
    × IsHanding g.S.Store g.K.EntrySink.takes l.text (bound l.params) l.fn.conn l.rows.conn.now l.fn.sink l.sink
    × (g.K.EntrySink.is_full l.sink ≡ false)
