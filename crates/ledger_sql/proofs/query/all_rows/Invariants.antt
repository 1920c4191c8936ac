use Rattle.std.proofs.Common.{◌≡◌, map}
use Rattle.std.specs.Prelude.{All}
use Rattle.sqlite.specs.Values.{bound}
use Rattle.ledger_sql.proofs.StreamLemmas.{IsUnderWay}
use Rattle.ledger_sql.proofs.query.all_rows.Given as goal

abbrev pub invariant-rows : goal.invariant-rows
invariant-rows g l =
    (l.rows.conn.ghost_name ≡ l.initial.rows.conn.ghost_name)
    × IsUnderWay g.S.Store l.text (bound l.params) l.fn.conn l.rows.conn.now (map g.T.ReadRow.values l.read.items)
    × All g.T.ReadRow.is_storable l.read.items
