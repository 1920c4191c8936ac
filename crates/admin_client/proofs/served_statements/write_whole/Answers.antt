use Rattle.std.proofs.Common.{◌∷◌, map, subst}
use Rattle.std.specs.Io.KnownBytes.{Appends}
use Rattle.chain.specs.AccountEntries.{row_of}
use Rattle.statement.specs.Text.{statement_text}
use Rattle.admin_client.specs.Served.{entries_of}
use Rattle.admin_client.proofs.ServedLemmas.{lines_taken}
use Rattle.admin_client.proofs.served_statements.write_whole.Goals as goal

pub returns-in-Ok-clause-written : goal.returns-in-Ok-clause-written
returns-in-Ok-clause-written g c =
    let taken = c.in_default.ensures.taken in
    let entries = entries_of (c.args.first.entries ∷ taken.0) in
    let rows = map (row_of c.args.first.asked.account) entries in (
      taken.0,
      taken.1,
      subst
          (λ (out : g.row.O.Denot). Appends (g.O.Drain.written out)
          (g.O.Drain.written c.finish-out.result.0) (statement_text rows))
          c.new-writer.ensures.drain
          (c.rows_make_a_statement.ensures c.new-writer.result c.hand_over-handed.new.sink.writer rows
          _ c.new-writer.ensures.begun
          (lines_taken g.O.Drain.written _ c.hand_over-handed.new.sink _ taken.2)
          (rw c.in-Ok.is at c.finish-out.ensures.ok)),
    )
