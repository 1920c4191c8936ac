use Rattle.admin_client.specs.Statements.{answer_in}
use Rattle.admin_client.proofs.StatementLemmas.{broken_off}
use Rattle.admin_client.proofs.statements.write_statement.Goals as goal

pub returns-in-Err : goal.returns-in-Err
returns-in-Err g c = record {
  told = λ live.
      broken_off g.O.Drain.written c.rows_begin_a_statement.ensures c.new-writer.result c.new-writer.ensures.begun
      (answer_in (g.L.Ledgers.means.tenants c.args.ledgers.now c.args.digest.now) c.args.account c.args.order)
      c.each_statement_row.new.sink c.in-Err.why c.args.out c.into_inner.result c.statement_fault.result
      c.new-writer.ensures.drain c.into_inner.ensures c.statement_fault.ensures (c.in-Err.ensures.told live);
  reads = c.in-Err.ensures.reads;
}
