use Rattle.admin_client.proofs.ExtractLemmas.{asked_part, asked_whole}
use Rattle.admin_client.proofs.statements.put_asked.Goals as goal

pub returns-then-is_whole : goal.returns-then-is_whole
returns-then-is_whole g c = record {
  told = λ live.
      asked_whole g.O.Drain.written _ _ c.args.asked.now _ _ _ c.is_whole.result c.is_whole.ensures
      c.if-is_whole.true (c.write_statement.ensures.told live);
  reads = c.write_statement.ensures.reads;
}

pub returns : goal.returns
returns g c = record {
  told = λ live.
      asked_part g.O.Drain.written _ _ c.args.asked.now _ _ _ c.is_whole.result c.is_whole.ensures
      c.if-is_whole.false (c.write_extract.ensures.told live);
  reads = c.write_extract.ensures.reads;
}
