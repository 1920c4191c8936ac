use Rattle.std.proofs.Common.{◌∙◌, ap}
use Rattle.records.specs.Reads.{in_order}
use Rattle.admin_client.proofs.ExtractLemmas.{handed}
use Rattle.admin_client.proofs.extracts.extract_of.Goals as goal

pub returns : goal.returns
returns g c = record {
  told = λ live.
      let all = handed c.args.asked.now.period _ c.new-extract.result c.each_statement_row.new.sink
      c.rows_make_an_extract.ensures c.new-extract.ensures.empty (c.in_default.ensures.told live) in (
        all.0,
        all.1,
        record {
          opening = c.turned.ensures.opening ∙ all.2.opening;
          closing = c.turned.ensures.closing ∙ all.2.closing;
          kept = c.turned.ensures.rows ∙ ap (in_order c.args.asked.now.order) all.2.rows;
        },
      );
  reads = c.in_default.ensures.reads;
}
