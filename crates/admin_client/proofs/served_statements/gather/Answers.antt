use Rattle.std.proofs.Common.{◌∙◌, ◌∷◌, ◌++◌, List, ap, map}
use Rattle.chain.specs.AccountEntries.{row_of}
use Rattle.records.specs.Reads.{in_order}
use Rattle.records.specs.declared.transfer.Transfer.{Transfer}
use Rattle.admin_client.specs.Served.{entries_of, transfers_asked}
use Rattle.admin_client.proofs.ServedLemmas.{rows_kept, transfers_kept}
use Rattle.admin_client.proofs.served_statements.gather.Goals as goal

pub returns : goal.returns
returns c =
    let taken = c.in_ok-hand_over.ensures.taken in
    let account = c.args.first.asked.account in
    let asked = c.args.asked.now in
    let entries = entries_of (c.args.first.entries ∷ taken.0) in
    let last = c.hand_over.new.sink in
    let found = c.rows_make_an_extract.ensures asked.period c.new-extract.result last.extract
    (map (row_of account) entries) c.new-extract.ensures.empty (rows_kept _ last entries taken.2) in (
      taken.0,
      taken.1,
      record {
        found = record {
          opening = c.turned.ensures.opening ∙ found.opening;
          closing = c.turned.ensures.closing ∙ found.closing;
          kept = c.turned.ensures.rows ∙ ap (in_order asked.order) found.rows;
        };
        transfers =
            c.turned.ensures.transfers
            ∙ ap (in_order asked.order) (transfers_kept _ last entries taken.2
            ∙ ap (λ (front : List Transfer). front ++ transfers_asked account asked entries)
            c.new-transfers.ensures.items);
      },
    )
