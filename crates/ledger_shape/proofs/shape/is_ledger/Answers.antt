use Rattle.std.proofs.Common.{ap, drop, sym, ◌∙◌}
use Rattle.std.proofs.lemmas.List.{take_rest}
use Rattle.ledger_shape.proofs.LedgerLemmas.{ledger_alike}
use Rattle.ledger_shape.proofs.shape.is_ledger.Goals as goal

pub returns-then-start_as : goal.returns-then-start_as
returns-then-start_as c =
    let starts = c.start_as.ensures.0 c.if-start_as.true in
    ledger_alike c.args.schema.now _ _ (starts.0, sym c.as_slice-tables.ensures ∙ starts.1)
    (take_rest c.as_slice-tables.result.now 9 ∙ ap (drop 9) c.as_slice-tables.ensures)
    c.are_strangers.ensures
