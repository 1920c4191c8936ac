use Rattle.std.proofs.Common.{map, length}
use Rattle.std.proofs.lemmas.List.{length-map}
use Rattle.ledger_shape.specs.Forms.{table_for}
use Rattle.ledger_shape.proofs.StartLemmas.{starts_alike}
use Rattle.ledger_shape.proofs.shape.start_as.Goals as goal

pub returns-then-forms-tables : goal.returns-then-forms-tables
returns-then-forms-tables c =
    let forms = c.args.forms.now in
    let alike = starts_alike (map table_for forms) c.args.tables.now (length forms)
    (length-map forms table_for) in
    (λ fits. alike.0 (c.fit_all.ensures.0 fits), λ starts. c.fit_all.ensures.1 (alike.1 starts))
