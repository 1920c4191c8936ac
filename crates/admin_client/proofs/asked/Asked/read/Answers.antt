use Rattle.admin_client.proofs.AskLemmas.{form_unread}
use Rattle.admin_client.proofs.asked.Asked.read.Goals as goal

pub returns-in_err-form-clause-err : goal.returns-in_err-form-clause-err
returns-in_err-form-clause-err c =
    form_unread c.from_residual-in_err-form.result c.args.words.now _ _ c.in_err-form.field-0.0
    c.from_residual-in_err-form.ensures.1 c.in_ok-from.ensures c.in_ok-to.ensures c.in_err-form.ensures.is c.in_err-form.ensures.err
