use Rattle.std.proofs.Common.{Err, ap, ◌∙◌}
use Rattle.std.proofs.lemmas.Result.{err_from_is_err_and}
use Rattle.wire.specs.KnownObjects.{page_fields, tag_fields}
use Rattle.wire.specs.Trees.{tree_data}
use Rattle.wire.proofs.Misfits.{after_good, in_first}
use Rattle.wire.proofs.known_objects.QueryFilterObject.read_fields.Goals as goal

pub returns-in_err-read_tags-clause-misfit : goal.returns-in_err-read_tags-clause-misfit
returns-in_err-read_tags-clause-misfit c =
    let p = err_from_is_err_and c.from_residual.result c.from_residual.ensures.1 in
    rw (p.1 ∙ ap Err p.2)
    (in_first tag_fields page_fields (tree_data c.args.object.now) _ c.in_err-read_tags.ensures.misfit)

pub returns-in_err-read_page-clause-misfit : goal.returns-in_err-read_page-clause-misfit
returns-in_err-read_page-clause-misfit c =
    let r = c.from_residual-in_err-read_page in
    let p = err_from_is_err_and r.result r.ensures.1 in
    rw (p.1 ∙ ap Err p.2)
    (after_good tag_fields page_fields (tree_data c.args.object.now) _ c.in_ok-read_tags.ensures.misfit
    c.in_err-read_page.ensures.misfit)
