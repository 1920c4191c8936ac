use Rattle.std.proofs.Common.{Some, sym, ap, ◌∙◌}
use Rattle.wire.specs.Misfits.{an_object, refusal_of}
use Rattle.wire.specs.Trees.{tree_data}
use Rattle.wire.proofs.BadItems.{bad_object}
use Rattle.wire.proofs.Misfits.{refused_as}
use Rattle.wire.proofs.faults.object_fault.Goals as goal

pub returns-clause-refusal : goal.returns-clause-refusal
returns-clause-refusal g c =
    let bad = c.in-Err-read_object.ensures in
    ap (λ f. Some (refusal_of f.wanted)) c.in_ok-of-in-Err-read_object.ensures
    ∙ ap Some (refused_as (an_object g.O.Object.fields) (tree_data c.in-Ok.value) _ bad.misfit)
    ∙ sym (bad_object _ c.args.body.now (tree_data c.in-Ok.value) c.in-Ok.ensures.ok (sym bad.value))
