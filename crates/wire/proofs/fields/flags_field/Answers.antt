use Rattle.std.proofs.Common.{sym, ap, ◌∙◌, ◌+◌}
use Rattle.std.specs.Prelude.{is_none}
use Rattle.wire.specs.declared.wanted.Wanted.TheVariants.{WholeBelow}
use Rattle.wire.specs.Trees.{tree_data}
use Rattle.wire.proofs.Misfits.{number_or}
use Rattle.wire.proofs.fields.flags_field.Goals as goal

pub returns-clause-misfit : goal.returns-clause-misfit
returns-clause-misfit c =
    number_or (tree_data c.args.object.now) _ _ _ _ _ c.ok_or.ensures.value c.of_field.ensures.field
    (c.of_field.ensures.wanted ∙ ap (λ n. WholeBelow (n + 1)) c.from.ensures)
    (λ none. ap is_none (sym c.flags_in.ensures ∙ none))
