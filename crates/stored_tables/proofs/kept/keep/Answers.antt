use Rattle.std.proofs.Common.{refl, sym, ap, ◌∙◌, length}
use Rattle.std.specs.Prelude.{slice_set}
use Rattle.std.proofs.lemmas.List.{length-set}
use Rattle.stored_tables.specs.Kept.{kept_in}
use Rattle.stored_tables.proofs.KeptRows.{pushed, replaced, refilled}
use Rattle.stored_tables.proofs.kept.keep.Goals as goal

pub returns-in-Some-clause-keeps : goal.returns-in-Some-clause-keeps
returns-in-Some-clause-keeps c other =
    let items = c.args.kept.now.items in
    let row = c.args.row in
    let shown = c.as_mut_slice.ensures.value in
    let written = slice_set c.as_mut_slice.result.now c.in-Some.at row in
    ap (λ xs. kept_in xs other) (refilled (length items) items written refl (length-set c.as_mut_slice.result.now c.in-Some.at row ∙ ap length shown))
    ∙ ap (λ xs. kept_in (slice_set xs c.in-Some.at row) other) shown
    ∙ replaced items c.in-Some.at row (sym c.place.ensures ∙ c.in-Some.is) other

pub returns-in-None-clause-keeps : goal.returns-in-None-clause-keeps
returns-in-None-clause-keeps c other = ap (λ xs. kept_in xs other) c.push.ensures.items ∙ pushed c.args.kept.now.items c.args.row (sym c.place.ensures ∙ c.in-None.is) other
