use Rattle.std.proofs.Common.{◌<◌, IsSome, refl, sym, ◌∙◌, subst}
use Rattle.audit.proofs.ShapedRows.{there, as_long}
use Rattle.audit.proofs.cells.value_at.Goals as goal

pub unwrap-requires : goal.unwrap-requires
unwrap-requires g c =
    let r = c.requires in
    let found = there g.C.Cells.cells g.C.Cells.Fits r.0 c.args.rows.now c.args.place c.index-rows-place.result r.1 r.2 c.index-rows-place.is r.3 in
    subst IsSome (sym (c.value.ensures.undoes found.0 found.2 found.3)) refl

pub returns : goal.returns
returns g c values fits same =
    let long = as_long g.C.Cells.cells c.requires.0 c.args.rows.now c.requires.2 in
    let other = as_long g.C.Cells.cells values c.args.rows.now same in
    let within = subst (λ n. c.args.place < n) (sym long ∙ other) c.requires.3 in
    let found = there g.C.Cells.cells g.C.Cells.Fits values c.args.rows.now c.args.place c.index-rows-place.result fits same c.index-rows-place.is within in
    found.1 ∙ sym (c.value.ensures.undoes found.0 found.2 found.3) ∙ c.unwrap.ensures
