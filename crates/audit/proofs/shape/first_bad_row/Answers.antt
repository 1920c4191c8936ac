use Rattle.std.proofs.Common.{take, get_or, sym, subst}
use Rattle.std.specs.List.{All}
use Rattle.std.proofs.lemmas.List.{take_more, take_all}
use Rattle.std.proofs.lemmas.List.Elements.{All-push}
use Rattle.audit.specs.Order.{IsBadRow}
use Rattle.audit.proofs.FirstPlaces.{good_at, none_past, one_more}
use Rattle.audit.proofs.shape.first_bad_row.Goals as goal

pub loop-place-preserved : goal.loop-place-preserved
loop-place-preserved g c =
    let rows = c.args.rows.now in
    let place = c.loop-place.place in
    let row = c.index-rows-place.result in
    let within = c.loop-place-test.true in
    let here = subst g.C.Cells.IsShaped c.index-rows-place.is (c.is_shaped.ensures.0 c.if-not-is_shaped.false) in (
      one_more (IsBadRow g.C.Cells.IsShaped rows) place c.loop-place.invariant.0 (good_at g.C.Cells.IsShaped rows place row within here),
      subst (All g.C.Cells.IsShaped) (sym (take_more rows place row within)) (All-push g.C.Cells.IsShaped (take place rows) (get_or rows place row) c.loop-place.invariant.1 here),
    )

pub returns-clause-first : goal.returns-clause-first
returns-clause-first g c = none_past g.C.Cells.IsShaped c.args.rows.now c.loop-place.place c.loop-place-test.false c.loop-place.invariant.0

pub returns-clause-shaped : goal.returns-clause-shaped
returns-clause-shaped g c = subst (All g.C.Cells.IsShaped) (take_all c.loop-place.place c.args.rows.now c.loop-place-test.false) c.loop-place.invariant.1
