use Rattle.std.proofs.Common.{◌≡◌, ◌≤◌, length, IsSomeAnd, slice_get, sym, subst, arith}
use Rattle.std.proofs.lemmas.Bool.{both_ways}
use Rattle.audit.proofs.FirstPlaces.{one_more}
use Rattle.audit.proofs.ShapedRows.{as_long, none_same}
use Rattle.audit.proofs.cells.first_same.Goals as goal

pub returns-then-is_same : goal.returns-then-is_same
returns-then-is_same g c values fits same = (
  subst (λ o. IsSomeAnd o (λ value. value ≡ c.args.wanted.now)) (sym (c.value_at.ensures values fits same)) (c.is_same.ensures.0 c.if-is_same.true),
  c.loop-place.invariant values fits same,
)

pub loop-place-preserved : goal.loop-place-preserved
loop-place-preserved g c values fits same =
    one_more (λ place. IsSomeAnd (slice_get values place) (λ value. value ≡ c.args.wanted.now)) c.loop-place.place (c.loop-place.invariant values fits same)
    (λ has. both_ways c.is_same.result c.if-is_same.false (c.is_same.ensures.1 (subst (λ o. IsSomeAnd o (λ value. value ≡ c.args.wanted.now)) (c.value_at.ensures values fits same) has)))

pub returns : goal.returns
returns g c values fits same =
    let past = c.loop-place-test.false in
    let all : length values ≤ c.loop-place.place = omega (arith, past, as_long g.C.Cells.cells values c.args.rows.now same) in
    none_same c.args.wanted.now values c.loop-place.place all (c.loop-place.invariant values fits same)
