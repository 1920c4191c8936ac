use Rattle.std.proofs.lemmas.Bool.{both_ways}
use Rattle.audit.specs.Order.{IsBadRow}
use Rattle.audit.specs.Table.{IsOwnTime}
use Rattle.audit.proofs.FirstPlaces.{bad_at, good_at, none_past, one_more}
use Rattle.audit.proofs.times.first_shared.Goals as goal

pub returns-then-not-is_own : goal.returns-then-not-is_own
returns-then-not-is_own c =
    let own = c.is_own.ensures c.args.among.now c.in_ok-counts.ensures in (
      bad_at (IsOwnTime c.args.among.now) c.args.times.now c.loop-place.place 0 c.loop-place-test.true (λ is. both_ways c.is_own.result c.if-not-is_own.true (own.1 is)),
      c.loop-place.invariant,
    )

pub loop-place-preserved : goal.loop-place-preserved
loop-place-preserved c =
    let own = c.is_own.ensures c.args.among.now c.in_ok-counts.ensures in
    one_more (IsBadRow (IsOwnTime c.args.among.now) c.args.times.now) c.loop-place.place c.loop-place.invariant
    (good_at (IsOwnTime c.args.among.now) c.args.times.now c.loop-place.place 0 c.loop-place-test.true (own.0 c.if-not-is_own.false))

pub returns : goal.returns
returns c = none_past (IsOwnTime c.args.among.now) c.args.times.now c.loop-place.place c.loop-place-test.false c.loop-place.invariant
