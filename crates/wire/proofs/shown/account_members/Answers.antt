use Rattle.std.proofs.Common.{refl}
use Rattle.wire.proofs.shown.account_members.Goals as goal

pub returns : goal.returns
returns c =
    rw (
      c.whole.ensures,
      c.u128.ensures,
      c.u128-2.ensures,
      c.u128-3.ensures,
      c.u128-4.ensures,
      c.whole-2.ensures,
      c.u128-5.ensures,
      c.whole-3.ensures,
      c.u64.ensures,
      c.u128-6.ensures,
      c.whole-4.ensures,
      c.u64-2.ensures,
      c.value.ensures.value,
      c.value-2.ensures.value,
      c.value-3.ensures.value,
      c.value-4.ensures.value,
      c.from.ensures,
      c.from-2.ensures,
    )
    refl
