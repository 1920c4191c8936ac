use Rattle.std.proofs.Common.{arith}
use Rattle.std.proofs.lemmas.Result.{on_ok_weaker}
use Rattle.migrate.proofs.filling.make_version.Goals as goal

pub returns-then-to-lt-CURRENT_VERSION : goal.returns-then-to-lt-CURRENT_VERSION
returns-then-to-lt-CURRENT_VERSION g c = record {
  ok = λ clean.
      on_ok_weaker c.make_balanced.result (λ made. record {
        current = λ three. absurd (let less = c.if-to-lt-CURRENT_VERSION.true in omega (arith, three, less));
        balanced = λ _. made;
      }) (c.make_balanced.ensures.ok clean);
  follows = c.make_balanced.ensures.follows;
}

pub returns : goal.returns
returns g c = record {
  ok = λ clean.
      on_ok_weaker c.make_current.result (λ made. record {
        current = λ _. made;
        balanced = λ less. absurd (let three = c.if-to-lt-CURRENT_VERSION.false in omega (arith, three, less));
      }) (c.make_current.ensures.ok clean);
  follows = c.make_current.ensures.follows;
}
