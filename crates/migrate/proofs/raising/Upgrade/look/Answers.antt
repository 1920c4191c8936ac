use Rattle.std.proofs.Common.{rules, arith}
use Rattle.migrate.proofs.raising.Upgrade.look.Goals as goal

pub returns-then-self-lt-CURRENT_VERSION : goal.returns-then-self-lt-CURRENT_VERSION
returns-then-self-lt-CURRENT_VERSION g c = record {
  value = λ clean. record {
    current = λ three. absurd (let less = c.if-self-lt-CURRENT_VERSION.true in omega (arith, three, less));
    older = λ _. let found = c.in_ok-examine_older.ensures.finds clean in (found.names, found.sound);
  };
  looks = search rules;
}

pub returns : goal.returns
returns g c = record {
  value = λ clean. record {
    current = λ _. (c.in_ok-due.ensures.finds clean).0;
    older = λ less. absurd (let three = c.if-self-lt-CURRENT_VERSION.false in omega (arith, three, less));
  };
  looks = search rules;
}
