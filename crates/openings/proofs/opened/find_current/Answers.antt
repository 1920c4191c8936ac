use Rattle.std.proofs.Common.{◌≡◌, pos, ap, ◌∙◌, rules, arith}
use Rattle.std.proofs.lemmas.Int.{ints}
use Rattle.openings.proofs.opened.find_current.Goals as goal

pub returns : goal.returns
returns g c =
    let known = c.in_ok-version.ensures.known in
    let is : c.in_ok-version.version ≡ 3 = omega (arith, known.1, c.if-version-lt-CURRENT_VERSION.false) in
    record {
      finds = λ clean.
          let found = c.in_ok-version.ensures.examines.finds clean in
          record { starts = found.starts; version = found.version; is = found.is ∙ ap pos is; named = found.named };
      told = search rules;
      looks = search rules;
    }

pub returns-then-version-lt-CURRENT_VERSION : goal.returns-then-version-lt-CURRENT_VERSION
returns-then-version-lt-CURRENT_VERSION g c = record {
  finds = search rules;
  told = λ clean.
      let found = c.in_ok-version.ensures.examines.finds clean in
      let known = c.in_ok-version.ensures.known in record {
        starts = found.starts;
        version = found.version;
        is = (omega (arith, ints, found.is, known.0), omega (arith, ints, found.is, c.if-version-lt-CURRENT_VERSION.true));
        named = found.named;
      };
  looks = search rules;
}
