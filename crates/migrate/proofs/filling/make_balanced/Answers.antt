use Rattle.std.proofs.Common.{arith, rules}
use Rattle.std.proofs.lemmas.Result.{on_ok_weaker}
use Rattle.sqlite.specs.Held.{state}
use Rattle.sqlite.specs.State.{HasCleanDisk}
use Rattle.migrate.proofs.FillLemmas.{balanced_made}
use Rattle.migrate.proofs.filling.make_balanced.Goals as goal

pub returns : goal.returns
returns g c = record {
  ok = λ clean.
      let first : HasCleanDisk (state g.S.Store c.args.conn.now) = omega (arith, c.set_balance_version.ensures.follows.survives.clean, clean) in
      on_ok_weaker c.set_balance_version.result (balanced_made _ _ (c.requires first)) (c.set_balance_version.ensures.ok clean);
  follows = search rules;
}
