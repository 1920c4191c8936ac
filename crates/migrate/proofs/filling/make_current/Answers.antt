use Rattle.std.proofs.Common.{arith, rules}
use Rattle.std.proofs.lemmas.Result.{on_ok_weaker}
use Rattle.sqlite.specs.Held.{state}
use Rattle.sqlite.specs.State.{HasCleanDisk}
use Rattle.migrate.proofs.FillLemmas.{current_made}
use Rattle.migrate.proofs.filling.make_current.Goals as goal

pub returns : goal.returns
returns g c = record {
  ok = λ clean.
      let mid : HasCleanDisk (state g.S.Store c.make_failed.new.conn) = omega (arith, c.set_version.ensures.follows.survives.clean, clean) in
      let first : HasCleanDisk (state g.S.Store c.args.conn.now) = omega (arith, c.in_ok-make_failed.ensures.follows.survives.clean, mid) in
      on_ok_weaker c.set_version.result (current_made _ _ _ (c.requires first) (c.in_ok-make_failed.ensures.ok mid)) (c.set_version.ensures.ok clean);
  follows = search rules;
}
