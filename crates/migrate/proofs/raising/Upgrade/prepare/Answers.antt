use Rattle.std.proofs.Common.{arith, rules}
use Rattle.sqlite.specs.Held.{state}
use Rattle.sqlite.specs.State.{HasCleanDisk}
use Rattle.migrate.proofs.UpgradeLemmas.{prepared_now}
use Rattle.migrate.proofs.raising.Upgrade.prepare.Goals as goal

pub returns : goal.returns
returns g c = record {
  prepared = λ clean3.
      let s0 = state g.S.Store c.args.conn.now in
      let s1 = state g.S.Store c.begin_balanced.new.conn in
      let s2 = state g.S.Store c.make_version.new.conn in
      let s3 = state g.S.Store c.look.new.conn in
      let clean2 : HasCleanDisk s2 = omega (arith, c.in_ok-due.ensures.looks.follows.survives.clean, clean3) in
      let clean1 : HasCleanDisk s1 = omega (arith, c.in_ok-make_version.ensures.follows.survives.clean, clean2) in
      prepared_now c.args.self.now.rows.now.version c.in_ok-due.due s0 s1 s2 s3 (c.in_ok-begin_balanced.ensures.ok clean1)
      (c.in_ok-make_version.ensures.ok clean2) (c.in_ok-due.ensures.value clean3) (c.in_ok-due.ensures.looks.kept clean3).0.now_is;
  follows = search rules;
}
