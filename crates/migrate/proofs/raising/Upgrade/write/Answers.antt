use Rattle.std.proofs.Common.{sym, subst, arith, rules}
use Rattle.sqlite.specs.Held.{state}
use Rattle.sqlite.specs.State.{HasCleanDisk}
use Rattle.migrate.specs.Upgrading.{IsRaised}
use Rattle.migrate.proofs.UpgradeLemmas.{survives_raise}
use Rattle.migrate.proofs.raising.Upgrade.write.Goals as goal

pub returns-in_err-commit : goal.returns-in_err-commit
returns-in_err-commit g c = record {
  raises = record {
    raised = search rules;
    quiet = search rules;
    survives = survives_raise c.in_ok-due.ensures c.in_err-commit.ensures.survives;
  };
  is_open = search rules;
  committed = search rules;
  unmarked = search rules;
}

pub returns : goal.returns
returns g c = record {
  raises = record {
    raised = λ clean.
        let s4 = state g.S.Store c.prepare.new.conn in
        let before : HasCleanDisk s4 = omega (arith, c.in_ok-commit.ensures.survives.clean, clean) in
        subst (IsRaised c.args.self.now.rows.now.version c.in_ok-due.due (state g.S.Store c.args.conn.now).now)
        (sym (c.in_ok-commit.ensures.ok clean).now) (c.in_ok-due.ensures.prepared before).raised;
    quiet = search rules;
    survives = survives_raise c.in_ok-due.ensures c.in_ok-commit.ensures.survives;
  };
  is_open = search rules;
  committed = search rules;
  unmarked = search rules;
}
