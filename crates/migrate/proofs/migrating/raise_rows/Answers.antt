use Rattle.std.proofs.Common.{Err, refl, ap, subst, ◌∙◌, arith, rules}
use Rattle.std.proofs.lemmas.Result.{err_from_is_err_and}
use Rattle.sqlite.specs.Effect.{Database}
use Rattle.sqlite.specs.Held.{state}
use Rattle.sqlite.specs.State.{HasCleanDisk}
use Rattle.migrate.specs.Upgrading.{IsRaised, older_schema}
use Rattle.migrate.specs.UpgradingLaws.{still_older}
use Rattle.migrate.proofs.FaultLemmas.{refused_by_upgrade}
use Rattle.migrate.proofs.LedgerLemmas.{no_fault, survives_change, survives_read, then_same, told_disk}
use Rattle.migrate.proofs.migrating.raise_rows.Goals as goal

pub raise-requires : goal.raise-requires
raise-requires g c clean1 =
    let s0 = state g.S.Store c.args.conn.now in
    let s1 = state g.S.Store c.newer_rows.new.conn in
    let e = c.in_ok-newer.ensures in
    let clean0 : HasCleanDisk s0 = omega (arith, e.reads.follows.survives.clean, clean1) in
    let is_open = e.reads.is_open clean1 (λ failed. no_fault failed) in
    still_older (older_schema c.args.version) s0 s1 (c.requires.older clean0) (e.reads.same (clean1, is_open)) is_open

pub returns-clause-audited : goal.returns-clause-audited
returns-clause-audited g c = record {
  no_newer = λ newer. no_fault newer;
  damaged = search rules;
  sound = λ clean2.
      let s1 = state g.S.Store c.newer_rows.new.conn in
      let clean1 : HasCleanDisk s1 = omega (arith, c.in_ok-due.ensures.raises.survives.clean, clean2) in
      c.in_ok-newer.ensures.audited.sound clean1;
}

pub returns-clause-whole : goal.returns-clause-whole
returns-clause-whole g c =
    let s0 = state g.S.Store c.args.conn.now in
    let s1 = state g.S.Store c.newer_rows.new.conn in
    let s2 = state g.S.Store c.raise.new.conn in
    let e = c.in_ok-newer.ensures in
    record {
      raises = record {
        raised = λ clean2.
            let clean1 : HasCleanDisk s1 = omega (arith, c.in_ok-due.ensures.raises.survives.clean, clean2) in
            let same = (e.reads.same (clean1, e.reads.is_open clean1 (λ failed. no_fault failed))).now in
            subst (λ (old : Database). IsRaised c.args.to c.in_ok-due.due old s2.now) same
            (subst (λ n. IsRaised n c.in_ok-due.due s1.now s2.now) e.version (c.in_ok-due.ensures.raises.raised clean2));
        quiet = c.in_ok-due.ensures.raises.quiet;
        survives = survives_change c.in_ok-newer.newer.version c.args.to s0 s1 s2 e.version e.reads.follows
            (λ clean. (e.reads.same (clean, e.reads.is_open clean (λ failed. no_fault failed))).now) c.in_ok-due.ensures.raises.survives;
      };
      same = search rules;
      is_open = λ clean told. c.in_ok-due.ensures.is_open clean (λ failed. no_fault failed);
    }

pub returns-in_err-due-clause-audited : goal.returns-in_err-due-clause-audited
returns-in_err-due-clause-audited g c =
    let p = err_from_is_err_and c.from_residual-in_err-due.result c.from_residual-in_err-due.ensures.1 in
    refused_by_upgrade _ (p.1 ∙ ap Err p.2)

pub returns-in_err-due-clause-whole : goal.returns-in_err-due-clause-whole
returns-in_err-due-clause-whole g c =
    let s0 = state g.S.Store c.args.conn.now in
    let s1 = state g.S.Store c.newer_rows.new.conn in
    let s2 = state g.S.Store c.raise.new.conn in
    let p = err_from_is_err_and c.from_residual-in_err-due.result c.from_residual-in_err-due.ensures.1 in
    let e = c.in_ok-newer.ensures in
    record {
      raises = record {
        raised = search rules;
        quiet = search rules;
        survives = survives_change c.in_ok-newer.newer.version c.args.to s0 s1 s2 e.version e.reads.follows
            (λ clean. (e.reads.same (clean, e.reads.is_open clean (λ failed. no_fault failed))).now) c.in_err-due.ensures.raises.survives;
      };
      same = λ live.
          let clean1 : HasCleanDisk s1 = omega (arith, c.in_err-due.ensures.raises.survives.clean, live.0) in
          rw p.1 (then_same s0 s1 s2 (e.reads.same (clean1, e.reads.is_open clean1 (λ failed. no_fault failed))) (c.in_err-due.ensures.same live));
      is_open = λ clean told. c.in_err-due.ensures.is_open clean (λ failed. told (told_disk _ _ _ refl (p.1 ∙ ap Err p.2) failed));
    }

pub returns-in_err-newer-clause-whole : goal.returns-in_err-newer-clause-whole
returns-in_err-newer-clause-whole g c = record {
  raises = record {
    raised = search rules;
    quiet = search rules;
    survives = survives_read (state g.S.Store c.args.conn.now) (state g.S.Store c.newer_rows.new.conn) _ c.in_err-newer.ensures.reads.follows;
  };
  same = search rules;
  is_open = search rules;
}
