use Rattle.std.proofs.Common.{inr, inl, refl, sym, subst, arith}
use Rattle.sqlite.specs.Effect.{Database}
use Rattle.sqlite.specs.Files.{file_state, image_of}
use Rattle.sqlite.specs.State.{HasCleanDisk}
use Rattle.openings.proofs.ThereLemmas.{finds_now}
use Rattle.openings.proofs.OpenedLemmas.{opened_on, refused_stay}
use Rattle.openings.proofs.inspecting.open_telling.Goals as goal

-- the database's own opening refused the files, and tells no fault of a ledger
pub returns-in-Err-clause-refused : goal.returns-in-Err-clause-refused
returns-in-Err-clause-refused g c =
    let unopened = c.in-Err.ensures.refused in
    record {
      told = λ clean. inl (unopened.told clean);
      left = record {
        stand = λ is. absurd (cc);
        unopened = λ is. unopened.left;
        of_ledger = λ is. absurd (unopened.fault is);
      };
    }

pub returns-in-Ok-inspect-clause-finds : goal.returns-in-Ok-inspect-clause-finds
returns-in-Ok-inspect-clause-finds g c clean =
    let examines = c.in-Ok-inspect.ensures.examines in
    subst (λ (db : Database). g.I.Inspection.finds c.in-Ok-inspect.found db)
    (sym (examines.looks.kept clean).0.now_is) (examines.finds clean)

pub returns-in-Ok-inspect-clause-opened : goal.returns-in-Ok-inspect-clause-opened
returns-in-Ok-inspect-clause-opened g c =
    let looks = c.in-Ok-inspect.ensures.examines.looks in
    record {
      opened = λ clean.
          let first : HasCleanDisk (file_state c.in-Ok.conn) = omega (arith, looks.follows.survives.clean, clean) in
          opened_on (image_of g.D.Disk c.args.files) (file_state c.in-Ok.conn) (file_state c.inspect.new.conn)
          (c.in-Ok.ensures.opened.opened first) (looks.kept clean);
      honest = λ clean.
          let first : HasCleanDisk (file_state c.in-Ok.conn) = omega (arith, looks.follows.survives.clean, clean) in
          c.in-Ok.ensures.opened.honest first;
    }

-- it was opened, and the files hold what they held
pub returns-in-Err-inspect-clause-refused : goal.returns-in-Err-inspect-clause-refused
returns-in-Err-inspect-clause-refused g c =
    let examines = c.in-Err-inspect.ensures.examines in
    let at = c.in-Ok.ensures.opened in
    record {
      told = λ clean.
          let last = c.shut.ensures.honest clean in
          let first : HasCleanDisk (file_state c.in-Ok.conn) =
          omega (arith, examines.looks.follows.survives.clean, last) in
          inr (finds_now (image_of g.D.Disk c.args.files) (file_state c.in-Ok.conn) (at.opened first)
          (g.I.Inspection.refuses c.in-Err-inspect.fault) (examines.told last));
      left = record {
        stand = λ is.
            refused_stay g.D.Disk c.args.files c.shut.result (file_state c.in-Ok.conn)
            (file_state c.inspect.new.conn) at.opened at.honest examines.looks.follows c.shut.ensures.honest
            c.shut.ensures.left;
        unopened = λ is. absurd (cc);
        of_ledger = λ is. refl;
      };
    }
