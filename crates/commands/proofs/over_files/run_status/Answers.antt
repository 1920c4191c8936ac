use Rattle.std.proofs.Common.{List, ℕ, refl, subst}
use Rattle.control.specs.Answers.{body_of}
use Rattle.control.specs.Counting.{IsCounted}
use Rattle.control.specs.declared.counting.CountForm.{CountForm}
use Rattle.commands.proofs.over_files.run_status.Goals as goal

pub returns : goal.returns
returns g c =
    let counted = c.in_ok-put_counted.ensures.counted in
    record {
      told = (
        counted.0,
        (
          _,
          refl,
          c.in_ok-answer.ensures.answer,
          subst (λ (form : CountForm). IsCounted form (body_of c.in_ok-answer.answer) counted.0)
              c.count_form.ensures
              (subst (λ (body : List ℕ). IsCounted c.count_form.result body counted.0) c.body.ensures
              counted.1),
        ),
        counted.2,
      );
      calm = (refl, refl);
      brief = refl;
      fault = tt;
    }
