use Rattle.std.proofs.Common.{List, ℕ, arith, refl, rules, subst}
use Rattle.sqlite_wal.specs.Files.{image_at}
use Rattle.commands.specs.Holding.{HasOpened, HasToldOr}
use Rattle.commands.specs.OverFiles.{HasWrittenStatement, IsWrittenFrom}
use Rattle.admin_client.specs.Served.{IsStatementServed}
use Rattle.commands.proofs.UndoneLemmas.{not_written}
use Rattle.commands.proofs.over_files.run_statement.Goals as goal

pub returns : goal.returns
returns g c = record {
  name_first = λ none. absurd (none (c.in_ok-tenant.ensures.good.0 refl));
  account_next = λ named none.
      absurd (none (c.in_ok-account.account, first_of (search rules, omega arith), c.in_ok-account.ensures.ok));
  period_next = λ named there none.
      absurd (none c.in_ok-asked.asked.period c.in_ok-asked.ensures.ok.period);
  form_last = λ period named there means none.
      absurd (let e = c.in_ok-asked.ensures.ok.form in cc);
  statement = record {
    id = c.in_ok-account.account;
    is = c.in_ok-account.ensures.ok;
    asked = c.in_ok-asked.asked;
    means = c.in_ok-asked.ensures.ok;
    told =
        subst
        (λ (name : List ℕ). HasToldOr
        (IsStatementServed name c.in_ok-account.account c.in_ok-asked.asked (g.O.Drain.written c.args.out)
        (g.O.Drain.written c.in_ok-out.out))
        (HasOpened (HasWrittenStatement (image_at g.St.Start)
        (IsWrittenFrom g.O.Drain.written name c.in_ok-account.account c.in_ok-asked.asked c.args.out
        c.in_ok-out.out)))
        c.in_ok-out.held)
        c.in_ok-tenant.ensures.same c.in_ok-out.ensures.written;
  };
  calm = (refl, refl);
  brief = refl;
  fault = tt;
}

pub returns-in_err-out : goal.returns-in_err-out
returns-in_err-out g c =
    not_written _ g.O.Drain.written (image_at g.St.Start) c.args.tenant.now c.in_ok-tenant.tenant
    c.args.account.now c.args.words.now c.args.out c.from_residual-in_err-out.result
    c.in_err-out.field-0.0 c.in_ok-account.account c.in_ok-asked.asked
    c.from_residual-in_err-out.ensures.1 (c.in_ok-tenant.ensures.good.0 refl)
    c.in_ok-tenant.ensures.same
    (c.in_ok-account.account, first_of (search rules, omega arith), c.in_ok-account.ensures.ok)
    c.in_ok-account.ensures.ok c.in_ok-asked.ensures.ok c.in_err-out.ensures.fault
