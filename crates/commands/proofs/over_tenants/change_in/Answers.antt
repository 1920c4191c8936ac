use Rattle.std.proofs.Common.{Bool, Ok, subst, sym}
use Rattle.sqlite_wal.specs.Files.{image_at}
use Rattle.commands.specs.Changing.{IsChangedAs, IsOpenedFor}
use Rattle.commands.specs.Holding.{Becomes}
use Rattle.commands.proofs.ChangeLemmas.{made_for}
use Rattle.commands.proofs.UndoneLemmas.{declined_in}
use Rattle.commands.proofs.over_tenants.change_in.Goals as goal

pub returns-clause-made : goal.returns-clause-made
returns-clause-made g c =
    made_for c.args.what c.in_ok-opened.opened.is_new (image_at g.St.Start) c.in_ok-opened.opened.store
    c.args.db.now c.made_if.result c.in_ok-opened.ensures c.made_if.ensures.new c.made_if.ensures.path

pub returns-clause-changed : goal.returns-clause-changed
returns-clause-changed g c =
    subst
    (λ (is_new : Bool). Becomes (IsOpenedFor c.args.what is_new (image_at g.St.Start))
    (λ old new. IsChangedAs c.args.what c.args.tenant.now c.args.digest.now old new (Ok tt)) c.make.new.store)
    (sym c.made_if.ensures.new)
    (record {
      comes = record {
        first = c.in_ok-opened.opened.store;
        begun = c.in_ok-opened.ensures;
        lived = c.in_ok-make.ensures.follows.lived;
        is = c.in_ok-make.ensures.told;
      };
      stays = c.in_ok-make.ensures.open;
    })

pub returns-in_err-make-clause-fault : goal.returns-in_err-make-clause-fault
returns-in_err-make-clause-fault g c =
    declined_in _ (image_at g.St.Start) _ c.in_err-make.field-0.0 c.from_residual-in_err-make.result c.from_residual-in_err-make.ensures.1 (
      c.in_ok-opened.opened.is_new,
      c.make.new.store,
      record {
        first = c.in_ok-opened.opened.store;
        begun = c.in_ok-opened.ensures;
        lived = c.in_err-make.ensures.follows.lived;
        is = c.in_err-make.ensures.told;
      },
    )
