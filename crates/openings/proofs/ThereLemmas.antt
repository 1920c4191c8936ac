-- What was found in files, while a database that was opened on them is as it was.
use Rattle.std.proofs.Common.{sym, subst, ap, ◌∙◌}
use Rattle.sqlite_trees.specs.Tree.{Trees}
use Rattle.sqlite_wal.specs.Recovery.{Image}
use Rattle.sqlite.specs.Effect.{Database}
use Rattle.sqlite.specs.Files.{AreFoundIn}
use Rattle.sqlite.specs.State.{State}
use Rattle.openings.specs.Found.{FindsOne, IsOpenAt, AreOnlyThere}

module _ (image : Image) (s : State) (at : IsOpenAt image s) where
  -- whatever a crash leaves is what was there
  pub there_left : (db : Trees) → s.may_leave db → AreOnlyThere image db
  there_left db may =
      subst (AreOnlyThere image) (sym (at.settled.only at.opens.is_open db may)) (record {
        reads = at.found.reads;
        holds = at.found.holds;
      })

  -- so is the database as it shows
  pub there_now : AreOnlyThere image s.now.trees
  there_now = record {
    reads = subst (λ (db : Database). AreFoundIn image db.trees) (sym at.opens.clean) at.found.reads;
    holds = λ other held. ap (λ (db : Database). db.trees) at.opens.clean ∙ at.found.holds other held;
  }

  pub finds_now : (P : Database → Type 0) → P s.now → FindsOne P image
  finds_now P is = record {
    db = s.now;
    sound = (at.live at.opens.is_open).0;
    there = there_now;
    is = is;
  }
