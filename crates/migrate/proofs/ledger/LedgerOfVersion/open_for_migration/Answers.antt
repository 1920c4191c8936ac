use Rattle.std.proofs.Common.{refl}
use Rattle.openings.specs.RefusedLaws.{files_stay, leaves_refused}
use Rattle.migrate.specs.UpgradingLaws.{older_between}
use Rattle.migrate.proofs.ledger.LedgerOfVersion.open_for_migration.Goals as goal

pub returns-in-Ok-clause-migratable : goal.returns-in-Ok-clause-migratable
returns-in-Ok-clause-migratable g c =
    let e = c.in-Ok.ensures in
    record {
      known = e.known;
      older = λ less live.
          let at = e.opened.opened live.0 in
          older_between _ _ ((e.finds live.0).ledger.older less) at.ordered at.quiet at.is_open;
      current = λ three live.
          let at = e.opened.opened live.0 in
          let holds = (e.finds live.0).serves three at.sound at.ordered in
          record { quiet = at.quiet; ledgers = holds.0; covered = holds.1 };
      is_open = λ _ clean. (e.opened.opened clean).is_open;
    }

pub returns-in-Ok-clause-opened : goal.returns-in-Ok-clause-opened
returns-in-Ok-clause-opened g c =
    let e = c.in-Ok.ensures in
    record {
      ready = refl;
      known = e.known;
      sound = λ clean. (e.finds clean).ledger;
      opened = e.opened.opened;
    }

pub returns-in-Err-clause-refused : goal.returns-in-Err-clause-refused
returns-in-Err-clause-refused g c =
    let e = c.in-Err.ensures.refused in
    record {
      told = e.told;
      left = leaves_refused g.D.Disk c.args.files c.in-Err.refused c.in-Err.left e.left;
      stay = files_stay g.D.Disk c.args.files c.in-Err.refused c.in-Err.left e.left;
    }
