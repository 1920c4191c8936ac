use Rattle.std.proofs.Common.{refl}
use Rattle.records.specs.Valid.{with_transfer}
use Rattle.stored_tables.specs.BatchLaws.{live_before}
use Rattle.stored_tables.proofs.Covering.{grown}
use Rattle.stored_tables.proofs.batch.BatchTables.accept_transfer.Goals as goal

pub returns : goal.returns
returns g c =
    let before = live_before (g.T.LedgerTables.state c.args.self.now.tables.now) (g.T.LedgerTables.state c.accept_transfer.new.tables) c.accept_transfer.ensures.leaves.follows.calls in
    record {
      state = c.accept_transfer.ensures.leaves.state;
      usable = grown c.accept_transfer.result _ _ _ _ _ _ _ (λ m. with_transfer m c.args.accepted.now.stored) (λ m. refl) c.accept_transfer.ensures.leaves.usable c.accept_transfer.ensures.leaves.state c.accept_transfer.ensures.covers c.accept_transfer.ensures.grows (λ live. c.requires.usable.1 (before live));
      undone = c.accept_transfer.ensures.leaves.undone;
      follows = (refl, refl, refl, c.accept_transfer.ensures.grows, c.accept_transfer.ensures.leaves.follows, refl);
    }
