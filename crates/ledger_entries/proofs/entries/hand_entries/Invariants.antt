use Rattle.std.proofs.Common.{◌≡◌}
use Rattle.amount.specs.Column.{column_of}
use Rattle.keyed_trees.specs.Kept.{state}
use Rattle.ledger_sql.specs.Schema.{ledger_schema}
use Rattle.ledger_entries.proofs.LoopLemmas.{IsWalking}
use Rattle.ledger_entries.proofs.entries.hand_entries.Given as goal

abbrev pub invariant-pieces : goal.invariant-pieces
invariant-pieces g l =
    record {
      tenant : l.wanted.tenant ≡ l.walk.account.tenant;
      way : l.unread.direction ≡ l.walk.direction;
      walking : IsWalking g.K.EntrySink.takes g.K.EntrySink.is_full (state ledger_schema g.S.Store l.fn.tables) l.walk.account.tenant (column_of l.walk.account.id) l.walk.time l.walk.direction l.fn.count l.fn.sink
          (state ledger_schema g.S.Store l.tables) l.unread l.wanted.left l.sink;
    }
