use Rattle.std.proofs.Common.{◌≡◌, ◌++◌, ◌∷◌, List}
use Rattle.control.specs.declared.entries.Entries.{Entries}
use Rattle.records.specs.Streams.{TakesRows}
use Rattle.admin_client.specs.Served.{ComeBehind, IsPieceAnswered, entries_of, last_time, up_to}
use Rattle.admin_client.proofs.served_statements.hand_over.Given as goal

-- the entries of the first piece and of some behind it are taken, and what is written to is as well
-- as it was; what comes behind the last of them comes behind the first with these between
abbrev pub invariant-pieces : goal.invariant-pieces
invariant-pieces g l = record {
  so_far : List Entries;
  latest : Entries;
  last : l.last ≡ last_time latest.entries.items;
  taken : TakesRows g.S.EntrySink.takes l.fn.sink (entries_of (l.fn.first.entries ∷ so_far)) l.sink;
  failed : g.S.EntrySink.failed l.sink ≡ g.S.EntrySink.failed l.fn.sink;
  behind : (pieces : List Entries) → ComeBehind IsPieceAnswered l.asked latest pieces
      → ComeBehind IsPieceAnswered (up_to l.fn.first.entries.clock l.fn.first.asked) l.fn.first.entries
      (so_far ++ pieces);
}
