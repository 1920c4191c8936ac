use Rattle.std.proofs.Common.{◌≡◌, take}
use Rattle.records.specs.Streams.{TakesRows}
use Rattle.admin_client.specs.Served.{last_time}
use Rattle.admin_client.proofs.served_statements.hand_entries.Given as goal

-- the entries so far are taken, the time is that of the last, and what is written to is as well as it
-- was
abbrev pub invariant-loop-entry : goal.invariant-loop-entry
invariant-loop-entry g l = record {
  taken : TakesRows g.S.EntrySink.takes l.fn.sink (take l.entry-index l.entries) l.sink;
  last : l.last ≡ last_time (take l.entry-index l.entries);
  failed : g.S.EntrySink.failed l.sink ≡ g.S.EntrySink.failed l.fn.sink;
}
