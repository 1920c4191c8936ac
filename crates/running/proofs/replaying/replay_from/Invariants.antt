use Rattle.std.proofs.Common.{List, take}
use Rattle.records.specs.Machine.{new_machine}
use Rattle.running.specs.declared.entry.Entry.{Entry}
use Rattle.running.specs.Entries.{machine_of}
use Rattle.running.specs.History.{IsToldMore}
use Rattle.running.proofs.AppliedEntry.{AreReplayed}
use Rattle.running.proofs.replaying.replay_from.Given as goal

abbrev pub invariant-loop-place : goal.invariant-loop-place
invariant-loop-place g l = (es : List Entry) → g.S.EntrySource.has l.source es → AreReplayed es l.place l.running × IsToldMore g.H.HistoryTaker.told l.initial.history l.history new_machine (machine_of (take l.place es))
