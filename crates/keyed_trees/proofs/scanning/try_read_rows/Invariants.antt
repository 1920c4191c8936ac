use Rattle.std.proofs.Common.{◌≡◌, All, ◌++◌, map, IsSome, false}
use Rattle.sqlite_trees.specs.View.{IsClean, KeepsSchema, IsQuiet}
use Rattle.sqlite_exec.specs.Calls.{OnlyReads}
use Rattle.sqlite_exec.specs.Loops.{left_of}
use Rattle.keyed_trees.specs.Rows.{row_of}
use Rattle.keyed_trees.proofs.scanning.try_read_rows.Given as goal

abbrev pub invariant-loop-at : goal.invariant-loop-at
invariant-loop-at g l =
    let old = g.S.Store.view l.fn.store in
    let now = g.S.Store.view l.store in
    record {
      live : IsSome (now.cursors 0);
      reads : IsClean now → OnlyReads old now;
      sound : IsClean now → old.is_broken ≡ false;
      quiet : IsQuiet g.S.Store.view g.S.Store.faults g.S.Store.recovers g.S.Store.is_shielded l.fn.store l.store;
      schema : KeepsSchema old now;
      left : IsClean now → map (row_of g.R.Record.cells) l.read.items ++ left_of now 0 ≡ old.trees g.R.Record.table;
      fits : All (λ it. g.R.Record.is_storable it.1) l.read.items;
    }
