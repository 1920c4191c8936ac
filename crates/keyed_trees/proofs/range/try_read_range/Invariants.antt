use Rattle.std.proofs.Common.{◌≡◌, All, ◌++◌, length, map, IsSome, false}
use Rattle.sqlite_trees.specs.View.{IsClean, KeepsSchema, IsQuiet}
use Rattle.sqlite_exec.specs.Calls.{OnlyReads}
use Rattle.keyed_trees.specs.Layout.{key_of}
use Rattle.keyed_trees.specs.Rows.{row_of}
use Rattle.keyed_trees.specs.StoreCalls.{left_in_range, rows_in_range}
use Rattle.keyed_trees.proofs.range.try_read_range.Given as goal

abbrev pub invariant-loop-at : goal.invariant-loop-at
invariant-loop-at g l =
    let old = g.S.Store.view l.fn.store in
    let now = g.S.Store.view l.store in
    record {
      live : IsSome (now.cursors 0);
      reads : IsClean now → OnlyReads old now;
      sound : IsClean now → old.is_broken ≡ false;
      quiet : IsQuiet g.S.Store.view g.S.Store.faults g.S.Store.recovers g.S.Store.is_shielded l.fn.store l.store;
      schema : KeepsSchema old now;
      left : IsClean now → map (row_of g.R.Record.cells) l.read.items ++ left_in_range (key_of l.index) l.range.direction l.range.stop.now now
          ≡ rows_in_range (key_of l.index) l.range.direction l.range.start.now l.range.stop.now old.trees;
      fits : All (λ it. g.R.Record.is_storable it.1) l.read.items;
      count : length l.read.items ≡ l.at;
    }
