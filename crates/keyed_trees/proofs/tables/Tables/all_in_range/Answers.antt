use Rattle.std.proofs.Common.{◌<◌, arith, length}
use Rattle.keyed_trees.proofs.RangeLemmas.{reads_all}
use Rattle.keyed_trees.proofs.tables.Tables.all_in_range.Goals as goal

pub returns-clause-read : goal.returns-clause-read
returns-clause-read g c clean =
    let few : length c.in_ok-read.read.items < 18446744073709551615 = omega arith in
    reads_all g.K.Of.Record.cells g.K.Key.shape c.args.range.now.direction c.args.range.now.start.now c.args.range.now.stop.now 18446744073709551615 ((g.S.Store.view c.args.self.now.store).trees g.K.Key.shape.table) c.in_ok-read.read.items few
    (c.in_ok-read.ensures.read clean)
