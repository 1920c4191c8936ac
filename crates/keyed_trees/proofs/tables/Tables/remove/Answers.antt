use Rattle.std.proofs.Common.{Contains, subst, sym}
use Rattle.keyed_trees.proofs.tables.Tables.remove.Goals as goal

pub remove_inside-requires-clause-listed : goal.remove_inside-requires-clause-listed
remove_inside-requires-clause-listed g c = subst (Contains g.L.Layout.tables) (sym c.table.ensures) g.met.R.Record.listed
