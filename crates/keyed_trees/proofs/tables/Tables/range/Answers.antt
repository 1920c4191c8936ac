use Rattle.std.proofs.Common.{Contains, subst, sym}
use Rattle.keyed_trees.proofs.tables.Tables.range.Goals as goal

pub range_of-requires : goal.range_of-requires
range_of-requires g c = subst (Contains g.L.Layout.keys) (sym c.index.ensures) g.met.K.Key.listed
