-- Tables that were made and filled one after the other.
use Rattle.std.proofs.Common.{◌∙◌}
use Rattle.sqlite_trees.specs.Tree.{Trees}
use Rattle.migrate.specs.Filling.{KeepsEntries}

-- what was kept twice is kept
pub entries_then : (a b c : Trees) → KeepsEntries a b → KeepsEntries b c → KeepsEntries a c
entries_then a b c f g = record {
  directory = g.directory ∙ f.directory;
  clocks = g.clocks ∙ f.clocks;
  accounts = g.accounts ∙ f.accounts;
  transfers = g.transfers ∙ f.transfers;
}
