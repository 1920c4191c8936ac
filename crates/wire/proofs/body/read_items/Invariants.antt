use Rattle.std.proofs.Common.{◌≡◌, ◌++◌, drop, option_map}
use Rattle.wire.specs.Body.{each_of}
use Rattle.wire.specs.Trees.{items_data}
use Rattle.wire.proofs.body.read_items.Given as goal

-- the list so far and what is meant by the items that are left are what all items mean
abbrev pub invariant-loop-item : goal.invariant-loop-item
invariant-loop-item g l =
    option_map (λ rest. l.list.items ++ rest)
    (each_of g.I.Item.means (items_data (drop l.item-index l.items)))
    ≡ each_of g.I.Item.means (items_data l.items)
