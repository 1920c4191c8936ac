use Rattle.std.proofs.Common.{◌++◌, map, length, drop, sym, subst}
use Rattle.running.specs.declared.entry.Entry.TheVariants.{Opened, Moved}
use Rattle.audit.specs.Held.{ArePlacesOf}
use Rattle.audit.specs.Told.{entries_told}
use Rattle.audit.proofs.DerivedRows.{whole}
use Rattle.audit.proofs.EntryPlaces.{in_time, stored_places}
use Rattle.audit.proofs.entries.places.Goals as goal

pub returns : goal.returns
returns c typed holds good =
    let old = c.deref_mut.result.now in
    let new = c.sort.new.places in
    let stored = map Opened typed.accounts ++ map Moved typed.transfers in
    let are = subst (ArePlacesOf typed stored) (sym c.deref_mut.ensures.value) (stored_places typed c.args.told.now c.in_ok-places.places.items holds c.in_ok-places.ensures) in
    let all = whole old new (drop (length new) c.in_ok-places.places.items) c.in_ok-places.places.len c.sort.ensures.same c.deref_mut.ensures.len in
    subst (ArePlacesOf typed (entries_told typed)) (sym all) (in_time c.read_in_order.ensures.ascending typed old new good are c.sort.ensures.same c.sort.ensures.sorted)
