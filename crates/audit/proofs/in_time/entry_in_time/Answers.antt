use Rattle.std.proofs.Common.{sym, ◌∙◌}
use Rattle.std.proofs.lemmas.Option.{slice_get-get_or}
use Rattle.audit.proofs.EntryPlaces.{at_place, some_at}
use Rattle.audit.proofs.in_time.entry_in_time.Goals as goal

pub entry_in-requires : goal.entry_in-requires
entry_in-requires c =
    let are = c.requires.there.1 in
    (are.0, are.1, some_at are.0 c.requires.there.0 c.args.places.now c.args.place _ are.2 (slice_get-get_or c.args.places.now c.args.place _ c.requires.within))

pub returns : goal.returns
returns c entries are =
    let here = slice_get-get_or c.args.places.now c.args.place _ c.requires.within in
    sym (at_place are.0 entries c.args.places.now c.args.place _ are.2 here) ∙ c.entry_in.ensures are.0 are.1 (some_at are.0 entries c.args.places.now c.args.place _ are.2 here)
