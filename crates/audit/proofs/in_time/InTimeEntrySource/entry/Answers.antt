use Rattle.std.proofs.Common.{◌<◌, List, length, sym, subst, ◌∙◌, ap}
use Rattle.rows.specs.TypedRows.{lists_of}
use Rattle.audit.specs.declared.entries.EntryPlace.{EntryPlace}
use Rattle.audit.specs.Held.{AreEntriesIn}
use Rattle.audit.proofs.EntryPlaces.{as_many}
use Rattle.audit.proofs.in_time.InTimeEntrySource.entry.Goals as goal

pub entry_in_time-requires-clause-there : goal.entry_in_time-requires-clause-there
entry_in_time-requires-clause-there c =
    (c.requires.0, subst (λ (ps : List EntryPlace). AreEntriesIn (lists_of c.args.self.now.rows.now) ps c.requires.0) (sym c.deref.ensures.value) c.requires.1)

pub entry_in_time-requires-clause-within : goal.entry_in_time-requires-clause-within
entry_in_time-requires-clause-within c =
    let are = c.requires.1 in
    let long = ap length c.deref.ensures.value ∙ as_many are.0 c.requires.0 c.args.self.now.places.items are.2 in
    subst (λ n. c.args.place < n) (sym long) c.requires.2

pub returns : goal.returns
returns c entries are =
    c.entry_in_time.ensures entries (subst (λ (ps : List EntryPlace). AreEntriesIn (lists_of c.args.self.now.rows.now) ps entries) (sym c.deref.ensures.value) are)
