-- What accepted entries lead to is valid.
use Rattle.std.proofs.Common.{List, [], ◌∷◌}
use Rattle.records.specs.Machine.{Machine, new_machine}
use Rattle.records.specs.Step.{at_clock}
use Rattle.records.specs.Valid.{IsValid}
use Rattle.running.specs.declared.entry.Entry.{Entry}
use Rattle.running.specs.declared.entry.Entry.TheVariants.{Opened, Moved}
use Rattle.running.specs.Entries.{IsNext, AreNext, clock_for, with_entry, after, machine_of, ReplayedIsValid}

pub valid_entry : (m : Machine) (entry : Entry) → IsValid m → IsNext m entry → IsValid (with_entry m entry)
valid_entry m (Opened a) valid next = IsValid.next_account (at_clock m (clock_for m (Opened a))) a (IsValid.later m (clock_for m (Opened a)) valid next.clock.later next.clock.bounded) next.accepted
valid_entry m (Moved t) valid next = IsValid.next_transfer (at_clock m t.at) t (IsValid.later m t.at valid next.clock.later next.clock.bounded) next.accepted

valid_after : (m : Machine) (entries : List Entry) → IsValid m → AreNext m entries → IsValid (after m entries)
valid_after m [] valid next = valid
valid_after m (entry ∷ entries) valid next = valid_after (with_entry m entry) entries (valid_entry m entry valid next.0) next.1

pub replayed_valid : ReplayedIsValid
replayed_valid entries clock next can = IsValid.later (machine_of entries) clock (valid_after new_machine entries IsValid.new_tenant next) can.later can.bounded
