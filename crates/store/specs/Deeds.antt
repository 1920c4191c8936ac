-- Which events of a course the changes of a store are.
use Rattle.std.specs.Prelude.{ℕ, List, Result, Ok, Err}
use Rattle.service.specs.Deeds.{Keyed}
use Rattle.service.specs.Courses.{Ending, Done, Declined, Unavailable, Tried}
use Rattle.service.specs.Openings.{RunMeaning, Moves}
use Rattle.stored_ledgers.specs.declared.joining.AddTenant.{AddTenant}
use Rattle.stored_ledgers.specs.declared.joining.AddTenant.TheVariants as add
use Rattle.stored_ledgers.specs.declared.keying.ChangeKey.{ChangeKey}
use Rattle.stored_ledgers.specs.declared.keying.ChangeKey.TheVariants as key

-- how the adding of a tenant ended
abbrev pub ending_of : Result (Unit {0}) AddTenant → Ending
ending_of (Ok done) = Done
ending_of (Err (add.Unavailable why)) = Unavailable
ending_of (Err why) = Declined

-- how the change of a tenant's key ended
abbrev pub key_ending : Result (Unit {0}) ChangeKey → Ending
key_ending (Ok done) = Done
key_ending (Err (key.Unavailable why)) = Unavailable
key_ending (Err why) = Declined

-- it was tried that whoever had some digest is known by this one
abbrev pub IsKeyTried :
    {S : Type 0} → RunMeaning S → S → List ℕ → Result (Unit {0}) ChangeKey → S → Type 0
IsKeyTried t old digest result new =
    (was : List ℕ) × Moves t old (Tried (Keyed was digest) (key_ending result)) new
