-- How a deed ended that an operator asked for, by what is told of it.
use Rattle.std.specs.Prelude.{Result, Ok, Err}
use Rattle.service.specs.Courses.{Ending, Done, Declined}
use Rattle.service.specs.Courses.{Unavailable as WasUnavailable}
use Rattle.command_texts.specs.declared.fault.Fault.{Fault}
use Rattle.command_texts.specs.declared.fault.Fault.TheVariants.{Unavailable}

abbrev pub ending_told : {T : Type 0} → Result T Fault → Ending
ending_told (Ok done) = Done
ending_told (Err Unavailable) = WasUnavailable
ending_told (Err fault) = Declined
