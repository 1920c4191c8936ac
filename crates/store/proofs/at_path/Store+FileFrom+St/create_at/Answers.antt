use Rattle.std.proofs.Common.{subst}
use Rattle.openings.specs.Found.{FindsNoSchema}
use Rattle.store.proofs.at_path.Store+FileFrom+St.create_at.Goals as goal

pub returns-in-Ok-create-clause-blank : goal.returns-in-Ok-create-clause-blank
returns-in-Ok-create-clause-blank g c honest =
    subst FindsNoSchema c.in-Ok.ensures.held.holds (c.in-Ok-create.ensures.blank honest)

pub returns-in-Err-create-clause-refused : goal.returns-in-Err-create-clause-refused
returns-in-Err-create-clause-refused g c =
    (c.in-Ok.files, c.in-Ok.ensures.held, c.in-Err-create.ensures.refused)
