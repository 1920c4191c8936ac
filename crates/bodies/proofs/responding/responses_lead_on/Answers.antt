use Rattle.plain.specs.BookLedgers.{machines_in}
use Rattle.service.specs.Courses.{Then}
use Rattle.bodies.specs.Response.{event_of}
use Rattle.bodies.proofs.responding.responses_lead_on.Goals as goal

pub returns : goal.returns
returns c first events digest body moment old new reply response course =
    Then events (machines_in old) (event_of digest body moment reply) (machines_in new) course tt
    response.happens
