use Rattle.std.proofs.Common.{rules, ◌≡◌, Some}
use Rattle.polling.specs.Seating.{seats_in}
use Rattle.polling.proofs.gathering.Gathered.place.Goals as goal

pub returns-in-PutOff-clause-placed : goal.returns-in-PutOff-clause-placed
returns-in-PutOff-clause-placed g c =
    let seated : seats_in c.args.clients.now c.args.number ≡ Some c.in-Some.client.now =
    search rules in
    (c.in-Some.client.now, seated, c.in-PutOff.ensures.kind)
