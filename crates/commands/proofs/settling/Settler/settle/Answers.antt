use Rattle.commands.proofs.settling.Settler.settle.Goals as goal

pub returns : goal.returns
returns g c = record {
  moment = c.moment-moment.result;
  given = c.moment-moment.ensures;
  piece = record {
    by = c.settle_next-settled.ensures.settles;
    searched = c.settle_next-settled.new.search;
    told = c.settle_next-settled.result;
    has = c.settle_next-settled.ensures.has;
    goes_on = c.rest_behind-rest.ensures.search;
    notes = c.rest_behind-rest.ensures.behind;
  };
}
