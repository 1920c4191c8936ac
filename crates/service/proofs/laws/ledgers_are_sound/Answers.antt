use Rattle.service.proofs.laws.ledgers_are_sound.Goals as goal

pub returns : goal.returns
returns g c ledgers live digest m held =
    let valid = g.met.L.Ledgers.valid ledgers live digest m held in
    record {
      sums = c.sums_fit.ensures m valid;
      books = c.books_balance.ensures m valid;
      limits = c.limits_hold.ensures m valid;
      endings = c.ends_once.ensures m valid;
      failed_ids = c.failed_ids_hold.ensures m valid;
    }
