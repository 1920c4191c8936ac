use Rattle.std.proofs.Common.{[], List, Option, sym, subst}
use Rattle.records.specs.Machine.{Machine}
use Rattle.chain.specs.Backends.{in_use}
use Rattle.parts.specs.Parts.{IsPart}
use Rattle.store.specs.StoreLaws.{store_meaning}
use Rattle.store.specs.Stores.{IsLive, tenants_of}
use Rattle.commands.proofs.PartLemmas.{part_given, read_ending, read_moves}
use Rattle.commands.proofs.pieces.next_part.Goals as goal

pub returns-clause-told : goal.returns-clause-told
returns-clause-told g c =
    let digest = c.args.rest.now.digest in
    part_given (IsLive c.part-read.new.ledgers) c.args.rest.now (tenants_of c.args.store.now digest)
    (tenants_of c.part-read.new.ledgers digest) c.part-read.result c.ok.result c.ok.ensures.value
    (λ live. c.part-read.ensures.reads.same (live, c.is_settled.ensures.usable) digest)
    (λ live. c.part-read.ensures.told (live, c.is_settled.ensures.usable))

pub returns-clause-tried : goal.returns-clause-tried
returns-clause-tried g c = (
  read_ending c.part-read.result,
  read_moves (in_use (store_meaning {D = g.row.D.Denot} {g = g.D.Disk})) c.args.rest.now.digest c.args.rest.now.account
      c.args.store.now c.part-read.new.ledgers c.part-read.result c.part-read.ensures.reads c.part-read.ensures.finds
      c.is_settled.ensures.settled
      (λ live. (
        c.part-read.ensures.reads.follows.0.follows.lived live.0,
        c.part-read.ensures.reads.follows.1 live.1,
      )),
)
