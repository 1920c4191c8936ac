use Rattle.std.proofs.Common.{w64, rules, arith}
use Rattle.std.proofs.lemmas.Int.{to_z-of_z}
use Rattle.sqlite.specs.State.{HasCleanDisk}
use Rattle.stored_ledgers.specs.Listing.{IsThat, IsMadeOf}
use Rattle.stored_ledgers.proofs.FreeLemmas.{if_ok_or}
use Rattle.stored_ledgers.proofs.ListingLemmas.{is_that}
use Rattle.stored_ledgers.proofs.directory.with_clock.Goals as goal

pub returns : goal.returns
returns g c = record {
  value = λ clean.
      let s0 = g.T.LedgerTables.state c.args.tables.now in
      let before : HasCleanDisk s0 = omega (arith, c.in_ok-clock.ensures.reads.follows.survives.clean, clean) in
      let ledgers = (c.requires.here before).2 in
      if_ok_or (IsMadeOf c.args.row.now c.in_ok-clock.clock) (IsThat s0.now.trees c.args.row.now)
      c.listed.result _ c.ok_or.result c.ok_or.ensures.value c.listed.ensures
      (λ tenant made. is_that s0.now.trees c.args.row.now tenant c.in_ok-clock.clock ledgers.machines
      (c.requires.found before)
      (rw (to_z-of_z w64 c.args.row.now.number (search rules)) at (c.in_ok-clock.ensures.ok clean ledgers.schema)) made);
  looks = search rules;
}
