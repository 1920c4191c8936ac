use Rattle.std.proofs.Common.{arith, rules}
use Rattle.std.proofs.lemmas.Result.{on_ok_weaker}
use Rattle.sqlite.specs.Held.{state}
use Rattle.sqlite.specs.State.{HasCleanDisk}
use Rattle.ledger_sql.proofs.EmptyLedger.{makes_ledger}
use Rattle.ledger_sql.proofs.creating.make_tables.Goals as goal

pub returns : goal.returns
returns g c = record {
  ok = λ clean.
      let four : HasCleanDisk (state g.S.Store c.make_failed.new.conn) = omega (arith, c.add_version.ensures.follows.survives.clean, clean) in
      let three : HasCleanDisk (state g.S.Store c.make_balance_tables.new.conn) = omega (arith, c.make_failed.ensures.follows.survives.clean, four) in
      let two : HasCleanDisk (state g.S.Store c.make_list_tables.new.conn) = omega (arith, c.make_balance_tables.ensures.follows.survives.clean, three) in
      on_ok_weaker _ (makes_ledger _ _ _ _ _ (c.in_ok-make_list_tables.ensures.ok two) (c.in_ok-make_balance_tables.ensures.ok three) (c.in_ok-make_failed.ensures.ok four)) (c.add_version.ensures.ok clean);
  follows = search rules;
}
