use Rattle.std.proofs.Common.{arith, rules}
use Rattle.std.proofs.lemmas.Result.{on_ok_weaker}
use Rattle.sqlite.specs.Held.{state}
use Rattle.sqlite.specs.State.{HasCleanDisk}
use Rattle.migrate.proofs.FillLemmas.{derived_made}
use Rattle.migrate.proofs.filling.make_derived.Goals as goal

pub fill_all-requires : goal.fill_all-requires
fill_all-requires g c clean =
    let made = c.in_ok-make_balance_tables.ensures.ok clean in
    record { making = record { schema_is = made.schema; mode = made.shown.mode }; is_open = made.shown.is_open }

pub returns : goal.returns
returns g c = record {
  ok = λ clean.
      let mid : HasCleanDisk (state g.S.Store c.make_balance_tables.new.conn) = omega (arith, c.fill_all.ensures.follows.survives.clean, clean) in
      on_ok_weaker c.fill_all.result (derived_made _ _ _ (c.in_ok-make_balance_tables.ensures.ok mid)) (c.fill_all.ensures.ok clean);
  follows = search rules;
}
