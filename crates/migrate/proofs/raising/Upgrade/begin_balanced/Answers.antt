use Rattle.std.proofs.Common.{subst, ◌∙◌, arith, rules}
use Rattle.sqlite_schema.specs.declared.schema.Schema.{Schema}
use Rattle.sqlite.specs.Held.{state}
use Rattle.sqlite.specs.State.{HasCleanDisk}
use Rattle.ledger_sql.specs.Schema.{list_schema}
use Rattle.migrate.specs.Upgrading.{IsOlder}
use Rattle.migrate.proofs.OlderLemmas.{older_balances, older_lists}
use Rattle.migrate.proofs.UpgradeLemmas.{begun_altering, had_balances, made_balances}
use Rattle.migrate.proofs.raising.Upgrade.begin_balanced.Goals as goal

pub make_derived-requires : goal.make_derived-requires
make_derived-requires g c clean1 =
    let s0 = state g.S.Store c.args.conn.now in
    let clean0 : HasCleanDisk s0 = omega (arith, c.in_ok-begin.ensures.follows.survives.clean, clean1) in
    let is = older_lists c.args.self.now.version c.if-self-eq1.true in
    begun_altering list_schema s0 (state g.S.Store c.begin.new.conn) (c.in_ok-begin.ensures.ok clean1) ((c.requires clean0).rests.schema_is ∙ is)

pub returns-then-self-eq1 : goal.returns-then-self-eq1
returns-then-self-eq1 g c = record {
  ok = λ clean2.
      let s0 = state g.S.Store c.args.conn.now in
      let s1 = state g.S.Store c.begin.new.conn in
      let s2 = state g.S.Store c.make_derived.new.conn in
      let clean1 : HasCleanDisk s1 = omega (arith, c.in_ok-make_derived.ensures.follows.survives.clean, clean2) in
      let clean0 : HasCleanDisk s0 = omega (arith, c.in_ok-begin.ensures.follows.survives.clean, clean1) in
      let is = older_lists c.args.self.now.version c.if-self-eq1.true in
      made_balances s0 s1 s2 (subst (λ (schema : Schema). IsOlder schema s0) is (c.requires clean0))
      (c.in_ok-begin.ensures.ok clean1).now (c.in_ok-make_derived.ensures.ok clean2);
  follows = search rules;
}

pub returns : goal.returns
returns g c = record {
  ok = λ clean1.
      let s0 = state g.S.Store c.args.conn.now in
      let s1 = state g.S.Store c.begin.new.conn in
      let clean0 : HasCleanDisk s0 = omega (arith, c.in_ok-begin.ensures.follows.survives.clean, clean1) in
      let is = older_balances c.args.self.now.version c.if-self-eq1.false in
      had_balances s0 s1 (subst (λ (schema : Schema). IsOlder schema s0) is (c.requires clean0)) (c.in_ok-begin.ensures.ok clean1);
  follows = search rules;
}
