-- A tenant's rows in a database, with balances that are kept.
use Rattle.std.proofs.Common.{◌≡◌, ℕ, ◌<◌, ◌^◌, ℤ, Bool, true, false, eqb, cond, List, [], ◌∷◌, ◌++◌, Option, Some, None, IsSome, true≢false, refl, sym, ap, subst, ◌∙◌}
use Rattle.std.proofs.lemmas.Bool.Decides.{Decides-eqb}
use Rattle.std.proofs.lemmas.List.Elements.{All-weaker}
use Rattle.sqlite_trees.specs.Tree.{Trees}
use Rattle.sqlite.specs.State.{State}
use Rattle.records.specs.declared.balances.Balances.{Balances}
use Rattle.records.specs.FirstOf.{or_else}
use Rattle.rows.specs.declared.balance_row.BalanceRow.{BalanceRow}
use Rattle.rows.specs.Changes.{set_balances}
use Rattle.rows.specs.TypedRows.{TypedRows}
use Rattle.rows.specs.Widths.{IsStorableBalance}
use Rattle.stored_tables.specs.declared.kept.KeptRow.{KeptRow}
use Rattle.stored_tables.specs.BatchLaws.{others_itself, others_then}
use Rattle.stored_tables.specs.Holds.{HoldsRows}
use Rattle.stored_tables.specs.Kept.{Kept, kept_in, HoldsKept, Flushes}
use Rattle.stored_tables.specs.Moves.{CanWrite, ChangesRows, IsThere}
use Rattle.stored_tables.specs.Releasing.{AreApart}
use Rattle.stored_tables.proofs.ChangedRows.{there_kept}
use Rattle.stored_tables.proofs.KeptRows.{kept_push, flush_over, with_none}
use Rattle.stored_tables.proofs.Writing.{inside_itself, inside_then}

-- a database has the rows where nothing is kept, and no other ones
pub none_kept : (tenant : ℤ) (rows : TypedRows) (trees : Trees) → AreApart rows → HoldsRows tenant rows trees → HoldsKept tenant (kept_in []) rows trees
none_kept tenant rows trees apart held = record {
  stored = rows.balances;
  ids = All-weaker IsStorableBalance (λ row. row.account < 2 ^ 128) (λ row fit. fit.account) rows.balances apart.balances_fit;
  distinct = apart.balances;
  there = λ account some. absurd (true≢false (sym some));
  balances = with_none rows.balances;
  holds = held;
}

pub as_stored : (tenant : ℤ) (rows : TypedRows) (trees : Trees) → HoldsKept tenant (kept_in []) rows trees → HoldsRows tenant rows trees
as_stored tenant rows trees held =
    subst (λ (balances : List BalanceRow). HoldsRows tenant (record rows { balances = balances }) trees) (sym (with_none held.stored) ∙ held.balances) held.holds

-- no call at all
pub same_kept : (tenant : ℤ) (kept : Kept) (s : State) → CanWrite s → Flushes tenant kept kept s s
same_kept tenant kept s can = record {
  inside = inside_itself s can;
  moves = λ rows any num held. record { numbered = num; others = others_itself tenant s.now.trees; strangers = refl; rows = held };
}

-- what is kept stays in the rows over two calls in turn
pub kept_then : (tenant : ℤ) (was mid is : Kept) (a b c : State) → Flushes tenant was mid a b → Flushes tenant mid is b c → Flushes tenant was is a c
kept_then tenant was mid is a b c f g = record {
  inside = inside_then a b c f.inside g.inside;
  moves = λ rows any num held.
      let first = f.moves rows tt num held in
      let second = g.moves rows tt first.numbered first.rows in
      record { numbered = second.numbered; others = others_then tenant a.now.trees b.now.trees c.now.trees first.others second.others; strangers = second.strangers ∙ first.strangers; rows = second.rows };
}

some_first : (o more : Option Balances) → IsSome o → IsSome (or_else o more)
some_first None more some = absurd (true≢false (sym some))
some_first (Some b) more some = refl

some_own : (here : Bool) (v : Balances) (o : Option Balances) → here ≡ true → IsSome (or_else o (cond here (Some v) None))
some_own true v None is = refl
some_own true v (Some b) is = refl
some_own false v o is = absurd (cc)

-- the last of those that are kept is written
pub one_flushed : (tenant : ℤ) (more rest : List KeptRow) (e : KeptRow) (s0 s1 : State) → more ≡ rest ++ e ∷ []
    → ChangesRows tenant (λ rows. IsThere (λ row. row.account) e.account rows.balances) (λ rows. record rows { balances = set_balances e.account e.balances rows.balances }) s0 s1
    → Flushes tenant (kept_in more) (kept_in rest) s0 s1
one_flushed tenant more rest e s0 s1 is w = record {
  inside = w.inside;
  moves = λ rows any num held.
      let push : (q : ℕ) → kept_in more q ≡ or_else (kept_in rest q) (cond (eqb e.account q) (Some e.balances) None) = λ q. ap (λ items. kept_in items q) is ∙ kept_push rest e q in
      let own : IsSome (kept_in more e.account) = subst IsSome (sym (push e.account)) (some_own (eqb e.account e.account) e.balances (kept_in rest e.account) ((Decides-eqb e.account e.account).1 refl)) in
      let there = λ (account : ℕ) (some : IsSome (kept_in more account)).
      there_kept (λ (row : BalanceRow). row.account) account e.account (λ row. record row { balances = e.balances }) (λ row. refl) held.stored
      (record { ids = held.ids; distinct = held.distinct; found = held.there account some }) in
      let set = w.moves (record rows { balances = held.stored }) (record { ids = held.ids; distinct = held.distinct; found = held.there e.account own }) num held.holds in
      record {
        numbered = set.numbered;
        others = set.others;
        strangers = set.strangers;
        rows = record {
          stored = set_balances e.account e.balances held.stored;
          ids = (there e.account own).ids;
          distinct = (there e.account own).distinct;
          there = λ account some. (there account (subst IsSome (sym (push account)) (some_first (kept_in rest account) (cond (eqb e.account account) (Some e.balances) None) some))).found;
          balances = flush_over e (kept_in rest) (kept_in more) push held.stored ∙ held.balances;
          holds = set.rows;
        };
      };
}
