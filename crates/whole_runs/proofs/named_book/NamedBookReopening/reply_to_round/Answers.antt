use Rattle.std.proofs.Common.{◌≡◌, List, Result, Ok, Err, IfOk, OnErr, sym, subst}
use Rattle.service.specs.Openings.{All_as_now}
use Rattle.service.specs.TurnLaws.{replies_happen}
use Rattle.plain.specs.declared.book.Tenant.{Tenant}
use Rattle.plain.specs.BookLedgers.{machines_in}
use Rattle.stored_ledgers.specs.Names.{Names}
use Rattle.store.specs.Names.{AreNamed}
use Rattle.whole_runs.proofs.NamedLemmas.{named_still}
use Rattle.whole_runs.proofs.StayLemmas.{in_turn_stay}
use Rattle.whole_runs.proofs.named_book.NamedBookReopening.reply_to_round.Goals as goal

if_ok_on :
    {X E : Type 0} (P Q : X → Type 0) (result : Result X E) → ((x : X) → P x → Q x) →
    IfOk result P → IfOk result Q
if_ok_on P Q (Ok x) on p = on x p
if_ok_on P Q (Err e) on p = p

-- the names are those of the tenants behind the round
named_behind :
    {X E : Type 0} (P : X → Type 0) (names : Names) (old new : List Tenant) (result : Result X E) →
    AreNamed names (machines_in old) →
    ((x : X) → P x → AreNamed names (machines_in new)) → IfOk result P → OnErr result (new ≡ old) →
    AreNamed names (machines_in new)
named_behind P names old new (Ok x) named on moved same = on x moved
named_behind P names old new (Err why) named on moved same =
    subst (λ (book : List Tenant). AreNamed names (machines_in book)) (sym same) named

pub invariant_of-self : goal.invariant_of-self
invariant_of-self c = (
  c.are_valid.ensures,
  named_behind _ _ c.self.inside.book c.respond_round-replies.new.ledgers c.respond_round-replies.result
      c.self.invariant.1
      (λ replies moves.
      named_still _ _ _ c.self.invariant.1
      (in_turn_stay _ _ _ replies.items (moves.respond (tt, c.are_valid.ensures))))
      c.respond_round-replies.ensures.moves c.respond_round-replies.ensures.undone,
)

pub returns-clause-moves : goal.returns-clause-moves
returns-clause-moves c =
    rw (← c.self.view_is) (if_ok_on _ _ c.respond_round-replies.result
    (λ replies moves. record {
      respond = λ live. moves.respond (tt, c.are_valid.ensures);
      lived = λ live. c.self.invariant;
      found = λ found keeps.
          let all = replies_happen _ replies.items _ _ (moves.respond (tt, c.are_valid.ensures)) in
          (all.events, all.are, All_as_now (invariant_of-self c) keeps);
    })
    c.respond_round-replies.ensures.moves)
