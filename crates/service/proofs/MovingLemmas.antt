-- A response, as what it makes of the ledgers.
use Rattle.std.proofs.Common.{◌≡◌, ◌≢◌, ◌⊎◌, inl, inr, ℕ, Bool, true, false, List, Option, Result}
use Rattle.std.proofs.Common.{[], Ok, Err, IsOk, if◌then◌else◌, refl, sym, ap, ◌∙◌, subst}
use Rattle.httparse.specs.Grammar.{RequestHead}
use Rattle.chain.specs.Ledgers.{LedgersMeaning, Tenants, Finds}
use Rattle.ledger_http.specs.declared.early.Early.{Early}
use Rattle.ledger_http.specs.declared.reply.Reply.{Reply}
use Rattle.ledger_http.specs.ReplyText.{reply_text}
use Rattle.ledger_http.specs.Question.{Question, asked_of}
use Rattle.service.specs.Replies.{unavailable}
use Rattle.service.specs.Responds.{AnswersAsked, Responds, RefusesEarly}
use Rattle.service.specs.Responds.{IsQuestionAnswered, IsLeftBy, IsLeftByAsked}
use Rattle.service.specs.Deeds.{Deed, asking, deeds_in}
use Rattle.service.specs.Courses.{Event, Replied, is_unavailable, IsStill, untold_in}
use Rattle.service.specs.Openings.{run_meaning, IsSettled, FoundAfter, As_now, As_before, As_done}
use Rattle.service.specs.Openings.{Moves, ResponsesMove}
use Rattle.service.specs.EventLaws.{told_unavailable, told_available, unavailable_tells_nothing}
use Rattle.service.proofs.ConnectionEventsLemmas.{responses_happen}
use Rattle.service.specs.ExchangeLaws.{HeadsAreUnique}

same_either_way :
    (untold : Bool) (deeds : List Deed) → (if untold then deeds else deeds) ≡ deeds
same_either_way true deeds = refl
same_either_way false deeds = refl

module _ {S : Type 0} (t : LedgersMeaning S) (unique : HeadsAreUnique) (old new : S)
    (bytes : List ℕ) (moment : ℕ) (reply : Reply) (early : RefusesEarly bytes reply) where
  abbrev event : Event
  event = Replied (asked_of bytes early.head) moment reply

  still_refused :
      (told : Early) → asked_of bytes early.head ≡ Err told → IsStill event
  still_refused told is = record {
    untold =
        subst
        (λ (asked : Result Question Early).
        untold_in (Replied asked moment reply) ≡ deeds_in asked moment)
        (sym is) (same_either_way (is_unavailable reply) []);
    right = λ tenants. record {
      answered = λ available.
          subst
          (λ (asked : Result Question Early).
          AnswersAsked tenants tenants asked moment (reply_text reply))
          (sym is)
          (record { told = early.refused told is available; same = λ digest. refl });
      same = λ u digest. refl;
    };
  }

  found_lost :
      (asked : Result Question Early) (found : Tenants) → asked_of bytes early.head ≡ asked →
      reply ≡ unavailable → t.is_live old → IsLeftByAsked asked moment (t.tenants old) found →
      FoundAfter (run_meaning t) old event new found
  found_lost (Ok question) found is untold live left =
      As_done (asking question moment) []
      (ap (λ asked. untold_in (Replied asked moment reply)) is
      ∙ ap (λ (r : Reply). untold_in (Replied (Ok question) moment r)) untold)
      live (found, left, λ digest. refl)
  found_lost (Err told) found is untold live left = absurd left

  module _ (finds : Finds t (IsQuestionAnswered bytes reply) (IsLeftBy bytes moment) old new)
      (settled : IsSettled (run_meaning t) new)
    where
      at_head :
          (found : Tenants) → IsLeftBy bytes moment (t.tenants old) found →
          IsLeftByAsked (asked_of bytes early.head) moment (t.tenants old) found
      at_head found left =
          subst
          (λ (head : Option RequestHead).
          IsLeftByAsked (asked_of bytes head) moment (t.tenants old) found)
          (unique bytes left.0 early.head left.1 early.has) left.2

      found_untold :
          (found : Tenants) → reply ≡ unavailable →
          t.may_find old found ⊎ (t.is_live old × IsLeftBy bytes moment (t.tenants old) found) →
          FoundAfter (run_meaning t) old event new found
      found_untold found untold (inl before) =
          As_before (unavailable_tells_nothing (asked_of bytes early.head) moment reply untold) before
      found_untold found untold (inr done) =
          found_lost (asked_of bytes early.head) found refl untold done.0 (at_head found done.1)

      found_refused :
          (found : Tenants) (told : Early) → asked_of bytes early.head ≡ Err told →
          t.may_find old found ⊎ (t.is_live old × IsLeftBy bytes moment (t.tenants old) found) →
          FoundAfter (run_meaning t) old event new found
      found_refused found told is (inl before) = As_before (still_refused told is) before
      found_refused found told is (inr done) =
          absurd
          (subst
          (λ (asked : Result Question Early). IsLeftByAsked asked moment (t.tenants old) found) is
          (at_head found done.1))

      found_told :
          (asked : Result Question Early) (found : Tenants) → asked_of bytes early.head ≡ asked →
          reply ≢ unavailable → t.may_find new found →
          FoundAfter (run_meaning t) old event new found
      found_told (Ok question) found is available may =
          let live =
          finds.live
          (record {
            asks = λ head has.
                subst (λ (h : Option RequestHead). IsOk (asked_of bytes h))
                (unique bytes early.head head early.has has)
                (subst (λ (asked : Result Question Early). IsOk asked) (sym is) refl);
            available = available;
          })
          found may in
          As_now live (settled live found may)
      found_told (Err told) found is available may =
          found_refused found told is (finds.found found may)

      found_by :
          (untold : Bool) (found : Tenants) → is_unavailable reply ≡ untold →
          t.may_find new found → FoundAfter (run_meaning t) old event new found
      found_by true found is may =
          found_untold found (told_unavailable reply is) (finds.found found may)
      found_by false found is may =
          found_told (asked_of bytes early.head) found refl (told_available reply is) may

      moves_so :
          (t.is_live new → Responds (t.tenants old) (t.tenants new) bytes moment reply) →
          (t.is_live new → t.is_live old) → Moves (run_meaning t) old event new
      moves_so responds lived = record {
        happens = λ live.
            responses_happen unique (t.tenants old) (t.tenants new) bytes moment reply event
            (record { head = early.head; has = early.has; is = refl; whole = early.whole }) (responds live);
        lived = lived;
        found = λ found may. found_by (is_unavailable reply) found refl may;
      }

pub responses_move :
    {S : Type 0} (t : LedgersMeaning S) → HeadsAreUnique →
    ((a b : S) → t.follows a b → t.is_live b → t.is_live a) → ResponsesMove t
responses_move t unique lived old new bytes moment reply early responds finds follows settled =
    moves_so t unique old new bytes moment reply early finds settled responds
    (λ live. lived old new follows live)
