-- One client among all: one part of a turn behind another, and what may be left out of what is told.
use Rattle.std.proofs.Common.{◌≡◌, ◌≢◌, ◌⊎◌, inl, inr, refl, ap, sym, ◌∙◌, subst, ℕ, Bool, true, false, List, [], ◌∷◌, ◌++◌, ◌+◌}
use Rattle.std.proofs.lemmas.Bool.{true≢false}
use Rattle.clients.specs.Talk.{Talk}
use Rattle.clients.specs.Deeds.{Act, client_of}
use Rattle.polling.specs.Standing.{Standing, Owed, begun, rested, leaving, with_standing, stands_after}
use Rattle.polling.specs.Serving.{hall, Terms, Proceeds}
use Rattle.polling.specs.Seating.{with_talk, ServesOne, HasMoved, gone_by, stands_by}
use Rattle.polling.specs.Steps.{WritesAlone}
use Rattle.polling.specs.declared.step.Step.{Step}
use Rattle.polling.specs.declared.step.Step.TheVariants as step
use Rattle.clients.proofs.ClientLemmas.{by_client}
use Rattle.polling.proofs.StandLemmas.{standing-own, standing-other, begun_unowed, after-append}
use Rattle.polling.proofs.OneLemmas.{serves_on, replies_both, Stays}

-- it stays so
unowed_still :
    (deeds : List Act) (stands : ℕ → Standing) (client : ℕ) → stands client ≢ Owed →
    stands_after deeds stands client ≢ Owed
unowed_still [] stands client unowed = unowed
unowed_still (deed ∷ deeds) stands client unowed =
    let own = client_of deed in
    unowed_still deeds (with_standing own (begun (stands own)) stands) client
    (by_client
    (λ each. stands each ≢ Owed → with_standing own (begun (stands own)) stands each ≢ Owed) own
    (λ was owed. begun_unowed (stands own) (sym (standing-own own (begun (stands own)) stands) ∙ owed))
    (λ other differ was owed.
    was (sym (standing-other own other (begun (stands own)) stands differ) ∙ owed)) client unowed)

-- what may have been idle in both parts, where the second ends so
moved_both :
    (step : Step) (first last idle : Bool) (deeds : List Act) (stands : ℕ → Standing) (client : ℕ) →
    (idle ≡ false → (first ≡ false) ⊎ (last ≡ false)) → (first ≡ false → stands client ≢ Owed) →
    HasMoved step last (stands_after deeds stands client) →
    HasMoved step idle (stands_after deeds stands client)
moved_both step.More first last idle deeds stands client either before behind =
    λ moved.
    elim (either moved) [
      | inl one ↦ unowed_still deeds stands client (before one)
      | inr other ↦ behind other
    ]
moved_both step.Waits first last idle deeds stands client either before behind = tt
moved_both step.Goes first last idle deeds stands client either before behind = tt

-- deeds behind deeds, in the last step
stands_by-append :
    (last : Step) (client : ℕ) (before more : List Act) (stands : ℕ → Standing) →
    stands_by last client more (stands_after before stands)
    ≡ stands_by last client (before ++ more) stands
stands_by-append step.More client before more stands = sym (after-append before more stands)
stands_by-append step.Waits client before more stands =
    ap (λ (all : ℕ → Standing). with_standing client (rested (all client)) all)
    (sym (after-append before more stands))
stands_by-append step.Goes client before more stands =
    ap (λ (all : ℕ → Standing). with_standing client (leaving (all client)) all)
    (sym (after-append before more stands))

module _ {S C P : Type 0} {r : Terms S C P} {client : ℕ} where
  -- one step behind another
  pub then_one :
      {ledgers ledgers_then ledgers_now : S} {moments moments_then moments_now : C}
      {peers peers_then peers_now : P} {talk talk_then talk_now : Talk} {last : Step}
      {idle idle_last idle_all : Bool} {before behind all : ℕ} →
      Stays r client ledgers moments peers talk ledgers_then moments_then peers_then talk_then idle
      before →
      ServesOne r client ledgers_then moments_then peers_then talk_then ledgers_now moments_now
      peers_now talk_now last idle_last behind →
      (idle_all ≡ false → (idle ≡ false) ⊎ (idle_last ≡ false)) → before + behind ≡ all →
      ServesOne r client ledgers moments peers talk ledgers_now moments_now peers_now talk_now last
      idle_all all
  then_one {ledgers} {ledgers_then} {ledgers_now} {moments} {moments_then} {moments_now} {peers}
      {peers_then} {peers_now} {talk} {talk_then} {talk_now} {last} {idle} {idle_last} {idle_all}
      {before} {behind} {all} first second either sum = record {
        leads = λ talks gone stands stays.
            let did = first.leads talks gone stands stays in
            let mid = stands_after did.0 stands in
            let does = second.leads talks gone mid stays in (
              did.0 ++ does.0,
              subst
                  (λ (now : ℕ → Standing).
                  Proceeds S C P r (hall ledgers moments peers (with_talk client talk talks) gone stands)
                  (did.0 ++ does.0)
                  (hall ledgers_now moments_now peers_now (with_talk client talk_now talks)
                  (gone_by last client gone) now))
                  (stands_by-append last client did.0 does.0 stands)
                  (serves_on r (hall ledgers moments peers (with_talk client talk talks) gone stands)
                  (hall ledgers_then moments_then peers_then (with_talk client talk_then talks) gone mid)
                  (hall ledgers_now moments_now peers_now (with_talk client talk_now talks)
                  (gone_by last client gone) (stands_by last client does.0 mid))
                  did.0 does.0 did.1 does.1),
              replies_both did.0 does.0 before behind all did.2 does.2 sum,
              subst (λ (now : ℕ → Standing). HasMoved last idle_all (now client))
                  (sym (after-append did.0 does.0 stands))
                  (moved_both last idle idle_last idle_all does.0 mid client either did.3 does.3),
            );
      }

  -- where nothing more may be done, that is not asked
  pub other_idle :
      {ledgers ledgers_now : S} {moments moments_now : C} {peers peers_now : P}
      {talk talk_now : Talk} {idle idle_all : Bool} {replies : ℕ} (last : Step) →
      last ≢ step.More →
      ServesOne r client ledgers moments peers talk ledgers_now moments_now peers_now talk_now last
      idle replies →
      ServesOne r client ledgers moments peers talk ledgers_now moments_now peers_now talk_now last
      idle_all replies
  other_idle step.More other serves = absurd (other refl)
  other_idle last other serves = record {
    leads = λ talks gone stands stays.
        let did = serves.leads talks gone stands stays in (did.0, did.1, did.2, tt);
  }

  -- where less is told of what may have been idle
  pub idle_too :
      {ledgers ledgers_now : S} {moments moments_now : C} {peers peers_now : P}
      {talk talk_now : Talk} {last : Step} {idle idle_all : Bool} {replies : ℕ} →
      ServesOne r client ledgers moments peers talk ledgers_now moments_now peers_now talk_now last
      idle replies →
      (idle_all ≡ false → idle ≡ false) →
      ServesOne r client ledgers moments peers talk ledgers_now moments_now peers_now talk_now last
      idle_all replies
  idle_too {last} {idle} {idle_all} serves less = record {
    leads = λ talks gone stands stays.
        let did = serves.leads talks gone stands stays in (
          did.0,
          did.1,
          did.2,
          moved_both last true idle idle_all [] (stands_after did.0 stands) client
              (λ (none : idle_all ≡ false). inr (less none))
              (λ (never : true ≡ false). absurd (true≢false never)) did.3,
        );
  }

  -- one more is written
  pub then_written :
      {peers peers_then peers_now : P} {talk talk_then talk_now : Talk} {last : Step}
      {idle idle_all : Bool} → talk_then.rest ≡ talk.rest →
      ((ledgers : S) (moments : C) →
      Stays r client ledgers moments peers talk ledgers moments peers_then talk_then idle 0) →
      WritesAlone talk_then talk_now
      ((ledgers : S) (moments : C) →
      ServesOne r client ledgers moments peers_then talk_then ledgers moments peers_now talk_now last
      false 0) →
      WritesAlone talk talk_now
      ((ledgers : S) (moments : C) →
      ServesOne r client ledgers moments peers talk ledgers moments peers_now talk_now last idle_all 0)
  then_written same before wrote = record {
    serves = λ ledgers moments.
        then_one (before ledgers moments) (wrote.serves ledgers moments) (λ none. inr refl) refl;
    rest = wrote.rest ∙ same;
  }
