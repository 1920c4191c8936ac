-- Clients who go from their seats, and are closed.
use Rattle.std.proofs.Common.{◌≡◌, ◌<◌, refl, ap, sym, ◌∙◌, subst, ℕ, Bool, true, false, List, [], ◌∷◌, ◌++◌, Option, Some, None, is_some, arith}
use Rattle.std.proofs.lemmas.Bool.{false≢true}
use Rattle.clients.specs.Deeds.{Act}
use Rattle.clients.specs.Talk.{Talk}
use Rattle.polling.specs.Peers.{Closed}
use Rattle.polling.specs.Standing.{Standing, Away, Kept, leaving, with_standing, stands_after, has_seat, StandsIn}
use Rattle.polling.specs.Standing.{Debt, A_turn, An_end, owing, MayClose, Told_late}
use Rattle.polling.specs.Serving.{Hall, hall, Terms, gone_with, Occurs, Stirs, Goes, Proceeds, Then}
use Rattle.polling.specs.Seating.{with_talk, stands_by, replies_in, ServesOne, SeatsNow, held, HoldsHall, LeadsOwed, ServesOwed, ServesTold}
use Rattle.polling.specs.declared.peers.Told.TheVariants.{Late}
use Rattle.polling.specs.declared.step.Step.TheVariants as step
use Rattle.polling.proofs.OneLemmas.{by_seat, once, replies_both, with_talk-other}
use Rattle.polling.proofs.GoingLemmas.{leaving_closes, late_overdue, standing-twice}
use Rattle.polling.proofs.StandLemmas.{standing-own, one_stands, after_stand, owes_none, owes_then, owes_beside, owes_after, keeps_one, keeps_then, keeps_after}
use Rattle.polling.proofs.AllLemmas.{gone_with-other, used, same_hall}

module _ {S C P : Type 0} where
  -- the client in one seat goes, and is closed
  went_from :
      (r : Terms S C P) (debt : Debt) (client : ℕ) (ledgers ledgers_now : S)
      (moments moments_now : C) (peers peers_then peers_now : P)
      (seats seats_then seats_now : ℕ → Option Talk) (next : ℕ) (talk talk_now : Talk)
      (replies : ℕ) (first : Hall S C P) (deeds : List Act) → seats client ≡ Some talk →
      SeatsNow client (Some talk_now) seats seats_then → SeatsNow client None seats_then seats_now →
      Proceeds S C P r
      (hall ledgers moments peers (with_talk client talk first.room.talks) first.gone first.stands)
      deeds
      (hall ledgers_now moments_now peers_then (with_talk client talk_now first.room.talks)
      (gone_with client first.gone) (stands_by step.Goes client deeds first.stands)) →
      replies_in deeds ≡ replies → r.does peers_then (Closed client) peers_now →
      HoldsHall (held ledgers moments peers seats next) first →
      LeadsOwed r ⊥ (owing debt client ∷ []) [] first
      (held ledgers_now moments_now peers_now seats_now next) replies
  went_from r debt client ledgers ledgers_now moments moments_now peers peers_then peers_now seats
      seats_then seats_now next talk talk_now replies first deeds was mid now served count closed
      keeps =
      let talks = first.room.talks in
      let gone = gone_with client first.gone in
      let stood = stands_after deeds first.stands in
      let going = leaving (stood client) in
      let stands_then = with_standing client going stood in
      let stands = with_standing client Away stood in
      let owed = owing debt client ∷ [] in
      let then_hall =
      hall ledgers_now moments_now peers_then (with_talk client talk_now talks) gone stands_then in
      let after =
      hall ledgers_now moments_now peers_now (with_talk client talk_now talks) gone stands in
      let stand = after_stand deeds seats first.stands keeps.stands in
      let both : SeatsNow client None seats seats_now =
      (now.0, λ other differ. now.1 other differ ∙ mid.1 other differ) in
      let empty : (seat : Talk) → None ≡ Some seat → ⊥ =
      λ seat is. false≢true (ap is_some is) in record {
        deeds = deeds ++ [];
        last = after;
        leads =
            Then deeds then_hall [] after
            (subst (λ (from : Hall S C P). Proceeds S C P r from deeds then_hall)
            (same_hall ledgers moments peers client talk first keeps.ledgers keeps.moments
            keeps.peers (keeps.seated client talk was))
            served)
            (subst
            (λ (all : ℕ → Standing).
            Occurs S C P r then_hall []
            (hall ledgers_now moments_now peers_now (with_talk client talk_now talks) gone all))
            (standing-twice client going Away stood)
            (Stirs (Closed client) peers_now
            (subst MayClose (sym (standing-own client going stood)) (leaving_closes (stood client)))
            closed));
        keeps =
            record {
              ledgers = refl;
              moments = refl;
              peers = refl;
              seated =
                  by_seat (λ each seat. with_talk client talk_now talks each ≡ seat) client None seats
                  seats_now both (λ seat is. absurd (empty seat is))
                  (λ other differ seat is.
                  with_talk-other client other talk_now talks differ ∙ keeps.seated other seat is);
              there =
                  by_seat (λ each seat. gone each ≡ false) client None seats seats_now both
                  (λ seat is. absurd (empty seat is))
                  (λ other differ seat is.
                  gone_with-other client other first.gone differ ∙ keeps.there other seat is);
              below =
                  by_seat (λ each seat. each < next) client None seats seats_now both
                  (λ seat is. absurd (empty seat is)) (λ other differ. keeps.below other);
              unused =
                  λ other beyond.
                  with_talk-other client other talk_now talks
                  (used client next other (keeps.below client talk was) beyond)
                  ∙ keeps.unused other beyond;
              not_gone =
                  λ other beyond.
                  gone_with-other client other first.gone
                  (used client next other (keeps.below client talk was) beyond)
                  ∙ keeps.not_gone other beyond;
              stands =
                  one_stands seats_now stood client Away
                  (subst (λ (seat : Option Talk). StandsIn seat Away) (sym now.0) refl)
                  (λ other differ.
                  subst (λ (seat : Option Talk). StandsIn seat (stood other))
                  (sym (both.1 other differ)) (stand other));
            };
        count = replies_both deeds [] replies 0 replies count refl (omega arith);
        owes =
            owes_then owed owed [] first.stands stood stands
            (owes_beside [] [] owed first.stands stood (owes_after deeds first.stands))
            (owes_none debt client Away stood (λ each is. is));
        spares =
            keeps_then ⊥ first.stands stood stands (keeps_after ⊥ deeds first.stands)
            (keeps_one ⊥ client Away stood (λ (kept : Away ≡ Kept). cc));
      }

  -- the client in one seat was served, has gone and is closed
  pub went_at :
      {r : Terms S C P} {client : ℕ} {ledgers ledgers_now : S} {moments moments_now : C}
      {peers peers_then peers_now : P} {seats seats_then seats_now : ℕ → Option Talk} {next : ℕ}
      {talk talk_now : Talk} {idle : Bool} {replies : ℕ} → seats client ≡ Some talk →
      SeatsNow client (Some talk_now) seats seats_then → SeatsNow client None seats_then seats_now →
      ServesOne r client ledgers moments peers talk ledgers_now moments_now peers_then talk_now
      step.Goes idle replies →
      r.does peers_then (Closed client) peers_now →
      ServesOwed r ⊥ (owing A_turn client ∷ []) [] (held ledgers moments peers seats next)
      (held ledgers_now moments_now peers_now seats_now next) replies
  went_at {r} {client} {ledgers} {ledgers_now} {moments} {moments_now} {peers} {peers_then}
      {peers_now} {seats} {seats_then} {seats_now} {next} {talk} {talk_now} {replies} was mid now
      served closed first keeps =
      let did = served.leads first.room.talks first.gone first.stands (keeps.there client talk was) in
      went_from r A_turn client ledgers ledgers_now moments moments_now peers peers_then peers_now
      seats seats_then seats_now next talk talk_now replies first did.0 was mid now did.1 did.2
      closed keeps

  -- a client that was told as late goes from its seat, and is closed
  pub late_at :
      (r : Terms S C P) (client : ℕ) (ledgers : S) (moments : C) (peers peers_now : P)
      (seats seats_now : ℕ → Option Talk) (next : ℕ) (talk : Talk) → seats client ≡ Some talk →
      SeatsNow client None seats seats_now → r.does peers (Closed client) peers_now →
      ServesTold r (Late client) (owing An_end client ∷ []) []
      (held ledgers moments peers seats next) (held ledgers moments peers_now seats_now next) 0
  late_at r client ledgers moments peers peers_now seats seats_now next talk was now closed first
      keeps late =
      let talks = with_talk client talk first.room.talks in
      let seated : has_seat (first.stands client) ≡ true =
      sym (keeps.stands client) ∙ ap (λ (seat : Option Talk). is_some seat) was in
      went_from r An_end client ledgers ledgers moments moments peers peers peers_now seats seats
      seats_now next talk talk 0 first [] was (was, λ other differ. refl) now
      (once r (hall ledgers moments peers talks first.gone first.stands)
      (hall ledgers moments peers talks (gone_with client first.gone)
      (with_standing client (leaving (first.stands client)) first.stands))
      []
      (Goes client peers (Told_late (late_overdue (first.stands client) seated late) refl)))
      refl closed keeps
