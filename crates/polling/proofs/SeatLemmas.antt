-- Clients who take their seats, are served in them and go.
use Rattle.std.proofs.Common.{◌≡◌, ◌≢◌, ◌⊎◌, ◌≤◌, ◌<◌, ◌+◌, inl, inr, refl, ap, sym, ◌∙◌, subst, ℕ, Bool, true, false, List, [], ◌∷◌, ◌++◌, Option, Some, None, is_some, arith}
use Rattle.std.specs.Option.{unwrap_or}
use Rattle.clients.specs.Deeds.{Act}
use Rattle.clients.specs.Talk.{Talk, new_talk}
use Rattle.polling.specs.Peers.{Asked, Closed}
use Rattle.polling.specs.Standing.{Standing, Awaited, Owed, Kept, rested, asked, with_standing, stands_after, has_seat, StandsIn}
use Rattle.polling.specs.Standing.{A_seat, A_turn, owing}
use Rattle.polling.specs.Serving.{Hall, hall, Terms, Stirs, Joins, Proceeds, Then}
use Rattle.polling.specs.Seating.{with_talk, ServesOne, SeatsNow, HadTurn, IsFollowed, replies_in, held, HoldsHall, LeadsOwed, ServesAll, ServesOwed, ServesEach}
use Rattle.polling.specs.Ending.{IsToldAs}
use Rattle.polling.specs.declared.step.Step.{Step}
use Rattle.polling.specs.declared.step.Step.TheVariants as step
use Rattle.polling.proofs.OneLemmas.{Stays, by_seat, once, replies_both, with_talk-own, with_talk-other}
use Rattle.clients.proofs.ClientLemmas.{by_client}
use Rattle.polling.proofs.StandLemmas.{AllStand, EndsTurn, asked_ends, asked_kept, rested_ends, rested_kept}
use Rattle.polling.proofs.StandLemmas.{one_stands, one_stands_on, after_stand, owes_none, owes_less, owes_then, owes_beside, owes_after, keeps_one, keeps_then, keeps_after}
use Rattle.polling.proofs.AllLemmas.{free_seat, used, same_hall, keeps_peers, closes_all, serves_all}

-- nothing was done, since it may be so
idle_was :
    (idle : Bool) (standing : Standing) → (idle ≡ false → standing ≢ Owed) → standing ≡ Owed →
    idle ≡ true
idle_was true standing moved owed = refl
idle_was false standing moved owed = absurd (moved refl owed)

-- who has another talk stands as before
seated_still :
    (client : ℕ) (seats seats_now : ℕ → Option Talk) (talk talk_now : Talk)
    (stands : ℕ → Standing) → seats client ≡ Some talk →
    SeatsNow client (Some talk_now) seats seats_now → AllStand seats stands →
    AllStand seats_now stands
seated_still client seats seats_now talk talk_now stands was now all =
    by_client (λ each. StandsIn (seats_now each) (stands each)) client
    (subst (λ (seat : Option Talk). StandsIn seat (stands client)) (sym now.0)
    (subst (λ (seat : Option Talk). StandsIn seat (stands client)) was (all client)))
    (λ other differ.
    subst (λ (seat : Option Talk). StandsIn seat (stands other)) (sym (now.1 other differ))
    (all other))

module _ {S C P : Type 0} where
  -- the next number has no seat
  no_seat :
      (ledgers : S) (moments : C) (peers : P) (seats : ℕ → Option Talk) (next : ℕ)
      (first : Hall S C P) → HoldsHall (held ledgers moments peers seats next) first →
      seats next ≡ None
  no_seat ledgers moments peers seats next first keeps =
      free_seat (seats next)
      (λ talk is. let below : next < next = keeps.below next talk is in omega arith)

  -- a client with the next number is closed
  pub closes_next :
      (r : Terms S C P) (ledgers : S) (moments : C) (peers peers_now : P)
      (seats : ℕ → Option Talk) (next : ℕ) → r.does peers (Closed next) peers_now →
      ServesOwed r ⊥ (owing A_seat next ∷ []) [] (held ledgers moments peers seats next)
      (held ledgers moments peers_now seats next) 0
  closes_next r ledgers moments peers peers_now seats next does first keeps =
      closes_all r A_seat next ledgers moments peers peers_now seats next
      (no_seat ledgers moments peers seats next first keeps) does first keeps

  -- a client takes the seat of the next number
  pub joined :
      (r : Terms S C P) (ledgers : S) (moments : C) (peers : P) (seats seats_now : ℕ → Option Talk)
      (next : ℕ) → SeatsNow next (Some new_talk) seats seats_now →
      ServesOwed r ⊥ (owing A_seat next ∷ []) [] (held ledgers moments peers seats next)
      (held ledgers moments peers seats_now (next + 1)) 0
  joined r ledgers moments peers seats seats_now next now first keeps =
      let nobody = no_seat ledgers moments peers seats next first keeps in
      let away : has_seat (first.stands next) ≡ false =
      sym (keeps.stands next) ∙ ap (λ (seat : Option Talk). is_some seat) nobody in
      let stands = with_standing next Awaited first.stands in
      let after = record first { stands = stands } in record {
        deeds = [];
        last = after;
        leads = once r first after [] (Joins next away);
        keeps =
            record {
              ledgers = keeps.ledgers;
              moments = keeps.moments;
              peers = keeps.peers;
              seated =
                  by_seat (λ client talk. first.room.talks client ≡ talk) next (Some new_talk) seats seats_now now
                  (λ talk is. keeps.unused next (omega arith) ∙ ap (λ seat. unwrap_or seat new_talk) is)
                  (λ other differ. keeps.seated other);
              there =
                  by_seat (λ client talk. first.gone client ≡ false) next (Some new_talk) seats seats_now now
                  (λ talk is. keeps.not_gone next (omega arith)) (λ other differ. keeps.there other);
              below =
                  by_seat (λ client talk. client < next + 1) next (Some new_talk) seats seats_now now
                  (λ talk is. omega arith)
                  (λ other differ talk is. let before : other < next = keeps.below other talk is in omega arith);
              unused = λ client (beyond : next + 1 ≤ client). keeps.unused client (omega arith);
              not_gone = λ client (beyond : next + 1 ≤ client). keeps.not_gone client (omega arith);
              stands =
                  one_stands seats_now first.stands next Awaited
                  (subst (λ (seat : Option Talk). StandsIn seat Awaited) (sym now.0) refl)
                  (λ other differ.
                  subst (λ (seat : Option Talk). StandsIn seat (first.stands other))
                  (sym (now.1 other differ)) (keeps.stands other));
            };
        count = refl;
        owes = owes_none A_seat next Awaited first.stands (λ each owed. owed);
        spares = keeps_one ⊥ next Awaited first.stands (λ (kept : Awaited ≡ Kept). cc);
      }

  -- what is held behind a turn of the client in one seat
  pub keeps_at :
      (client : ℕ) (ledgers ledgers_now : S) (moments moments_now : C) (peers peers_now each : P)
      (seats seats_now : ℕ → Option Talk) (next : ℕ) (talk talk_now : Talk) (first : Hall S C P) →
      seats client ≡ Some talk → SeatsNow client (Some talk_now) seats seats_now →
      each ≡ peers_now → HoldsHall (held ledgers moments peers seats next) first →
      HoldsHall (held ledgers_now moments_now peers_now seats_now next)
      (hall ledgers_now moments_now each (with_talk client talk_now first.room.talks) first.gone
      first.stands)
  keeps_at client ledgers ledgers_now moments moments_now peers peers_now each seats seats_now next
      talk talk_now first was now are keeps =
      let talks = first.room.talks in
      record {
        ledgers = refl;
        moments = refl;
        peers = are;
        seated =
            by_seat (λ each seat. with_talk client talk_now talks each ≡ seat) client (Some talk_now) seats
            seats_now now
            (λ seat is. with_talk-own client talk_now talks ∙ ap (λ found. unwrap_or found talk_now) is)
            (λ other differ seat is.
            with_talk-other client other talk_now talks differ ∙ keeps.seated other seat is);
        there =
            by_seat (λ each seat. first.gone each ≡ false) client (Some talk_now) seats seats_now now
            (λ seat is. keeps.there client talk was) (λ other differ. keeps.there other);
        below =
            by_seat (λ each seat. each < next) client (Some talk_now) seats seats_now now
            (λ seat is. keeps.below client talk was) (λ other differ. keeps.below other);
        unused =
            λ other beyond.
            with_talk-other client other talk_now talks
            (used client next other (keeps.below client talk was) beyond)
            ∙ keeps.unused other beyond;
        not_gone = keeps.not_gone;
        stands = seated_still client seats seats_now talk talk_now first.stands was now keeps.stands;
      }

  -- in the hall that is held the client in one seat was served, and these deeds were done
  led_at :
      (r : Terms S C P) (client : ℕ) (ledgers : S) (moments : C) (peers : P)
      (seats : ℕ → Option Talk) (next : ℕ) (talk : Talk) (first last : Hall S C P)
      (deeds : List Act) → seats client ≡ Some talk →
      HoldsHall (held ledgers moments peers seats next) first →
      Proceeds S C P r
      (hall ledgers moments peers (with_talk client talk first.room.talks) first.gone first.stands)
      deeds last →
      Proceeds S C P r first deeds last
  led_at r client ledgers moments peers seats next talk first last deeds was keeps led =
      subst (λ (from : Hall S C P). Proceeds S C P r from deeds last)
      (same_hall ledgers moments peers client talk first keeps.ledgers keeps.moments keeps.peers
      (keeps.seated client talk was))
      led

  -- the client in one seat was served, and stays
  pub served_at :
      (r : Terms S C P) (client : ℕ) (ledgers ledgers_now : S) (moments moments_now : C)
      (peers peers_now : P) (seats seats_now : ℕ → Option Talk) (next : ℕ) (talk talk_now : Talk)
      (idle : Bool) (replies : ℕ) →
      seats client ≡ Some talk → SeatsNow client (Some talk_now) seats seats_now →
      Stays r client ledgers moments peers talk ledgers_now moments_now peers_now talk_now idle
      replies →
      ServesEach r (held ledgers moments peers seats next)
      (held ledgers_now moments_now peers_now seats_now next) replies
  served_at r client ledgers ledgers_now moments moments_now peers peers_now seats seats_now next talk
      talk_now idle replies was now served first keeps =
      let talks = first.room.talks in
      let there =
      keeps_at client ledgers ledgers_now moments moments_now peers peers_now peers_now seats
      seats_now next talk talk_now first was now refl keeps in
      let did = served.leads talks first.gone first.stands (keeps.there client talk was) in
      let stands = stands_after did.0 first.stands in
      let after =
      hall ledgers_now moments_now peers_now (with_talk client talk_now talks) first.gone stands in record {
        deeds = did.0;
        last = after;
        leads = led_at r client ledgers moments peers seats next talk first after did.0 was keeps did.1;
        keeps =
            keeps_peers (held ledgers_now moments_now peers_now seats_now next)
            (hall ledgers_now moments_now peers_now (with_talk client talk_now talks) first.gone
            first.stands)
            peers_now stands (after_stand did.0 seats_now first.stands there.stands) there;
        count = did.2;
        owes = owes_after did.0 first.stands;
        spares = keeps_after ⊥ did.0 first.stands;
      }

  -- the client in one seat was served, and its turn is over: so it stands behind it
  turn_over :
      (r : Terms S C P) (why : Type 0) (change : Standing → Standing) (client : ℕ)
      (ledgers ledgers_now : S) (moments moments_now : C) (peers peers_now : P)
      (seats seats_now : ℕ → Option Talk) (next : ℕ) (talk talk_now : Talk) (replies : ℕ)
      (first : Hall S C P) (deeds more : List Act) → seats client ≡ Some talk →
      SeatsNow client (Some talk_now) seats seats_now →
      HoldsHall (held ledgers moments peers seats next) first →
      EndsTurn change (stands_after deeds first.stands client) →
      (change (stands_after deeds first.stands client) ≡ Kept →
      (stands_after deeds first.stands client ≡ Kept) ⊎ why) →
      Proceeds S C P r
      (hall ledgers moments peers (with_talk client talk first.room.talks) first.gone first.stands)
      more
      (hall ledgers_now moments_now peers_now (with_talk client talk_now first.room.talks) first.gone
      (with_standing client (change (stands_after deeds first.stands client))
      (stands_after deeds first.stands))) →
      replies_in more ≡ replies →
      LeadsOwed r why (owing A_turn client ∷ []) [] first
      (held ledgers_now moments_now peers_now seats_now next) replies
  turn_over r why change client ledgers ledgers_now moments moments_now peers peers_now seats
      seats_now next talk talk_now replies first deeds more was now keeps ends kept led count =
      let talks = with_talk client talk_now first.room.talks in
      let there =
      keeps_at client ledgers ledgers_now moments moments_now peers peers_now peers_now seats
      seats_now next talk talk_now first was now refl keeps in
      let mid = stands_after deeds first.stands in
      let standing = change (mid client) in
      let stands = with_standing client standing mid in
      let turn = owing A_turn client ∷ [] in
      let after = hall ledgers_now moments_now peers_now talks first.gone stands in record {
        deeds = more;
        last = after;
        leads = led_at r client ledgers moments peers seats next talk first after more was keeps led;
        keeps =
            keeps_peers (held ledgers_now moments_now peers_now seats_now next)
            (hall ledgers_now moments_now peers_now talks first.gone first.stands) peers_now stands
            (one_stands_on seats_now mid client standing ends.seat
            (after_stand deeds seats_now first.stands there.stands))
            there;
        count = count;
        owes =
            owes_then turn turn [] first.stands mid stands
            (owes_beside [] [] turn first.stands mid (owes_after deeds first.stands))
            (owes_less A_turn client standing mid ends.unowed ends.owed);
        spares =
            keeps_then why first.stands mid stands (keeps_after why deeds first.stands)
            (keeps_one why client standing mid kept);
      }

  -- it is to be told as ready again
  pub asked_at :
      {r : Terms S C P} {client : ℕ} {ledgers ledgers_now : S} {moments moments_now : C}
      {peers peers_then peers_now : P} {seats seats_now : ℕ → Option Talk} {next : ℕ}
      {talk talk_now : Talk} {idle : Bool} {replies : ℕ} →
      seats client ≡ Some talk → SeatsNow client (Some talk_now) seats seats_now →
      Stays r client ledgers moments peers talk ledgers_now moments_now peers_then talk_now idle
      replies →
      r.does peers_then (Asked client) peers_now →
      ServesOwed r (idle ≡ true) (owing A_turn client ∷ []) []
      (held ledgers moments peers seats next)
      (held ledgers_now moments_now peers_now seats_now next) replies
  asked_at {r} {client} {ledgers} {ledgers_now} {moments} {moments_now} {peers} {peers_then}
      {peers_now} {seats} {seats_now} {next} {talk} {talk_now} {idle} {replies} was now served does
      first keeps =
      let talks = first.room.talks in
      let did = served.leads talks first.gone first.stands (keeps.there client talk was) in
      let mid = stands_after did.0 first.stands in
      let stands = with_standing client (asked (mid client)) mid in
      let talks_now = with_talk client talk_now talks in
      turn_over r (idle ≡ true) asked client ledgers ledgers_now moments moments_now peers peers_now
      seats seats_now next talk talk_now replies first did.0 (did.0 ++ []) was now keeps
      (asked_ends (mid client))
      (λ kept.
      elim (asked_kept (mid client) kept) [
        | inl before ↦ inl before
        | inr owed ↦ inr (idle_was idle (mid client) did.3 owed)
      ])
      (Then did.0 (hall ledgers_now moments_now peers_then talks_now first.gone mid) []
      (hall ledgers_now moments_now peers_now talks_now first.gone stands) did.1
      (Stirs (Asked client) peers_now tt does))
      (replies_both did.0 [] replies 0 replies did.2 refl (omega arith))

  -- it waits
  pub rested_at :
      {r : Terms S C P} {client : ℕ} {ledgers ledgers_now : S} {moments moments_now : C}
      {peers peers_now : P} {seats seats_now : ℕ → Option Talk} {next : ℕ} {talk talk_now : Talk}
      {idle : Bool} {replies : ℕ} →
      seats client ≡ Some talk → SeatsNow client (Some talk_now) seats seats_now →
      ServesOne r client ledgers moments peers talk ledgers_now moments_now peers_now talk_now
      step.Waits idle replies →
      ServesOwed r ⊥ (owing A_turn client ∷ []) [] (held ledgers moments peers seats next)
      (held ledgers_now moments_now peers_now seats_now next) replies
  rested_at {r} {client} {ledgers} {ledgers_now} {moments} {moments_now} {peers} {peers_now} {seats}
      {seats_now} {next} {talk} {talk_now} {replies} was now served first keeps =
      let did = served.leads first.room.talks first.gone first.stands (keeps.there client talk was) in
      let standing = stands_after did.0 first.stands client in
      turn_over r ⊥ rested client ledgers ledgers_now moments moments_now peers peers_now seats
      seats_now next talk talk_now replies first did.0 did.0 was now keeps (rested_ends standing)
      (λ kept. absurd (rested_kept standing kept)) did.1 did.2

  -- a client was written to, and may be let wait
  pub left_all :
      (r : Terms S C P) (client : ℕ) (done : Step) (idle : Bool) (told : Step) (ledgers ledgers_now : S)
      (moments : C) (peers peers_then peers_now : P) (seats seats_then seats_now : ℕ → Option Talk)
      (next : ℕ) → IsToldAs done idle told →
      HadTurn r client ledgers moments peers seats ledgers_now moments peers_then seats_then done idle 0 →
      IsFollowed r client told peers_then seats_then peers_now seats_now →
      (told ≡ step.Waits → (peers_now ≡ peers_then) × (seats_now ≡ seats_then)) →
      ServesAll r (held ledgers moments peers seats next)
      (held ledgers_now moments peers_now seats_now next) 0
  left_all r client done idle told ledgers ledgers_now moments peers peers_then peers_now seats seats_then
      seats_now next (inl as_done) had followed same =
      serves_all
      (followed ledgers ledgers_now moments moments peers seats next idle 0
      (subst
      (λ (step : Step).
      HadTurn r client ledgers moments peers seats ledgers_now moments peers_then seats_then step idle 0)
      (sym as_done.0) had))
  left_all r client done idle told ledgers ledgers_now moments peers peers_then peers_now seats seats_then
      seats_now next (inr left) had followed same =
      let is = same left.1 in
      let turn =
      subst
      (λ (step : Step).
      HadTurn r client ledgers moments peers seats ledgers_now moments peers_then seats_then step idle 0)
      left.0 had in
      subst
      (λ (now : P).
      ServesAll r (held ledgers moments peers seats next) (held ledgers_now moments now seats_now next) 0)
      (sym is.0)
      (subst
      (λ (now : ℕ → Option Talk).
      ServesAll r (held ledgers moments peers seats next)
      (held ledgers_now moments peers_then now next) 0)
      (sym is.1)
      (serves_all
      (served_at r client ledgers ledgers_now moments moments peers peers_then seats seats_then next
      turn.talk turn.talk_now idle 0 turn.was turn.now turn.served)))
