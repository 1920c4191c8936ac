-- What is held, and the hall that it is of.
use Rattle.std.proofs.Common.{◌≡◌, ◌≢◌, ◌≤◌, ◌<◌, ◌+◌, refl, ap, sym, ◌∙◌, subst, ℕ, Bool, true, List, [], ◌∷◌, ◌++◌, Option, Some, None, is_some, arith}
use Rattle.std.proofs.Math.Path.{fun_ext}
use Rattle.clients.specs.Talk.{Talk}
use Rattle.clients.specs.Deeds.{Room}
use Rattle.polling.specs.Peers.{Asked, Closed, Said}
use Rattle.polling.specs.Standing.{Standing, Away, Kept, Debt, A_seat, A_turn, Owing, owing, rested, with_standing, stands_behind, StandsIn, told_of, turns_of, AreSomeOf, OwesOnly, KeepsOnly}
use Rattle.polling.specs.Kinds.{IsPutOff}
use Rattle.polling.specs.declared.peers.Told.{Told}
use Rattle.polling.specs.Serving.{Hall, hall, Terms, gone_with, IsGiven, IsNumberFree, Occurs, Tells, Stirs, Puts_off, Again, Begin}
use Rattle.polling.specs.Seating.{with_talk, AreSame, HadNone, held, Held, HoldsHall, LeadsAll, LeadsOwed, ServesAll, ServesOwed, ServesEach}
use Rattle.polling.proofs.OneLemmas.{once, serves_on, replies_both, with_talk-own, with_talk-other}
use Rattle.polling.proofs.GoingLemmas.{unseated_closes}
use Rattle.clients.proofs.ClientLemmas.{at_other, by_client}
use Rattle.polling.proofs.StandLemmas.{AllStand, rested_ends, rested_kept, one_stands, one_stands_on, told_stand}
use Rattle.polling.proofs.StandLemmas.{owes_still, owes_none, owes_less, owes_then, owes_beside, owes_fewer, owes_nobody, owes_told, keeps_still, keeps_one, keeps_then, keeps_for, keeps_told}

-- a client's talk, put where it is
with_talk-same :
    (client : ℕ) (talk : Talk) (talks : ℕ → Talk) → talks client ≡ talk →
    (each : ℕ) → with_talk client talk talks each ≡ talks each
with_talk-same client talk talks is =
    by_client (λ each. with_talk client talk talks each ≡ talks each) client
    (with_talk-own client talk talks ∙ sym is)
    (λ other differ. with_talk-other client other talk talks differ)

pub gone_with-other :
    (client other : ℕ) (gone : ℕ → Bool) → other ≢ client → gone_with client gone other ≡ gone other
gone_with-other client other gone differ = at_other client other true gone differ

-- in a seat in which nobody is there is no talk
pub free_seat : (seat : Option Talk) → ((talk : Talk) → seat ≡ Some talk → ⊥) → seat ≡ None
free_seat None nobody = refl
free_seat (Some talk) nobody = absurd (nobody talk refl)

pub used : (client next other : ℕ) → client < next → next ≤ other → other ≢ client
used client next other below beyond same = absurd (omega arith)

module _ {S C P : Type 0} where
  -- a hall, by what is held of it
  pub same_hall :
      (ledgers : S) (moments : C) (peers : P) (client : ℕ) (talk : Talk) (all : Hall S C P) →
      all.room.ledgers ≡ ledgers → all.room.moments ≡ moments → all.peers ≡ peers →
      all.room.talks client ≡ talk →
      hall ledgers moments peers (with_talk client talk all.room.talks) all.gone all.stands ≡ all
  same_hall ledgers moments peers client talk all ledgers_are moments_are peers_are talk_is =
      ap
      (λ (l : S). hall l moments peers (with_talk client talk all.room.talks) all.gone all.stands)
      (sym ledgers_are)
      ∙ ap
      (λ (m : C). hall all.room.ledgers m peers (with_talk client talk all.room.talks) all.gone all.stands)
      (sym moments_are)
      ∙ ap
      (λ (p : P).
      hall all.room.ledgers all.room.moments p (with_talk client talk all.room.talks) all.gone all.stands)
      (sym peers_are)
      ∙ ap
      (λ (t : ℕ → Talk). hall all.room.ledgers all.room.moments all.peers t all.gone all.stands)
      (fun_ext (with_talk-same client talk all.room.talks talk_is))

  -- from a hall on, one after the other
  pub leads_on :
      (r : Terms S C P) (first : Hall S C P) (mid new : Held S C P) (before behind all : ℕ) →
      before + behind ≡ all → (did : LeadsAll r first mid before) → LeadsAll r did.1 new behind →
      LeadsAll r first new all
  leads_on r first mid new before behind all sum did does = (
    did.0 ++ does.0,
    does.1,
    serves_on r first did.1 does.1 did.0 does.0 did.2 does.2,
    does.3,
    replies_both did.0 does.0 before behind all did.4 does.4 sum,
  )

  -- so too, whatever is owed
  abbrev pub leads_all :
      (r : Terms S C P) (why : Type 0) (from to : List Owing) (first : Hall S C P) (new : Held S C P)
      (replies : ℕ) → LeadsOwed r why from to first new replies → LeadsAll r first new replies
  leads_all r why from to first new replies did =
      (did.deeds, did.last, did.leads, did.keeps, did.count)

  pub owed_on :
      (r : Terms S C P) (why : Type 0) (from mid_owed to : List Owing) (first : Hall S C P)
      (mid new : Held S C P) (before behind all : ℕ) → before + behind ≡ all →
      (did : LeadsOwed r why from mid_owed first mid before) →
      LeadsOwed r why mid_owed to did.last new behind → LeadsOwed r why from to first new all
  owed_on r why from mid_owed to first mid new before behind all sum did does = record {
    deeds = did.deeds ++ does.deeds;
    last = does.last;
    leads = serves_on r first did.last does.last did.deeds does.deeds did.leads does.leads;
    keeps = does.keeps;
    count = replies_both did.deeds does.deeds before behind all did.count does.count sum;
    owes = owes_then from mid_owed to first.stands did.last.stands does.last.stands did.owes does.owes;
    spares = keeps_then why first.stands did.last.stands does.last.stands did.spares does.spares;
  }

  -- where other things are owed, and for another reason
  pub owed_as :
      (r : Terms S C P) (why all : Type 0) (from to from_all to_all : List Owing)
      (first : Hall S C P) (new : Held S C P) (replies : ℕ) →
      ((before behind : ℕ → Standing) → OwesOnly from to before behind →
      OwesOnly from_all to_all before behind) →
      (why → all) → LeadsOwed r why from to first new replies →
      LeadsOwed r all from_all to_all first new replies
  owed_as r why all from to from_all to_all first new replies owes for did = record {
    deeds = did.deeds;
    last = did.last;
    leads = did.leads;
    keeps = did.keeps;
    count = did.count;
    owes = owes first.stands did.last.stands did.owes;
    spares = keeps_for why all first.stands did.last.stands for did.spares;
  }

  -- from any hall, one after the other
  pub then_all :
      (r : Terms S C P) (old mid new : Held S C P) (before behind all : ℕ) → before + behind ≡ all →
      ServesAll r old mid before → ServesAll r mid new behind → ServesAll r old new all
  then_all r old mid new before behind all sum first_part second_part first keeps =
      let did = first_part first keeps in
      leads_on r first mid new before behind all sum did (second_part did.1 did.3)

  pub serves_all :
      {r : Terms S C P} {why : Type 0} {from to : List Owing} {old new : Held S C P} {replies : ℕ} →
      ServesOwed r why from to old new replies → ServesAll r old new replies
  serves_all {r} {why} {from} {to} {new} {replies} serves first keeps =
      leads_all r why from to first new replies (serves first keeps)

  pub then_owed :
      {r : Terms S C P} {why : Type 0} {from mid_owed to : List Owing} {old mid new : Held S C P}
      {before behind all : ℕ} → ServesOwed r why from mid_owed old mid before →
      ServesOwed r why mid_owed to mid new behind → before + behind ≡ all →
      ServesOwed r why from to old new all
  then_owed {r} {why} {from} {mid_owed} {to} {mid} {new} {before} {behind} {all} first_part
      second_part sum first keeps =
      let did = first_part first keeps in
      owed_on r why from mid_owed to first mid new before behind all sum did
      (second_part did.last did.keeps)

  pub then_each :
      (r : Terms S C P) (old mid new : Held S C P) (before behind all : ℕ) → before + behind ≡ all →
      ServesEach r old mid before → ServesEach r mid new behind → ServesEach r old new all
  then_each r old mid new before behind all sum first_part second_part =
      then_owed first_part second_part sum

  -- for another reason
  pub owed_for :
      {r : Terms S C P} {why all : Type 0} {from to : List Owing} {old new : Held S C P}
      {replies : ℕ} → ServesOwed r why from to old new replies → (why → all) →
      ServesOwed r all from to old new replies
  owed_for {r} {why} {all} {from} {to} {new} {replies} serves for first keeps =
      owed_as r why all from to from to first new replies (λ before behind owes. owes) for
      (serves first keeps)

  -- whatever else is owed
  pub beside :
      {r : Terms S C P} {why : Type 0} {from to : List Owing} {old new : Held S C P} {replies : ℕ}
      (others : List Owing) → ServesOwed r why from to old new replies →
      ServesOwed r why (from ++ others) (to ++ others) old new replies
  beside {r} {why} {from} {to} {new} {replies} others serves first keeps =
      owed_as r why why from to (from ++ others) (to ++ others) first new replies
      (owes_beside from to others) (λ is. is) (serves first keeps)

  -- where the same clients are owed their turns
  pub turns_as :
      {r : Terms S C P} {why : Type 0} {from : List Owing} {clients others : List ℕ}
      {old new : Held S C P} {replies : ℕ} → clients ≡ others →
      ServesOwed r why from (turns_of clients) old new replies →
      ServesOwed r why from (turns_of others) old new replies
  turns_as {r} {why} {from} {old} {new} {replies} same serves =
      subst (λ (left : List ℕ). ServesOwed r why from (turns_of left) old new replies) same serves

  -- so too, where they were
  pub turns_were :
      {r : Terms S C P} {why : Type 0} {to : List Owing} {clients others : List ℕ}
      {old new : Held S C P} {replies : ℕ} → clients ≡ others →
      ServesOwed r why (turns_of clients) to old new replies →
      ServesOwed r why (turns_of others) to old new replies
  turns_were {r} {why} {to} {old} {new} {replies} same serves =
      subst (λ (was : List ℕ). ServesOwed r why (turns_of was) to old new replies) same serves

  -- where less is asked
  pub each_of :
      (r : Terms S C P) (from : List Owing) (old new : Held S C P) (replies : ℕ) →
      ServesOwed r ⊥ from [] old new replies → ServesEach r old new replies
  each_of r from old new replies serves first keeps =
      owed_as r ⊥ ⊥ from [] [] [] first new replies (owes_fewer from) (λ is. is) (serves first keeps)

  -- nothing is done
  pub none_owed :
      {r : Terms S C P} {why : Type 0} {from to : List Owing} {old : Held S C P} →
      AreSomeOf from to → ServesOwed r why from to old old 0
  none_owed {why} {from} {to} among first keeps = record {
    deeds = [];
    last = first;
    leads = Begin;
    keeps = keeps;
    count = refl;
    owes = owes_still from to first.stands among;
    spares = keeps_still why first.stands;
  }

  pub none_served : {r : Terms S C P} {old : Held S C P} → ServesEach r old old 0
  none_served = none_owed (λ one found. found)

  pub nothing_done : {r : Terms S C P} {old : Held S C P} → ServesAll r old old 0
  nothing_done {r} {old} = serves_all (none_served {r = r} {old = old})

  -- every seat is as it was
  pub unchanged :
      {r : Terms S C P} {why : Type 0} {from to : List Owing} {ledgers : S} {moments : C} {peers : P}
      {seats seats_now : ℕ → Option Talk} {next : ℕ} → AreSame seats seats_now → AreSomeOf from to →
      ServesOwed r why from to (held ledgers moments peers seats next)
      (held ledgers moments peers seats_now next) 0
  unchanged {r} {why} {from} {to} {ledgers} {moments} {peers} {seats} {seats_now} {next} same among =
      subst
      (λ (now : ℕ → Option Talk).
      ServesOwed r why from to (held ledgers moments peers seats next)
      (held ledgers moments peers now next) 0)
      (sym (fun_ext same)) (none_owed among)

  -- nobody is in a seat
  pub had_none :
      (r : Terms S C P) (debt : Debt) (client : ℕ) (ledgers ledgers_now : S) (moments moments_now : C)
      (peers peers_now : P) (seats seats_now : ℕ → Option Talk) (next : ℕ) → debt ≢ A_seat →
      HadNone client ledgers moments peers seats ledgers_now moments_now peers_now seats_now →
      ServesOwed r ⊥ (owing debt client ∷ []) [] (held ledgers moments peers seats next)
      (held ledgers_now moments_now peers_now seats_now next) 0
  had_none r debt client ledgers ledgers_now moments moments_now peers peers_now seats seats_now next
      other same first keeps = record {
        deeds = [];
        last = first;
        leads = Begin;
        keeps =
            record {
              ledgers = keeps.ledgers ∙ sym same.ledgers_same;
              moments = keeps.moments ∙ sym same.moments_same;
              peers = keeps.peers ∙ sym same.peers_same;
              seated = λ client talk is. keeps.seated client talk (sym (same.seats_same client) ∙ is);
              there = λ client talk is. keeps.there client talk (sym (same.seats_same client) ∙ is);
              below = λ client talk is. keeps.below client talk (sym (same.seats_same client) ∙ is);
              unused = keeps.unused;
              not_gone = keeps.not_gone;
              stands = λ client.
                  subst (λ (seat : Option Talk). StandsIn seat (first.stands client))
                  (sym (same.seats_same client)) (keeps.stands client);
            };
        count = refl;
        owes =
            owes_nobody debt first.stands client other
            (sym (keeps.stands client) ∙ ap (λ (seat : Option Talk). is_some seat) same.nobody);
        spares = keeps_still ⊥ first.stands;
      }

  -- whoever is connected, and however they stand
  pub keeps_peers :
      (old : Held S C P) (all : Hall S C P) (peers : P) (stands : ℕ → Standing) →
      AllStand old.seats stands → HoldsHall old all →
      HoldsHall (record old { peers = peers }) (record all { peers = peers; stands = stands })
  keeps_peers old all peers stands are keeps = record {
    ledgers = keeps.ledgers;
    moments = keeps.moments;
    peers = refl;
    seated = keeps.seated;
    there = keeps.there;
    below = keeps.below;
    unused = keeps.unused;
    not_gone = keeps.not_gone;
    stands = are;
  }

  -- something happens among peers alone
  among_peers :
      (r : Terms S C P) (why : Type 0) (from to : List Owing) (behind : (ℕ → Standing) → ℕ → Standing)
      (ledgers : S) (moments : C) (peers peers_now : P) (seats : ℕ → Option Talk) (next : ℕ) →
      ((all : Hall S C P) → HoldsHall (held ledgers moments peers seats next) all →
      Occurs S C P r all [] (record all { peers = peers_now; stands = behind all.stands })) →
      ((stands : ℕ → Standing) → AllStand seats stands → AllStand seats (behind stands)) →
      ((stands : ℕ → Standing) → OwesOnly from to stands (behind stands)) →
      ((stands : ℕ → Standing) → KeepsOnly why stands (behind stands)) →
      ServesOwed r why from to (held ledgers moments peers seats next)
      (held ledgers moments peers_now seats next) 0
  among_peers r why from to behind ledgers moments peers peers_now seats next happens stand owes spares
      first keeps =
      let stands = behind first.stands in
      let after = record first { peers = peers_now; stands = stands } in record {
        deeds = [];
        last = after;
        leads = once r first after [] (happens first keeps);
        keeps =
            keeps_peers (held ledgers moments peers seats next) first peers_now stands
            (stand first.stands keeps.stands) keeps;
        count = refl;
        owes = owes first.stands;
        spares = spares first.stands;
      }

  -- a client is put off, and is to be told as ready again
  pub puts_off_all :
      {r : Terms S C P} {client : ℕ} {talk : Talk} {ledgers : S} {moments : C} {peers peers_now : P}
      {seats : ℕ → Option Talk} {next : ℕ} → seats client ≡ Some talk → IsPutOff r.waits talk →
      r.does peers (Asked client) peers_now →
      ServesOwed r ⊥ (owing A_turn client ∷ []) [] (held ledgers moments peers seats next)
      (held ledgers moments peers_now seats next) 0
  puts_off_all {r} {client} {talk} {ledgers} {moments} {peers} {peers_now} {seats} {next} seated is
      does =
      among_peers r ⊥ (owing A_turn client ∷ []) []
      (λ stands. with_standing client (rested (stands client)) stands) ledgers moments peers peers_now
      seats next
      (λ all keeps.
      Puts_off client peers_now
      (subst (λ (t : Talk). IsPutOff r.waits t) (sym (keeps.seated client talk seated)) is)
      (subst (λ (p : P). r.does p (Asked client) peers_now) (sym keeps.peers) does))
      (λ stands.
      one_stands_on seats stands client (rested (stands client)) (rested_ends (stands client)).seat)
      (λ stands.
      let ends = rested_ends (stands client) in
      owes_less A_turn client (rested (stands client)) stands ends.unowed ends.owed)
      (λ stands.
      keeps_one ⊥ client (rested (stands client)) stands
      (λ kept. absurd (rested_kept (stands client) kept)))

  -- a client that has no seat is closed
  pub closes_all :
      (r : Terms S C P) (debt : Debt) (client : ℕ) (ledgers : S) (moments : C) (peers peers_now : P)
      (seats : ℕ → Option Talk) (next : ℕ) → seats client ≡ None →
      r.does peers (Closed client) peers_now →
      ServesOwed r ⊥ (owing debt client ∷ []) [] (held ledgers moments peers seats next)
      (held ledgers moments peers_now seats next) 0
  closes_all r debt client ledgers moments peers peers_now seats next nobody does =
      among_peers r ⊥ (owing debt client ∷ []) [] (λ stands. with_standing client Away stands) ledgers
      moments peers peers_now seats next
      (λ all keeps.
      Stirs (Closed client) peers_now
      (unseated_closes (all.stands client)
      (sym (keeps.stands client) ∙ ap (λ (seat : Option Talk). is_some seat) nobody))
      (subst (λ (p : P). r.does p (Closed client) peers_now) (sym keeps.peers) does))
      (λ stands stand.
      one_stands seats stands client Away
      (subst (λ (seat : Option Talk). StandsIn seat Away) (sym nobody) refl)
      (λ other differ. stand other))
      (λ stands. owes_none debt client Away stands (λ each owed. owed))
      (λ stands. keeps_one ⊥ client Away stands (λ (kept : Away ≡ Kept). cc))

  -- the next number is nobody's
  pub next_free :
      (old : Held S C P) (all : Hall S C P) → HoldsHall old all → IsNumberFree all old.next
  next_free old all keeps = record {
    nobody =
        sym (keeps.stands old.next)
        ∙ ap (λ (seat : Option Talk). is_some seat) (free_seat (old.seats old.next)
        (λ talk is. let below : old.next < old.next = keeps.below old.next talk is in omega arith));
    there = keeps.not_gone old.next (let same : old.next ≤ old.next = omega arith in same);
    silent = keeps.unused old.next (let same : old.next ≤ old.next = omega arith in same);
  }

  -- peers tell something
  pub tells_owed :
      {r : Terms S C P} {why : Type 0} {debts : List Owing} {ledgers : S} {moments : C}
      {peers peers_now : P} {seats : ℕ → Option Talk} {next : ℕ} (told : Told) →
      r.does peers (Said next told) peers_now →
      ServesOwed r why debts (told_of next told ++ debts) (held ledgers moments peers seats next)
      (held ledgers moments peers_now seats next) 0
  tells_owed {r} {why} {debts} {ledgers} {moments} {peers} {peers_now} {seats} {next} told does =
      among_peers r why debts (told_of next told ++ debts) (stands_behind (Said next told)) ledgers
      moments peers peers_now seats next
      (λ all keeps.
      Tells next told peers_now (next_free (held ledgers moments peers seats next) all keeps)
      (subst (λ (p : P). r.does p (Said next told) peers_now) (sym keeps.peers) does))
      (told_stand next told seats) (owes_told next told debts) (keeps_told why next told)

  pub tells_all :
      (r : Terms S C P) (ledgers : S) (moments : C) (peers peers_now : P)
      (seats : ℕ → Option Talk) (next : ℕ) (told : Told) → r.does peers (Said next told) peers_now →
      ServesAll r (held ledgers moments peers seats next) (held ledgers moments peers_now seats next) 0
  tells_all r ledgers moments peers peers_now seats next told does =
      serves_all (tells_owed {why = ⊥} {debts = []} told does)

  -- other ledgers are held, or what gives the moments is another, and however all stand
  pub keeps_room :
      (old : Held S C P) (all : Hall S C P) (room : Room S C) (stands : ℕ → Standing) (ledgers : S)
      (moments : C) → room.ledgers ≡ ledgers → room.moments ≡ moments →
      room.talks ≡ all.room.talks → AllStand old.seats stands → HoldsHall old all →
      HoldsHall (record old { ledgers = ledgers; moments = moments })
      (record all { room = room; stands = stands })
  keeps_room old all room stands ledgers moments ledgers_are moments_are talks_are are keeps = record {
    ledgers = ledgers_are;
    moments = moments_are;
    peers = keeps.peers;
    seated = λ client talk is.
        ap (λ (talks : ℕ → Talk). talks client) talks_are ∙ keeps.seated client talk is;
    there = keeps.there;
    below = keeps.below;
    unused = λ client beyond.
        ap (λ (talks : ℕ → Talk). talks client) talks_are ∙ keeps.unused client beyond;
    not_gone = keeps.not_gone;
    stands = are;
  }

  -- something happens that is no client's
  pub apart :
      (r : Terms S C P) (old new : Held S C P) (room : Room S C → Room S C) →
      ((all : Hall S C P) → HoldsHall old all →
      Occurs S C P r all [] (record all { room = room all.room })
      × HoldsHall new (record all { room = room all.room })) →
      ServesEach r old new 0
  apart r old new room happens first keeps =
      let after = record first { room = room first.room } in
      let does = happens first keeps in record {
        deeds = [];
        last = after;
        leads = once r first after [] does.0;
        keeps = does.1;
        count = refl;
        owes = owes_still [] [] first.stands (λ one found. found);
        spares = keeps_still ⊥ first.stands;
      }

  -- so other ledgers are held
  pub other_ledgers :
      (r : Terms S C P) (old : Held S C P) (ledgers : S) →
      ((all : Hall S C P) → all.room.ledgers ≡ old.ledgers →
      Occurs S C P r all [] (record all { room = record all.room { ledgers = ledgers } })) →
      ServesEach r old (record old { ledgers = ledgers }) 0
  other_ledgers r old ledgers happens =
      apart r old (record old { ledgers = ledgers })
      (λ (room : Room S C). record room { ledgers = ledgers })
      (λ all keeps. (
        happens all keeps.ledgers,
        keeps_room old all (record all.room { ledgers = ledgers }) all.stands ledgers old.moments refl
            keeps.moments refl keeps.stands keeps,
      ))

  -- a steward has attended to the ledgers
  pub again_all :
      {r : Terms S C P} {ledgers ledgers_now : S} {moments moments_now : C} {peers : P}
      {seats : ℕ → Option Talk} {next : ℕ} (given : Option ℕ) →
      IsGiven r.gives moments given moments_now → r.renews given ledgers ledgers_now →
      ServesEach r (held ledgers moments peers seats next)
      (held ledgers_now moments_now peers seats next) 0
  again_all {r} {ledgers} {ledgers_now} {moments} {moments_now} {peers} {seats} {next} given asked renews =
      let old = held ledgers moments peers seats next in
      apart r old (held ledgers_now moments_now peers seats next)
      (λ (room : Room S C). record room { ledgers = ledgers_now; moments = moments_now })
      (λ all keeps. (
        Again ledgers_now moments_now given
            (subst (λ (m : C). IsGiven r.gives m given moments_now) (sym keeps.moments) asked)
            (subst (λ (l : S). r.renews given l ledgers_now) (sym keeps.ledgers) renews),
        keeps_room old all (record all.room { ledgers = ledgers_now; moments = moments_now })
            all.stands ledgers_now moments_now refl refl refl keeps.stands keeps,
      ))

  -- a number is passed over
  pub passed_over :
      (r : Terms S C P) (ledgers : S) (moments : C) (peers : P) (seats seats_now : ℕ → Option Talk)
      (next : ℕ) → ((client : ℕ) → seats_now client ≡ seats client) →
      ServesEach r (held ledgers moments peers seats next)
      (held ledgers moments peers seats_now (next + 1)) 0
  passed_over r ledgers moments peers seats seats_now next same first keeps = record {
    deeds = [];
    last = first;
    leads = Begin;
    keeps =
        record {
          ledgers = keeps.ledgers;
          moments = keeps.moments;
          peers = keeps.peers;
          seated = λ client talk is. keeps.seated client talk (sym (same client) ∙ is);
          there = λ client talk is. keeps.there client talk (sym (same client) ∙ is);
          below =
              λ client talk is.
              let before : client < next = keeps.below client talk (sym (same client) ∙ is) in omega arith;
          unused = λ client (beyond : next + 1 ≤ client). keeps.unused client (omega arith);
          not_gone = λ client (beyond : next + 1 ≤ client). keeps.not_gone client (omega arith);
          stands = λ client.
              subst (λ (seat : Option Talk). StandsIn seat (first.stands client)) (sym (same client))
              (keeps.stands client);
        };
    count = refl;
    owes = owes_still [] [] first.stands (λ one found. found);
    spares = keeps_still ⊥ first.stands;
  }
