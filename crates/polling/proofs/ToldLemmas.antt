-- Serving behind what peers have just told.
use Rattle.std.proofs.Common.{◌≡◌, ◌+◌, refl, sym, subst, ℕ, List, [], ◌++◌, arith}
use Rattle.polling.specs.Peers.{Said}
use Rattle.polling.specs.Standing.{stands_behind, Owing, told_of, StandTold}
use Rattle.polling.specs.Serving.{Hall, Terms, Occurs, Tells}
use Rattle.polling.specs.Seating.{Held, HoldsHall, LeadsAll, LeadsOwed, ServesAll, ServesOwed, ServesTold}
use Rattle.polling.specs.declared.peers.Told.{Told}
use Rattle.polling.proofs.OneLemmas.{once}
use Rattle.polling.proofs.StandLemmas.{told_stand, owes_beside, owes_told, keeps_told}
use Rattle.polling.proofs.GoingLemmas.{stand_told}
use Rattle.polling.proofs.AllLemmas.{keeps_peers, leads_all, leads_on, next_free, owed_as, owed_on}

module _ {S C P : Type 0} where
  -- a hall behind a telling
  abbrev pub hall_told : ℕ → Told → P → Hall S C P → Hall S C P
  hall_told fresh told peers all =
      record all { peers = peers; stands = stands_behind (Said fresh told) all.stands }

  pub keeps_hall :
      (old : Held S C P) (told : Told) (peers : P) (all : Hall S C P) → HoldsHall old all →
      HoldsHall (record old { peers = peers }) (hall_told old.next told peers all)
  keeps_hall old told peers all keeps =
      keeps_peers old all peers (stands_behind (Said old.next told) all.stands)
      (told_stand old.next told old.seats all.stands keeps.stands) keeps

module _ {S C P : Type 0} {r : Terms S C P} where
  pub telling :
      (old : Held S C P) (told : Told) (peers : P) (all : Hall S C P) → HoldsHall old all →
      r.does old.peers (Said old.next told) peers →
      Occurs S C P r all [] (hall_told old.next told peers all)
  telling old told peers all keeps said =
      Tells old.next told peers (next_free old all keeps)
      (subst (λ (p : P). r.does p (Said old.next told) peers) (sym keeps.peers) said)

  -- so a telling leads on
  abbrev leads_told :
      (debts : List Owing) (old : Held S C P) (told : Told) (peers : P) (first : Hall S C P) →
      HoldsHall old first → r.does old.peers (Said old.next told) peers →
      LeadsOwed r ⊥ debts (told_of old.next told ++ debts) first (record old { peers = peers }) 0
  leads_told debts old told peers first keeps said = record {
    deeds = [];
    last = hall_told old.next told peers first;
    leads = once r first (hall_told old.next told peers first) [] (telling old told peers first keeps said);
    keeps = keeps_hall old told peers first keeps;
    count = refl;
    owes = owes_told old.next told debts first.stands;
    spares = keeps_told ⊥ old.next told first.stands;
  }

  -- peers tell something, and clients are served behind it
  pub told_all :
      (old new : Held S C P) (told : Told) (peers : P) (replies : ℕ) →
      r.does old.peers (Said old.next told) peers →
      ((first : Hall S C P) → HoldsHall (record old { peers = peers }) first →
      StandTold told first.stands → LeadsAll r first new replies) →
      ServesAll r old new replies
  told_all old new told peers replies said serves first keeps =
      leads_on r first (record old { peers = peers }) new 0 replies replies (omega arith)
      (leads_all r ⊥ [] (told_of old.next told ++ []) first (record old { peers = peers }) 0
      (leads_told [] old told peers first keeps said))
      (serves (hall_told old.next told peers first) (keeps_hall old told peers first keeps)
      (stand_told old.next told first.stands))

  pub told_owed :
      {debts to : List Owing} {old new : Held S C P} {peers : P} {replies : ℕ} (told : Told) →
      r.does old.peers (Said old.next told) peers →
      ServesTold r told (told_of old.next told ++ debts) to (record old { peers = peers }) new
      replies →
      ServesOwed r ⊥ debts to old new replies
  told_owed {debts} {to} {old} {new} {peers} {replies} told said serves first keeps =
      owed_on r ⊥ debts (told_of old.next told ++ debts) to first (record old { peers = peers }) new 0
      replies replies (omega arith) (leads_told debts old told peers first keeps said)
      (serves (hall_told old.next told peers first) (keeps_hall old told peers first keeps)
      (stand_told old.next told first.stands))

  -- whatever peers have told
  pub as_told :
      {from to : List Owing} {old new : Held S C P} {replies : ℕ} (told : Told) →
      ServesOwed r ⊥ from to old new replies → ServesTold r told from to old new replies
  as_told told serves first keeps stand = serves first keeps

  -- whatever else is owed
  pub told_beside :
      {from to : List Owing} {old new : Held S C P} {replies : ℕ} (told : Told)
      (others : List Owing) → ServesTold r told from to old new replies →
      ServesTold r told (from ++ others) (to ++ others) old new replies
  told_beside {from} {to} {new} {replies} told others serves first keeps stand =
      owed_as r ⊥ ⊥ from to (from ++ others) (to ++ others) first new replies
      (owes_beside from to others) (λ never. never) (serves first keeps stand)

  -- more is done behind it
  pub told_then :
      {from to : List Owing} {old mid new : Held S C P} {before behind all : ℕ} (told : Told) →
      ServesTold r told from to old mid before → ServesAll r mid new behind →
      before + behind ≡ all → (first : Hall S C P) → HoldsHall old first →
      StandTold told first.stands → LeadsAll r first new all
  told_then {from} {to} {mid} {new} {before} {behind} {all} told serves more sum first keeps stand =
      let did = leads_all r ⊥ from to first mid before (serves first keeps stand) in
      leads_on r first mid new before behind all sum did (more did.1 did.3)
