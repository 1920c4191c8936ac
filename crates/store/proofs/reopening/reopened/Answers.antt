use Rattle.std.proofs.Common.{inl, refl, subst, sym, rules}
use Rattle.records.specs.declared.unavailable.Unavailable.TheVariants.{Disk}
use Rattle.audit.specs.declared.damage.Damage.{Damage}
use Rattle.sqlite.specs.Files.{image_of}
use Rattle.openings.specs.Damage.{IsDamagedIn, Hold}
use Rattle.store.specs.Stores.{MayHold}
use Rattle.store.specs.Stores.{IsHonestAt, IsOpenedAt}
use Rattle.openings.specs.DamageLaws.{held_damage, if_damaged_more}
use Rattle.openings.specs.RefusedLaws.{files_stay}
use Rattle.store.proofs.ReopenLemmas.{finds_again, held_again, keeps_left, keeps_same}
use Rattle.store.proofs.reopening.reopened.Goals as goal

pub returns-in-Ok : goal.returns-in-Ok
returns-in-Ok g c = record {
  usable = search rules;
  ready = search rules;
  found = λ honest.
      let clean = subst (λ place. IsHonestAt {g = g.D.Disk} place) c.over.ensures.over honest in
      finds_again g.D.Disk g.met.D.Disk.seen_may_stay c.close-files.result (c.in-Ok.ensures.opened.honest clean)
      c.args.store.place c.over.result.place c.close-files.ensures.back
      (subst (λ place. IsOpenedAt {g = g.D.Disk} (image_of g.D.Disk c.close-files.result) place)
      (sym c.over.ensures.over) (c.in-Ok.ensures.opened.opened clean));
  honest = λ honest.
      c.close-files.ensures.honest (c.in-Ok.ensures.opened.honest
      (subst (λ place. IsHonestAt {g = g.D.Disk} place) c.over.ensures.over honest));
  damaged = search rules;
  left = search rules;
  refused = search rules;
  shut = search rules;
}

pub returns-in-Err : goal.returns-in-Err
returns-in-Err g c = record {
  usable = search rules;
  ready = search rules;
  found = search rules;
  honest = search rules;
  damaged = λ honest.
      if_damaged_more c.in-Err.refused.fault (λ (damage : Damage). Hold g.D.Disk c.close-files.result (IsDamagedIn 3 damage))
      (λ (damage : Damage). MayHold c.args.store (IsDamagedIn 3 damage))
      (λ damage held. held_again g.D.Disk g.met.D.Disk.seen_may_stay c.close-files.result held.honest
      c.args.store.place (IsDamagedIn 3 damage) c.close-files.ensures.back held)
      (let clean = subst (λ place. IsHonestAt {g = g.D.Disk} place) c.unopened-in-Err.ensures.place honest in
      held_damage g.D.Disk c.close-files.result c.in-Err.left c.in-Err.refused.fault clean (c.in-Err.ensures.refused.told clean)
      (files_stay g.D.Disk c.close-files.result c.in-Err.refused c.in-Err.left c.in-Err.ensures.refused.left));
  left = record {
    stand = λ is. keeps_left g.D.Disk g.met.D.Disk.seen_may_stay c.args.store c.unopened-in-Err.result
        c.close-files.result c.in-Err.left c.close-files.ensures.back c.close-files.ensures.honest
        c.unopened-in-Err.ensures.place (c.in-Err.ensures.refused.left.stand is);
    unopened = λ is. record {
      files = c.close-files.result;
      back = c.close-files.ensures.back;
      left = c.in-Err.left;
      place = c.unopened-in-Err.ensures.place;
      unopened = c.in-Err.ensures.refused.left.unopened is;
    };
    of_ledger = c.in-Err.ensures.refused.left.of_ledger;
    cause = record {
      files = c.close-files.result;
      back = c.close-files.ensures.back;
      left = c.in-Err.left;
      place = c.unopened-in-Err.ensures.place;
      told = c.in-Err.ensures.refused.told;
    };
  };
  refused = search rules;
  shut = search rules;
}

-- files that may not be used are kept as they are
pub returns-then-not-may_be_used : goal.returns-then-not-may_be_used
returns-then-not-may_be_used g c = record {
  usable = search rules;
  ready = search rules;
  found = search rules;
  honest = search rules;
  damaged = search rules;
  left = record {
    stand = λ is. keeps_same g.D.Disk c.args.store c.unopened.result c.close-files.result
        c.close-files.ensures.back c.close-files.ensures.honest c.unopened.ensures.place;
    unopened = λ is. absurd (cc);
    of_ledger = λ is. absurd is;
    cause = record {
      files = c.close-files.result;
      back = c.close-files.ensures.back;
      left = c.close-files.result;
      place = c.unopened.ensures.place;
      told = λ clean. inl (inl (Disk, refl));
    };
  };
  refused = search rules;
  shut = search rules;
}
