-- What happened to a tenant at moments that do not fall.
use Rattle.std.proofs.Common.{◌≡◌, ◌≤◌, refl, ℕ, Bool, true, false, List, [], ◌∷◌, ◌++◌, bytes_eq, Option, Result, Ok, Err, if◌then◌else◌, arith}
use Rattle.records.specs.Machine.{Machine}
use Rattle.wire.specs.declared.outcome.Outcome.{Outcome}
use Rattle.wire.specs.declared.request.Request.{Request}
use Rattle.wire.specs.declared.request.Request.TheVariants as asks
use Rattle.engine.specs.Settling.{SettlesFirst}
use Rattle.records.specs.Step.{account_rules, transfer_rules}
use Rattle.service.specs.Deeds.{Asked, Joined, Keyed, after_deed, digest_after, tenant_of}
use Rattle.service.specs.OwnDeeds.{Happening, Told, Untold, deed_of, own_among, after_all}
use Rattle.commands.specs.Unsettled.{is_batch, is_settlement, without_settlements}
use Rattle.commands.proofs.SettledLemmas.{AreSettledTo, both_later, both_settled, both_done}

-- something happened while this moment was given last, and upto that one: a batch is of a moment in
-- between, and a settlement of none that is later
abbrev pub IsInTime : ℕ → ℕ → Happening → Type 0
IsInTime now upto happening =
    (digest : List ℕ) (meaning : Result Request Outcome) (moment : ℕ) →
    deed_of happening ≡ Asked digest meaning moment → is_batch meaning ≡ true →
    (moment ≤ upto) × (is_settlement happening ≡ false → now ≤ moment)

abbrev pub InTime : ℕ → List Happening → ℕ → Type 0
InTime from [] to = from ≤ to
InTime from (happening ∷ more) to =
    (given : ℕ) × (from ≤ given) × IsInTime from given happening × InTime given more to

in_time_later :
    (from mid to : ℕ) (happenings : List Happening) → from ≤ mid → InTime mid happenings to →
    InTime from happenings to
in_time_later from mid to [] le rest = omega arith
in_time_later from mid to (happening ∷ more) le rest =
    let begun = rest.1 in (
      rest.0,
      omega arith,
      λ digest meaning moment is batch.
          let at = rest.2 digest meaning moment is batch in
          (at.0, λ told. let late = at.1 told in omega arith),
      rest.3,
    )

pub in_time_on :
    (from mid to : ℕ) (happenings more : List Happening) → InTime from happenings mid →
    InTime mid more to → InTime from (happenings ++ more) to
in_time_on from mid to [] more first second = in_time_later from mid to more first second
in_time_on from mid to (happening ∷ happenings) more first second =
    (first.0, first.1, first.2, in_time_on first.0 mid to happenings more first.3 second)

-- what happened to one tenant of all
own_one :
    (own : Bool) (from to given : ℕ) (happening : Happening) (rest : List Happening) →
    from ≤ given → IsInTime from given happening → InTime given rest to →
    InTime from ((if own then happening ∷ [] else []) ++ rest) to
own_one true from to given happening rest le is later = (given, le, is, later)
own_one false from to given happening rest le is later = in_time_later from given to rest le later

pub own_in_time :
    (from to : ℕ) (digest : List ℕ) (happenings : List Happening) → InTime from happenings to →
    InTime from (own_among digest happenings) to
own_in_time from to digest [] all = all
own_in_time from to digest (happening ∷ more) all =
    own_one (bytes_eq (tenant_of (deed_of happening)) digest) from to all.0 happening
    (own_among (digest_after (deed_of happening) digest) more) all.1 all.2
    (own_in_time all.0 to (digest_after (deed_of happening) digest) more all.3)

-- what a tenant asks behind what happened to it, with the settlements and without them
settlement_done :
    (now upto : ℕ) → now ≤ upto → (happening : Happening) → is_settlement happening ≡ true →
    IsInTime now upto happening → (tenant with_them : Option Machine) →
    AreSettledTo now tenant with_them →
    AreSettledTo upto tenant (after_deed (deed_of happening) with_them)
settlement_done now upto le (Told deed text) is at tenant other settled = absurd (cc)
settlement_done now upto le (Untold (Joined digest)) is at tenant other settled = absurd (cc)
settlement_done now upto le (Untold (Keyed was key)) is at tenant other settled = absurd (cc)
settlement_done now upto le (Untold (Asked digest (Err refusal) moment)) is at tenant other settled =
    absurd (cc)
settlement_done now upto le (Untold (Asked digest (Ok (asks.Read asked)) moment)) is at tenant other
    settled =
    absurd (cc)
settlement_done now upto le (Untold (Asked digest (Ok (asks.Accounts events)) moment)) is at tenant
    other settled =
    absurd (cc)
settlement_done now upto le (Untold (Asked digest (Ok (asks.Transfers [])) moment)) is at tenant other
    settled =
    both_settled now upto moment le (at digest (Ok (asks.Transfers [])) moment refl refl).0 digest
    tenant other settled
settlement_done now upto le (Untold (Asked digest (Ok (asks.Transfers (event ∷ events))) moment)) is at
    tenant other settled =
    absurd (cc)

module _ (accounts : SettlesFirst account_rules) (transfers : SettlesFirst transfer_rules) where
  one_settled :
      (skipped : Bool) (now upto to : ℕ) → now ≤ upto → (happening : Happening)
      (more : List Happening) → is_settlement happening ≡ skipped → IsInTime now upto happening →
      ((tenant with_them : Option Machine) → AreSettledTo upto tenant with_them →
      AreSettledTo to (after_all tenant (without_settlements more)) (after_all with_them more)) →
      (tenant with_them : Option Machine) → AreSettledTo now tenant with_them →
      AreSettledTo to
      (after_all tenant
      (if skipped then without_settlements more else happening ∷ without_settlements more))
      (after_all (after_deed (deed_of happening) with_them) more)
  one_settled true now upto to le happening more is at rest tenant other settled =
      rest tenant (after_deed (deed_of happening) other)
      (settlement_done now upto le happening is at tenant other settled)
  one_settled false now upto to le happening more is at rest tenant other settled =
      rest (after_deed (deed_of happening) tenant) (after_deed (deed_of happening) other)
      (both_done accounts transfers now upto le (deed_of happening)
      (λ digest meaning moment asked batch.
      let within = at digest meaning moment asked batch in (within.1 is, within.0))
      tenant other settled)

  pub all_settled :
      (from to : ℕ) (owns : List Happening) → InTime from owns to →
      (tenant with_them : Option Machine) → AreSettledTo from tenant with_them →
      AreSettledTo to (after_all tenant (without_settlements owns)) (after_all with_them owns)
  all_settled from to [] all tenant other settled = both_later from to tenant other all settled
  all_settled from to (own ∷ owns) all tenant other settled =
      one_settled (is_settlement own) from all.0 to all.1 own owns refl all.2
      (λ t w s. all_settled all.0 to owns all.3 t w s) tenant other settled
