-- What one tenant sees of a course, under each of its digests in turn: its own deeds, and what it is
-- told.
use Rattle.std.specs.Prelude.{◌≡◌, ℕ, List, [], ◌∷◌, ◌++◌, map, bytes_eq, Option}
use Rattle.std.specs.Prelude.{if◌then◌else◌}
use Rattle.std.specs.List.{flat_map}
use Rattle.records.specs.Machine.{Machine}
use Rattle.chain.specs.Ledgers.{Tenants}
use Rattle.ledger_http.specs.ReplyText.{reply_text}
use Rattle.service.specs.Deeds.{Deed, deeds_in, tenant_of, digest_after, after_deed}
use Rattle.service.specs.Deeds.{reply_to_deed}
use Rattle.service.specs.Courses.{Done, Declined, Unavailable, is_unavailable}
use Rattle.service.specs.Courses.{Event, Replied, Tried, Reopened, Course}

-- what happened to a tenant: a deed, and the reply that was told of it, or none
pub data Happening : Type 0 where
  Told : Deed → List ℕ → Happening
  Untold : Deed → Happening

abbrev pub deed_of : Happening → Deed
deed_of (Told deed text) = deed
deed_of (Untold deed) = deed

-- what happened at an event: what was answered, what was done, and what was found done. All else
-- that was answered `unavailable` counts as never asked.
abbrev pub happenings_in : Event → List Happening
happenings_in (Replied asked moment reply) =
    if is_unavailable reply then [] else
    map (λ deed. Told deed (reply_text reply)) (deeds_in asked moment)
happenings_in (Tried deed Done) = Untold deed ∷ []
happenings_in (Tried deed Declined) = []
happenings_in (Tried deed Unavailable) = []
happenings_in (Reopened deeds) = map Untold deeds

-- it, if it happened to the tenant with this digest
abbrev pub if_own : List ℕ → Happening → List Happening
if_own digest happening =
    if bytes_eq (tenant_of (deed_of happening)) digest then happening ∷ [] else []

-- those that happened to whoever had this digest before them, under the digest that it had by then
abbrev pub own_among : List ℕ → List Happening → List Happening
own_among digest [] = []
own_among digest (happening ∷ more) =
    if_own digest happening ++ own_among (digest_after (deed_of happening) digest) more

-- and the digest that it has behind them
abbrev pub digest_behind : List ℕ → List Happening → List ℕ
digest_behind digest [] = digest
digest_behind digest (happening ∷ more) =
    digest_behind (digest_after (deed_of happening) digest) more

-- all that happened in these events to whoever had this digest before them
abbrev pub own_happenings : List ℕ → List Event → List Happening
own_happenings digest events = own_among digest (flat_map happenings_in events)

-- and the digest that it has since then
abbrev pub digest_since : List ℕ → List Event → List ℕ
digest_since digest events = digest_behind digest (flat_map happenings_in events)

-- the replies that it got
abbrev pub replies_in : Happening → List (List ℕ)
replies_in (Told deed text) = text ∷ []
replies_in (Untold deed) = []

abbrev pub replies_to : List ℕ → List Event → List (List ℕ)
replies_to digest events = flat_map replies_in (own_happenings digest events)

-- a tenant's machine after all that happened to it
abbrev pub after_all : Option Machine → List Happening → Option Machine
after_all tenant [] = tenant
after_all tenant (happening ∷ more) = after_all (after_deed (deed_of happening) tenant) more

-- what its machine gives as a reply to what is told, and to all of it in turn
abbrev pub told_of : Happening → Option Machine → List (List ℕ)
told_of (Told deed text) tenant = reply_to_deed deed tenant
told_of (Untold deed) tenant = []

abbrev pub told_in_turn : Option Machine → List Happening → List (List ℕ)
told_in_turn tenant [] = []
told_in_turn tenant (happening ∷ more) =
    told_of happening tenant ++ told_in_turn (after_deed (deed_of happening) tenant) more

-- the replies to a tenant and its machine afterwards, under the digest that it has then, are those of
-- its own deeds alone
pub record SeesItself (old : Tenants) (events : List Event) (new : Tenants) (digest : List ℕ) :
    Type 0 where
  pub told : replies_to digest events ≡ told_in_turn (old digest) (own_happenings digest events)
  pub left :
      new (digest_since digest events) ≡ after_all (old digest) (own_happenings digest events)

-- so it is of each tenant
abbrev pub EachSees : Tenants → List Event → Tenants → Type 0
EachSees old events new = (digest : List ℕ) → SeesItself old events new digest

-- the law of courses
abbrev pub EachSeesItself : Type 0
EachSeesItself =
    (old new : Tenants) (events : List Event) → Course old events new → EachSees old events new
