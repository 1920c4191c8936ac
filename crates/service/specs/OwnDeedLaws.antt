-- Where no key is changed, each tenant keeps its digest.
use Rattle.std.proofs.Common.{◌≡◌, ℕ, List, [], ◌∷◌, ◌++◌, refl, sym, ap, ◌∙◌}
use Rattle.std.proofs.lemmas.List.Concat.{flat_map-cons}
use Rattle.std.specs.List.{AllByRecursion, flat_map}
use Rattle.service.specs.Deeds.{Deed, Asked, Joined, Keyed, digest_after}
use Rattle.service.specs.Courses.{Event}
use Rattle.service.specs.OwnDeeds.{Happening, deed_of, happenings_in, if_own, own_among}
use Rattle.service.specs.OwnDeeds.{digest_behind, own_happenings, digest_since}

-- a deed that changes no key
abbrev pub KeepsDigests : Deed → Type 0
KeepsDigests (Asked digest meaning moment) = Unit {0}
KeepsDigests (Joined digest) = Unit {0}
KeepsDigests (Keyed was now) = ⊥

-- events that change none
abbrev pub KeepDigests : List Event → Type 0
KeepDigests events =
    AllByRecursion (λ happening. KeepsDigests (deed_of happening)) (flat_map happenings_in events)

kept_after : (deed : Deed) (digest : List ℕ) → KeepsDigests deed → digest_after deed digest ≡ digest
kept_after (Asked tenant meaning moment) digest keeps = refl
kept_after (Joined tenant) digest keeps = refl
kept_after (Keyed was now) digest keeps = absurd keeps

kept_behind :
    (happenings : List Happening) (digest : List ℕ) →
    AllByRecursion (λ happening. KeepsDigests (deed_of happening)) happenings →
    digest_behind digest happenings ≡ digest
kept_behind [] digest keep = refl
kept_behind (happening ∷ more) digest keep =
    ap (λ (d : List ℕ). digest_behind d more) (kept_after (deed_of happening) digest keep.0)
    ∙ kept_behind more digest keep.1

kept_among :
    (happenings : List Happening) (digest : List ℕ) →
    AllByRecursion (λ happening. KeepsDigests (deed_of happening)) happenings →
    own_among digest happenings ≡ flat_map (if_own digest) happenings
kept_among [] digest keep = refl
kept_among (happening ∷ more) digest keep =
    ap (λ (d : List ℕ). if_own digest happening ++ own_among d more)
    (kept_after (deed_of happening) digest keep.0)
    ∙ (ap (λ (owns : List Happening). if_own digest happening ++ owns)
    (kept_among more digest keep.1)
    ∙ sym (flat_map-cons (if_own digest) happening more))

-- then whoever had a digest has it
pub digest_kept :
    (digest : List ℕ) (events : List Event) → KeepDigests events → digest_since digest events ≡ digest
digest_kept digest events keep = kept_behind (flat_map happenings_in events) digest keep

-- and what happened to that tenant is all that happened under this digest
pub own_kept :
    (digest : List ℕ) (events : List Event) → KeepDigests events →
    own_happenings digest events ≡ flat_map (if_own digest) (flat_map happenings_in events)
own_kept digest events keep = kept_among (flat_map happenings_in events) digest keep
