-- What a tenant's ledger goes through: deeds, each of one tenant.
use Rattle.std.specs.Prelude.{◌≡◌, ◌≢◌, ℕ, List, [], ◌∷◌, Option, Some, None, Result, Ok, Err}
use Rattle.std.specs.Prelude.{bytes_eq, if◌then◌else◌}
use Rattle.sha2.specs.Sha256.{sha256}
use Rattle.records.specs.Machine.{Machine, new_machine}
use Rattle.chain.specs.Ledgers.{Tenants, KeepsAll}
use Rattle.ledger_http.specs.declared.early.Early.{Early}
use Rattle.ledger_http.specs.Question.{Question}
use Rattle.wire.specs.declared.outcome.Outcome.{Outcome}
use Rattle.wire.specs.declared.request.Request.{Request}
use Rattle.wire.specs.Asked.{meaning_in}
use Rattle.wire.specs.Told.{outcome_text}
use Rattle.service.specs.Served.{served_to}

-- the tenant with this digest asks for this at a moment; or it joins; or it has another key, and is
-- known by the second digest from then on
pub data Deed : Type 0 where
  Asked : List ℕ → Result Request Outcome → ℕ → Deed
  Joined : List ℕ → Deed
  Keyed : List ℕ → List ℕ → Deed

-- the deed of a question, and of whatever was asked
abbrev pub asking : Question → ℕ → Deed
asking question moment =
    Asked (sha256 question.key) (meaning_in question) moment

abbrev pub deeds_in : Result Question Early → ℕ → List Deed
deeds_in (Ok question) moment = asking question moment ∷ []
deeds_in (Err early) moment = []

-- the digest of its tenant
abbrev pub tenant_of : Deed → List ℕ
tenant_of (Asked digest meaning moment) = digest
tenant_of (Joined digest) = digest
tenant_of (Keyed was now) = was

-- two digests change places
abbrev pub exchanged : List ℕ → List ℕ → List ℕ → List ℕ
exchanged one other digest =
    if bytes_eq digest one then other else if bytes_eq digest other then one else digest

-- the digest, behind a deed, of whoever had this one before. Where a key is changed nobody had the
-- new digest, and nobody has the old one then: these change places.
abbrev pub digest_after : Deed → List ℕ → List ℕ
digest_after (Asked tenant meaning moment) digest = digest
digest_after (Joined tenant) digest = digest
digest_after (Keyed was now) digest = exchanged was now digest

-- a tenant that joins has a new machine, if it has none
abbrev pub joined : Option Machine → Option Machine
joined None = Some new_machine
joined (Some m) = Some m

-- its tenant's machine after it
abbrev pub after_deed : Deed → Option Machine → Option Machine
after_deed (Asked digest meaning moment) tenant = (served_to tenant meaning moment).left
after_deed (Joined digest) tenant = joined tenant
after_deed (Keyed was now) tenant = tenant

-- the reply that its tenant's machine gives to it
abbrev pub reply_to_deed : Deed → Option Machine → List (List ℕ)
reply_to_deed (Asked digest meaning moment) tenant =
    outcome_text (served_to tenant meaning moment).told ∷ []
reply_to_deed (Joined digest) tenant = []
reply_to_deed (Keyed was now) tenant = []

-- whoever joins was not there; who gets another key was, and nobody had that one
abbrev pub MayBeDone : Deed → Tenants → Type 0
MayBeDone (Asked digest meaning moment) old = Unit {0}
MayBeDone (Joined digest) old = old digest ≡ None
MayBeDone (Keyed was now) old =
    ((m : Machine) × (old was ≡ Some m)) × (was ≢ now → old now ≡ None)

-- it was done, and every other tenant's machine is as before, each under the digest that it has then
pub record IsDeedDone (deed : Deed) (old new : Tenants) : Type 0 where
  pub may : MayBeDone deed old
  pub own :
      new (digest_after deed (tenant_of deed)) ≡ after_deed deed (old (tenant_of deed))
  pub others :
      (other : List ℕ) → other ≢ tenant_of deed → new (digest_after deed other) ≡ old other

-- deeds were done, one after the other
abbrev pub AreDone : List Deed → Tenants → Tenants → Type 0
AreDone [] old new = KeepsAll old new
AreDone (deed ∷ deeds) old new =
    (mid : Tenants) × IsDeedDone deed old mid × AreDone deeds mid new
