-- What each step of a machine leads to, the course of a tenant leads to.
use Rattle.std.proofs.Common.{◌≡◌, ℕ, List, [], ◌∷◌, Option, Some, Result, Ok, Err, refl, sym}
use Rattle.std.proofs.Common.{ap, ◌∙◌, subst}
use Rattle.std.specs.List.{AllZip}
use Rattle.records.specs.declared.reply.EventResult.{EventResult}
use Rattle.records.specs.Machine.{Machine}
use Rattle.records.specs.Step.{Outcome, Answered, Exhausted}
use Rattle.engine.specs.FailedLaws.{OfEach}
use Rattle.wire.specs.declared.outcome.Outcome.{Outcome as Told}
use Rattle.wire.specs.declared.request.Request.{Request}
use Rattle.wire.specs.declared.request.Request.TheVariants as asks
use Rattle.service.specs.Served.{left_by, served_by}
use Rattle.service.specs.Deeds.{Deed, Asked, Joined, Keyed, after_deed}
use Rattle.chain.specs.Ledgers.{Tenants}
use Rattle.service.specs.Courses.{Course, Event}
use Rattle.service.specs.OwnDeeds.{Happening, deed_of, digest_since, own_happenings, after_all}
use Rattle.service.specs.Retries.{IsAskedEarlier, HasAsked}
pub use Rattle.service.specs.StepLaws.{StepLaws}
use Rattle.service.proofs.OwnDeedLemmas.{after_more, sees_itself}

-- what comes behind a request finds the machine that it left
asked_then :
    (began : Option Machine) (owns : List Happening) (request : Request) (moment : ℕ) (m : Machine)
    (asked : IsAskedEarlier began owns request moment m) →
    after_all began owns ≡ after_all (Some (left_by m moment request)) asked.since
asked_then began owns request moment m asked =
    ap (after_all began) asked.is
    ∙ (after_more began asked.before (asked.own ∷ asked.since)
    ∙ (ap (λ (tenant : Option Machine). after_all tenant (asked.own ∷ asked.since)) asked.held
    ∙ ap (λ (deed : Deed). after_all (after_deed deed (Some m)) asked.since) asked.asks))

module _ (Leads : Machine → Machine → Type 0) (laws : StepLaws Leads)
  where
    left_leads : (m : Machine) (moment : ℕ) (request : Request) → Leads m (left_by m moment request)
    left_leads m moment (asks.Accounts events) = laws.accounts m events moment
    left_leads m moment (asks.Transfers events) = laws.transfers m events moment
    left_leads m moment (asks.Read asked) = laws.itself m

    served_leads :
        (m : Machine) (meaning : Result Request Told) (moment : ℕ) →
        Leads m (served_by m meaning moment).left
    served_leads m (Ok request) moment = left_leads m moment request
    served_leads m (Err outcome) moment = laws.itself m

    -- a machine that a tenant's leads to
    record Goes (m : Machine) (tenant : Option Machine) : Type 0 where
      pub next : Machine
      pub is : tenant ≡ Some next
      pub leads : Leads m next

    deed_leads : (deed : Deed) (m : Machine) → Goes m (after_deed deed (Some m))
    deed_leads (Asked digest meaning moment) m = record {
      next = (served_by m meaning moment).left;
      is = refl;
      leads = served_leads m meaning moment;
    }
    deed_leads (Joined digest) m = record { next = m; is = refl; leads = laws.itself m }
    deed_leads (Keyed was other) m = record { next = m; is = refl; leads = laws.itself m }

    all_go : (owns : List Happening) (m : Machine) → Goes m (after_all (Some m) owns)
    all_go [] m = record { next = m; is = refl; leads = laws.itself m }
    all_go (own ∷ owns) m =
        let goes = deed_leads (deed_of own) m in
        let on = all_go owns goes.next in record {
          next = on.next;
          is = ap (λ (tenant : Option Machine). after_all tenant owns) goes.is ∙ on.is;
          leads = laws.onward m goes.next on.next goes.leads on.leads;
        }

    all_lead :
        (owns : List Happening) (m now : Machine) → after_all (Some m) owns ≡ Some now → Leads m now
    all_lead owns m now is =
        let goes = all_go owns m in
        let same : Some goes.next ≡ Some now = sym goes.is ∙ is in
        let next : goes.next ≡ now = cc in
        subst (λ (n : Machine). Leads m n) next goes.leads

    -- in a course a tenant's machine leads to the one that it has since, under the digest of then
    pub course_leads :
        (began last : Tenants) (events : List Event) → Course began events last →
        (digest : List ℕ) (m : Machine) → began digest ≡ Some m →
        (next : Machine) × (last (digest_since digest events) ≡ Some next) × Leads m next
    course_leads began last events course digest m held =
        let owns = own_happenings digest events in
        let goes = all_go owns m in (
          goes.next,
          (sees_itself began last events course digest).left
              ∙ ap (λ (tenant : Option Machine). after_all tenant owns) held
              ∙ goes.is,
          goes.leads,
        )

    -- so is a tenant's machine led to by the one that a request of its own has left
    pub asked_leads :
        (digest : List ℕ) (request : Request) (moment : ℕ) (m now : Machine) →
        HasAsked digest request moment m now → Leads (left_by m moment request) now
    asked_leads digest request moment m now h =
        let seen = sees_itself h.began h.last h.events h.course digest in
        all_lead h.asked.since (left_by m moment request) now
        (sym (asked_then (h.began digest) (own_happenings digest h.events) request moment m h.asked)
        ∙ (sym seen.left ∙ h.held))

zip_on :
    {E R : Type 0} (P Q : E → R → Type 0) → ((ev : E) (result : R) → P ev result → Q ev result) →
    (batch : List E) (results : List (EventResult R)) →
    AllZip (λ ev told. P ev told.result) batch results →
    AllZip (λ ev told. Q ev told.result) batch results
zip_on P Q on [] [] all = all
zip_on P Q on [] (told ∷ results) all = all
zip_on P Q on (ev ∷ batch) [] all = all
zip_on P Q on (ev ∷ batch) (told ∷ results) all =
    (on ev told.result all.0, zip_on P Q on batch results all.1)

pub each_on :
    {E R : Type 0} (P Q : E → R → Type 0) (batch : List E) (outcome : Outcome R) →
    ((ev : E) (result : R) → P ev result → Q ev result) → OfEach P batch outcome →
    OfEach Q batch outcome
each_on P Q batch (Answered clock results) on all = zip_on P Q on batch results all
each_on P Q batch Exhausted on all = tt
