-- Books that agree on a tenant answer it alike, since each tenant sees itself.
use Rattle.std.proofs.Common.{◌≡◌, ◌≢◌, ℕ, List, [], ◌∷◌, Option, refl, sym, ap, ◌∙◌, subst}
use Rattle.std.specs.Str.{bytes_eq}
use Rattle.std.proofs.lemmas.Bool.{false_from_ne_true}
use Rattle.std.proofs.lemmas.Slice.Eq.{bytes_eq-Decides}
use Rattle.records.specs.Machine.{Machine}
use Rattle.plain.specs.declared.book.Tenant.{Tenant}
use Rattle.plain.specs.BookLedgers.{machines_in}
use Rattle.service.specs.Deeds.{Asked}
use Rattle.service.specs.Courses.{Ending, Done, Event, Tried, Begin}
use Rattle.service.specs.OwnDeeds.{SeesItself, EachSeesItself, after_all, own_happenings}
use Rattle.bodies.specs.declared.plain_reply.PlainReply.{PlainReply}
use Rattle.bodies.specs.declared.plain_reply.PlainReply.TheVariants.{Body, Refused, Unavailable}
use Rattle.bodies.specs.Answer.{meant_by, plain_answer}
use Rattle.bodies.specs.Response.{IsResponse, ResponsesLeadOn, IsolatesBodies, ending_of}

is_done : (reply : PlainReply) → reply ≢ Unavailable → ending_of reply ≡ Done
is_done (Body bytes) answered = refl
is_done (Refused refusal) answered = refl
is_done Unavailable answered = absurd (answered refl)

answered_body : List ℕ → List ℕ → ℕ → List Event
answered_body digest body moment = Tried (Asked digest (meant_by body) moment) Done ∷ []

-- what any tenant sees of an answered body
seen :
    ResponsesLeadOn → EachSeesItself → (digest body : List ℕ) (moment : ℕ) (old new : List Tenant)
    (reply : PlainReply) → IsResponse digest body moment old new reply → reply ≢ Unavailable →
    (tenant : List ℕ) →
    SeesItself (machines_in old) (answered_body digest body moment) (machines_in new) tenant
unfolding answered_body
seen lead each digest body moment old new reply response answered tenant =
    subst
    (λ (ending : Ending).
    SeesItself (machines_in old) (Tried (Asked digest (meant_by body) moment) ending ∷ [])
    (machines_in new) tenant)
    (is_done reply answered)
    (each (machines_in old) (machines_in new) _
    (lead (machines_in old) [] digest body moment old new reply response Begin) tenant)

-- another tenant sees nothing
unseen :
    (digest body other : List ℕ) (moment : ℕ) → other ≢ digest →
    own_happenings other (answered_body digest body moment) ≡ []
unfolding answered_body
unseen digest body other moment differs =
    rw (false_from_ne_true (bytes_eq digest other)
    (λ same. differs (sym ((bytes_eq-Decides digest other).0 same)))) refl

pub isolated : ResponsesLeadOn → EachSeesItself → IsolatesBodies
unfolding answered_body
isolated lead each digest body moment old new old' new' reply reply' one other same answered
    answered' =
    let sees = seen lead each digest body moment old new reply one answered in
    let sees' = seen lead each digest body moment old' new' reply' other answered' in
    record {
      same_reply =
          one.told answered
          ∙ (ap (λ (m : Option Machine). plain_answer m body moment) same
          ∙ sym (other.told answered'));
      same_machine =
          (sees digest).left
          ∙ (ap (λ (m : Option Machine).
          after_all m (own_happenings digest (answered_body digest body moment))) same
          ∙ sym (sees' digest).left);
      others = λ tenant differs.
          (sees tenant).left
          ∙ ap (after_all (machines_in old tenant)) (unseen digest body tenant moment differs);
      others' = λ tenant differs.
          (sees' tenant).left
          ∙ ap (after_all (machines_in old' tenant)) (unseen digest body tenant moment differs);
    }
