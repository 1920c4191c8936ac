-- Settling a tenant between its messages shows in no reply to a batch.
use Rattle.std.specs.Prelude.{◌≡◌, ◌≢◌, ◌≤◌, ℕ, Bool, true, false, List, [], ◌∷◌, Result, Ok, Err}
use Rattle.std.specs.Prelude.{if◌then◌else◌}
use Rattle.std.specs.List.{AllByRecursion}
use Rattle.sha2.specs.Sha256.{sha256}
use Rattle.chain.specs.Ledgers.{Tenants}
use Rattle.ledger_http.specs.declared.reply.Reply.{Reply}
use Rattle.ledger_http.specs.Question.{Question}
use Rattle.ledger_http.specs.ReplyText.{reply_text}
use Rattle.wire.specs.declared.outcome.Outcome.{Outcome}
use Rattle.wire.specs.declared.request.Request.{Request}
use Rattle.wire.specs.declared.request.Request.TheVariants.{Accounts, Transfers, Read}
use Rattle.wire.specs.Asked.{meaning_in}
use Rattle.wire.specs.Told.{outcome_text}
use Rattle.service.specs.Attending.{IsAskedOrOfService}
use Rattle.service.specs.Courses.{Event, Course, IsReplied}
use Rattle.service.specs.Deeds.{Deed, Asked, Joined, Keyed}
use Rattle.service.specs.OwnDeeds.{Happening, Told, Untold, after_all, digest_since, own_happenings}
use Rattle.service.specs.Replies.{unavailable}
use Rattle.service.specs.Rising.{Rise}
use Rattle.service.specs.Served.{served}

-- whether a request is a batch, and whether it is one of no transfers
abbrev pub is_batch : Result Request Outcome → Bool
is_batch (Ok (Accounts events)) = true
is_batch (Ok (Transfers events)) = true
is_batch (Ok (Read asked)) = false
is_batch (Err refusal) = false

abbrev pub is_empty_batch : Result Request Outcome → Bool
is_empty_batch (Ok (Accounts events)) = false
is_empty_batch (Ok (Transfers [])) = true
is_empty_batch (Ok (Transfers (event ∷ events))) = false
is_empty_batch (Ok (Read asked)) = false
is_empty_batch (Err refusal) = false

-- a batch of no transfers that gets no reply settles a tenant
abbrev pub is_settlement : Happening → Bool
is_settlement (Told deed text) = false
is_settlement (Untold (Asked digest meaning moment)) = is_empty_batch meaning
is_settlement (Untold (Joined digest)) = false
is_settlement (Untold (Keyed was now)) = false

-- what happened to a tenant, as if it was never settled so
abbrev pub without_settlements : List Happening → List Happening
without_settlements [] = []
without_settlements (happening ∷ more) =
    if is_settlement happening then without_settlements more
    else happening ∷ without_settlements more

-- After a course whose moments do not fall, a tenant's batch gets the reply that it would get if the
-- tenant had never been settled between its messages. What no message asked for in the course is what
-- a service may do.
abbrev pub SettlingShowsNowhere : Type 0
SettlingShowsNowhere =
    (began now new : Tenants) (events : List Event) (from to : ℕ)
    → Course began events now
    → Rise from events to
    → AllByRecursion IsAskedOrOfService events
    → (digest : List ℕ) (question : Question) (moment : ℕ) (reply : Reply)
    → sha256 question.key ≡ digest_since digest events
    → is_batch (meaning_in question) ≡ true
    → to ≤ moment
    → IsReplied (Ok question) moment reply now new
    → reply ≢ unavailable
    → reply_text reply
    ≡ outcome_text
    (served (after_all (began digest) (without_settlements (own_happenings digest events)))
    question moment).told
