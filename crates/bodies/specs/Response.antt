-- The response to a body of transfers as an event of a course, and what two books have in common
-- that agree on its tenant.
use Rattle.std.specs.Prelude.{◌≡◌, ◌≢◌, ℕ, List, [], ◌∷◌, ◌++◌}
use Rattle.chain.specs.Ledgers.{Tenants, KeepsOthers}
use Rattle.plain.specs.declared.book.Tenant.{Tenant}
use Rattle.plain.specs.Book.{machine_with}
use Rattle.plain.specs.BookLedgers.{machines_in}
use Rattle.service.specs.Deeds.{Asked}
use Rattle.service.specs.Courses as course
use Rattle.service.specs.Courses.{Ending, Done, Event, Tried, Happens, Course}
use Rattle.bodies.specs.declared.plain_reply.PlainReply.{PlainReply}
use Rattle.bodies.specs.declared.plain_reply.PlainReply.TheVariants.{Body, Refused, Unavailable}
use Rattle.bodies.specs.Answer.{meant_by, plain_answer, said}

-- how a request with this reply ended
abbrev pub ending_of : PlainReply → Ending
ending_of (Body bytes) = Done
ending_of (Refused refusal) = Done
ending_of Unavailable = course.Unavailable

-- the event of a body that the tenant with this digest sends at a moment, with its reply
abbrev pub event_of : List ℕ → List ℕ → ℕ → PlainReply → Event
event_of digest body moment reply = Tried (Asked digest (meant_by body) moment) (ending_of reply)

-- the response to a body: the tenant is told what is served to its own machine, its machine is the
-- one after that, and all others stay; or the ledger was unavailable, which changes nothing
pub record IsResponse (digest body : List ℕ) (moment : ℕ) (old new : List Tenant)
    (reply : PlainReply) : Type 0 where
  pub told : reply ≢ Unavailable → said reply ≡ plain_answer (machine_with digest old) body moment
  pub happens : Happens (machines_in old) (event_of digest body moment reply) (machines_in new)

-- a response leads every course on that has led to its book, so bodies, one after the other, are a
-- course
abbrev pub ResponsesLeadOn : Type 0
ResponsesLeadOn =
    (first : Tenants) (events : List Event) (digest body : List ℕ) (moment : ℕ)
    (old new : List Tenant) (reply : PlainReply)
    → IsResponse digest body moment old new reply
    → Course first events (machines_in old)
    → Course first (events ++ event_of digest body moment reply ∷ []) (machines_in new)

-- two books that agree on a tenant answer it alike and leave it alike, and all other tenants stay
pub record AgreesOnBody (digest : List ℕ) (old new old' new' : List Tenant)
    (reply reply' : PlainReply) : Type 0 where
  pub same_reply : said reply ≡ said reply'
  pub same_machine : machine_with digest new ≡ machine_with digest new'
  pub others : KeepsOthers digest (machines_in old) (machines_in new)
  pub others' : KeepsOthers digest (machines_in old') (machines_in new')

-- the law of isolation, for the definitions alone
abbrev pub IsolatesBodies : Type 0
IsolatesBodies =
    (digest body : List ℕ) (moment : ℕ) (old new old' new' : List Tenant)
    (reply reply' : PlainReply)
    → IsResponse digest body moment old new reply
    → IsResponse digest body moment old' new' reply'
    → machine_with digest old ≡ machine_with digest old'
    → reply ≢ Unavailable
    → reply' ≢ Unavailable
    → AgreesOnBody digest old new old' new' reply reply'
