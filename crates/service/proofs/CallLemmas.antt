-- Requests that are served over the ledgers, by batches and by reads.
use Rattle.std.proofs.Common.{◌≡◌, ◌∙◌, true, ℕ, List, Result, Ok, Err, IfSome, sym, ap, subst}
use Rattle.records.specs.declared.unavailable.Unavailable.TheVariants.{Disk}
use Rattle.chain.specs.declared.ledgers.BatchFault.{BatchFault}
use Rattle.chain.specs.declared.ledgers.BatchFault.TheVariants as batch
use Rattle.chain.specs.declared.reads.ReadFault.{ReadFault}
use Rattle.chain.specs.Ledgers.{LedgersMeaning, IsRun, Finds, IsAnswered, LeadsBy}
use Rattle.chain.specs.LedgerReads.{IsShown, ReadsTenant, seen_in}
use Rattle.ledger_http.specs.declared.reply.Reply.{Reply}
use Rattle.wire.specs.declared.outcome.Outcome.{Outcome}
use Rattle.wire.specs.declared.read.Read.{Read}
use Rattle.wire.specs.declared.request.Request.{Request}
use Rattle.wire.specs.declared.request.Request.TheVariants as asks
use Rattle.service.specs.declared.begun.Begun.{Begun}
use Rattle.service.specs.Begun.{IsLeftOf, whole}
use Rattle.service.specs.Calls.{BeginsOver, ServesOver}
use Rattle.service.specs.Reading.{BeginsRead}
use Rattle.service.specs.Replies.{Gives, Serves, batch_reply}
use Rattle.service.proofs.BatchGives.{serves_by_batch}
use Rattle.service.proofs.BegunLemmas.{finds_whole, serves_whole}
use Rattle.service.proofs.FindingLemmas.{finds_by_batch, finds_by_read}
use Rattle.service.proofs.ServedReads.{serves_by_read}
use Rattle.service.proofs.ShownReads.{Reading, tells_by, told_seen}

-- what is asked is what begins to be answered
pub begins_as_asked :
    {S : Type 0} {t : LedgersMeaning S} {digest : List ℕ} {asked request : Request} {moment : ℕ} {old new : S}
    {begun : Begun} → asked ≡ request → BeginsOver t digest (Ok request) moment old new begun →
    BeginsOver t digest (Ok asked) moment old new begun
begins_as_asked {t} {digest} {moment} {old} {new} {begun} is begins =
    subst (λ (r : Request). BeginsOver t digest (Ok r) moment old new begun) (sym is) begins

-- the same of a read
pub begins_as_read :
    {S : Type 0} {t : LedgersMeaning S} {digest : List ℕ} {asked read : Read} {moment : ℕ} {old new : S}
    {begun : Begun} → asked ≡ read → BeginsOver t digest (Ok (asks.Read read)) moment old new begun →
    BeginsOver t digest (Ok (asks.Read asked)) moment old new begun
begins_as_read is begins = begins_as_asked (ap asks.Read is) begins

-- a batch
pub batch_serves :
    {S : Type 0} (t : LedgersMeaning S) (request : Request) (moment : ℕ) (digest : List ℕ) (old new : S)
    (result : Result Reply BatchFault) (reply : Reply) → reply ≡ batch_reply result →
    (t.is_live new → IsRun (Gives request moment) digest (t.tenants old) (t.tenants new) result) →
    (t.has_failed old ≡ true → result ≡ Err (batch.Unavailable Disk)) →
    Finds t (IsAnswered result) (LeadsBy (Gives request moment) digest) old new →
    t.follows old new → ServesOver t digest (Ok request) moment old new reply
batch_serves t request moment digest old new result reply is run failed finds follows = record {
  serves = λ live.
      subst (λ (r : Reply). Serves (t.tenants old) (t.tenants new) digest (Ok request) moment r) (sym is)
      (serves_by_batch request moment digest (t.tenants old) (t.tenants new) result (run live));
  failed = λ has. is ∙ ap batch_reply (failed has);
  finds = finds_by_batch t old new request moment digest result reply is finds;
  follows = follows;
}

-- nothing is left of a reply that is whole
none_left :
    {S : Type 0} (t : LedgersMeaning S) (old new : S) (reply : Reply) (begun : Begun) → begun ≡ whole reply →
    IfSome begun.rest (λ rest. t.is_live new → IsLeftOf (t.tenants old) (t.tenants new) rest)
none_left t old new reply begun is =
    subst (λ (b : Begun). IfSome b.rest (λ rest. t.is_live new → IsLeftOf (t.tenants old) (t.tenants new) rest))
    (sym is) tt

-- what is served at once, as a reply that is begun
pub begins_served :
    {S : Type 0} (t : LedgersMeaning S) (digest : List ℕ) (asked meaning : Result Request Outcome) (moment : ℕ)
    (old new : S) (reply : Reply) (begun : Begun) → asked ≡ meaning → begun ≡ whole reply →
    ServesOver t digest meaning moment old new reply → BeginsOver t digest asked moment old new begun
begins_served t digest asked meaning moment old new reply begun is whole_is over =
    subst (λ (m : Result Request Outcome). BeginsOver t digest m moment old new begun) (sym is) (record {
      serves = λ live.
          serves_whole (t.tenants old) (t.tenants new) digest meaning moment reply begun whole_is (over.serves live);
      failed = λ has. whole_is ∙ ap whole (over.failed has);
      finds = finds_whole t old new _ reply begun whole_is over.finds;
      left = none_left t old new reply begun whole_is;
      follows = over.follows;
    })

-- a read, as a reply that is begun
pub begins_read :
    {S A X : Type 0} {t : LedgersMeaning S} {digest : List ℕ} {asked : Read} {moment : ℕ} {old new : S}
    {Shows : X → Outcome → Type 0} {read : Result X ReadFault} {begun : Begun} (r : Reading A X) →
    asked ≡ r.read →
    ((found : X) (outcome : Outcome) → Shows found outcome → outcome ≡ told_seen r.shows (Ok (r.sees found))) →
    ReadsTenant t digest (λ tenant. IsShown r.sees (seen_in r.answers tenant)) old new read →
    BeginsRead Shows read begun → BeginsOver t digest (Ok (asks.Read asked)) moment old new begun
begins_read {t} {digest} {asked} {moment} {old} {new} {Shows} {read} {begun} r is so reads begins = record {
  serves = λ live.
      serves_whole (t.tenants old) (t.tenants new) digest (Ok (asks.Read asked)) moment begins.reply begun begins.is
      (serves_by_read (t.tenants old) (t.tenants new) digest asked r.read moment begins.reply is
      (reads.reads.same live)
      (begins.text _ (tells_by r moment Shows so _ read (reads.told live))));
  failed = λ has. begins.is ∙ ap whole (begins.failed Disk (reads.failed has));
  finds = finds_whole t old new _ begins.reply begun begins.is
      (finds_by_read t old new asked r.read moment digest _ _ is begins.told reads.finds);
  left = none_left t old new begins.reply begun begins.is;
  follows = reads.reads.follows;
}
