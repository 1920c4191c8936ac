-- What may be found after a request.
use Rattle.std.proofs.Common.{◌≡◌, ◌≢◌, ◌⊎◌, inl, inr, ℕ, List, Option, Some, Result, Ok, Err, refl}
use Rattle.std.proofs.Common.{sym, ap, ◌∙◌, subst}
use Rattle.records.specs.Machine.{Machine}
use Rattle.chain.specs.declared.ledgers.BatchFault.{BatchFault}
use Rattle.chain.specs.declared.ledgers.BatchFault.TheVariants as batch
use Rattle.chain.specs.Ledgers.{Tenants, LedgersMeaning, KeepsAll, Finds, IsAnswered, LeadsBy}
use Rattle.ledger_http.specs.declared.reply.Reply.{Reply}
use Rattle.wire.specs.declared.read.Read.{Read}
use Rattle.wire.specs.declared.request.Request.{Request}
use Rattle.wire.specs.declared.request.Request.TheVariants as asks
use Rattle.service.specs.Served.{served_to}
use Rattle.service.specs.Deeds.{Asked, IsDeedDone}
use Rattle.service.specs.Replies.{Gives, batch_reply, unavailable}
use Rattle.service.proofs.ServedReads.{left_alone}

led :
    {S : Type 0} (t : LedgersMeaning S) (old : S) (X Y : Tenants → Tenants → Type 0)
    (found : Tenants) → ((was now : Tenants) → X was now → Y was now) →
    t.may_find old found ⊎ (t.is_live old × X (t.tenants old) found) →
    t.may_find old found ⊎ (t.is_live old × Y (t.tenants old) found)
led t old X Y found leads (inl before) = inl before
led t old X Y found leads (inr done) = inr (done.0, leads (t.tenants old) found done.1)

-- a call that is answered in other words, and leads to the same machines
pub finds_on :
    {S : Type 0} (t : LedgersMeaning S) (old new : S) (A B : Type 0)
    (X Y : Tenants → Tenants → Type 0) →
    (B → A) → ((was now : Tenants) → X was now → Y was now) → Finds t A X old new →
    Finds t B Y old new
finds_on t old new A B X Y answered leads f = record {
  found = λ found may. led t old X Y found leads (f.found found may);
  live = λ b. f.live (answered b);
}

-- no call at all
pub finds_same :
    {S : Type 0} (t : LedgersMeaning S) (ledgers : S) (A : Type 0)
    (X : Tenants → Tenants → Type 0) → (A → ⊥) → Finds t A X ledgers ledgers
finds_same t ledgers A X unanswered = record {
  found = λ found may. inl may;
  live = λ answered. absurd (unanswered answered);
}

batch_answered :
    (result : Result Reply BatchFault) → batch_reply result ≢ unavailable → IsAnswered result
batch_answered (Ok reply) available = tt
batch_answered (Err batch.UnknownKey) available = tt
batch_answered (Err (batch.Unavailable why)) available = available refl

batch_leads :
    (request : Request) (moment : ℕ) (digest : List ℕ) (was now : Tenants) →
    LeadsBy (Gives request moment) digest was now →
    IsDeedDone (Asked digest (Ok request) moment) was now
batch_leads request moment digest was now leads = record {
  may = tt;
  own =
      leads.1.holds
      ∙ (ap (λ (m : Machine). Some m) leads.1.given.left
      ∙ ap (λ (tenant : Option Machine). (served_to tenant (Ok request) moment).left)
      (sym leads.1.held));
  others = leads.1.others;
}

-- a batch
pub finds_by_batch :
    {S : Type 0} (t : LedgersMeaning S) (old new : S) (request : Request) (moment : ℕ)
    (digest : List ℕ) (result : Result Reply BatchFault) (reply : Reply) →
    reply ≡ batch_reply result →
    Finds t (IsAnswered result) (LeadsBy (Gives request moment) digest) old new →
    Finds t (reply ≢ unavailable) (IsDeedDone (Asked digest (Ok request) moment)) old new
finds_by_batch t old new request moment digest result reply is =
    finds_on t old new (IsAnswered result) (reply ≢ unavailable)
    (LeadsBy (Gives request moment) digest) (IsDeedDone (Asked digest (Ok request) moment))
    (λ available. batch_answered result (λ u. available (is ∙ u)))
    (batch_leads request moment digest)

kept_left :
    (digest : List ℕ) (asked read : Read) (moment : ℕ) → asked ≡ read → (was now : Tenants) →
    KeepsAll was now → IsDeedDone (Asked digest (Ok (asks.Read asked)) moment) was now
kept_left digest asked read moment is was now keeps =
    subst (λ (r : Read). IsDeedDone (Asked digest (Ok (asks.Read r)) moment) was now) (sym is)
    (record {
      may = tt;
      own = keeps digest ∙ sym (left_alone read moment (was digest));
      others = λ other differs. keeps other;
    })

-- a read
pub finds_by_read :
    {S : Type 0} (t : LedgersMeaning S) (old new : S) (asked read : Read) (moment : ℕ)
    (digest : List ℕ) (A B : Type 0) → asked ≡ read → (B → A) → Finds t A KeepsAll old new →
    Finds t B (IsDeedDone (Asked digest (Ok (asks.Read asked)) moment)) old new
finds_by_read t old new asked read moment digest A B is answered =
    finds_on t old new A B KeepsAll (IsDeedDone (Asked digest (Ok (asks.Read asked)) moment))
    answered (kept_left digest asked read moment is)
