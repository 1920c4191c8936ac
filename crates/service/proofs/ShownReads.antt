-- What reads tell.
use Rattle.std.proofs.Common.{subst, ◌≡◌, ◌≢◌, ℕ, List, Option, Some, None, Result, Ok, Err, refl, sym}
use Rattle.std.proofs.Common.{ap, ◌∙◌}
use Rattle.records.specs.Machine.{Machine}
use Rattle.records.specs.Reads.{AccountAnswer, NoAccount, NoHistory, Found}
use Rattle.chain.specs.declared.reads.QueryPage.{QueryPage}
use Rattle.chain.specs.declared.reads.ReadFault.{ReadFault}
use Rattle.chain.specs.declared.reads.ReadFault.TheVariants as fault
use Rattle.chain.specs.LedgerReads.{IsShown, IsTold, Seen, seen_by, seen_in}
use Rattle.ledger_http.specs.declared.reply.Reply.{Reply}
use Rattle.ledger_http.specs.declared.reply.Reply.TheVariants.{Fixed}
use Rattle.ledger_http.specs.ReplyText.{reply_text}
use Rattle.wire.specs.declared.outcome.Entries.{Entries}
use Rattle.wire.specs.declared.outcome.Outcome.{Outcome}
use Rattle.wire.specs.declared.outcome.Outcome.TheVariants.{Page, Refused}
use Rattle.wire.specs.declared.read.Read.{Read}
use Rattle.wire.specs.declared.request.Request.TheVariants as asks
use Rattle.wire.specs.Told.{outcome_text}
use Rattle.service.specs.declared.begun.Begun.{Begun}
use Rattle.service.specs.Begun.{whole}
use Rattle.service.specs.Reading.{BeginsRead, ShowsPage, TellsBy, refusal_of}
use Rattle.service.specs.Replies.{unavailable}
use Rattle.service.specs.Served.{answer_told, read_told, served_to}

-- how a read is answered: what is asked of the machine, how that is shown, and what a
-- caller of the ledgers sees it in
pub record Reading (A X : Type 0) : Type 0 where
  pub read : Read
  pub answers : Machine → AccountAnswer A
  pub shows : ℕ → A → Outcome
  pub sees : X → Seen A
  pub tells : (m : Machine) → read_told m read ≡ answer_told (shows m.clock) (answers m)

-- what is seen, as it is told
abbrev pub told_seen : {A : Type 0} → (ℕ → A → Outcome) → Result (Seen A) ReadFault → Outcome
told_seen shows (Ok seen) = shows seen.clock seen.shown
told_seen shows (Err why) = Refused (refusal_of why)

by_answer :
    {A : Type 0} (shows : ℕ → A → Outcome) (clock : ℕ) (answer : AccountAnswer A) →
    answer_told (shows clock) answer ≡ told_seen shows (seen_by clock answer)
by_answer shows clock NoAccount = refl
by_answer shows clock NoHistory = refl
by_answer shows clock (Found answer) = refl

module _ {A X : Type 0} (r : Reading A X) (moment : ℕ) where
  told_so :
      (tenant : Option Machine) →
      (served_to tenant (Ok (asks.Read r.read)) moment).told ≡ told_seen r.shows (seen_in r.answers tenant)
  told_so None = refl
  told_so (Some m) = r.tells m ∙ by_answer r.shows m.clock (r.answers m)

  -- what is seen is told
  told_as_seen :
      (tenant : Option Machine) (seen : Result (Seen A) ReadFault) → seen_in r.answers tenant ≡ seen →
      (served_to tenant (Ok (asks.Read r.read)) moment).told ≡ told_seen r.shows seen
  told_as_seen tenant seen is = told_so tenant ∙ ap (told_seen r.shows) is

  -- what is found is told, and so is a fault of the tenant
  pub tells_by :
      (Shows : X → Outcome → Type 0) →
      ((found : X) (outcome : Outcome) → Shows found outcome →
      outcome ≡ told_seen r.shows (Ok (r.sees found))) →
      (tenant : Option Machine) (read : Result X ReadFault) →
      IsShown r.sees (seen_in r.answers tenant) read →
      TellsBy Shows (served_to tenant (Ok (asks.Read r.read)) moment).told read
  tells_by Shows so tenant (Ok found) is =
      λ outcome shown. told_as_seen tenant (Ok (r.sees found)) is ∙ sym (so found outcome shown)
  tells_by Shows so tenant (Err fault.UnknownKey) is = λ ne. told_as_seen tenant (Err fault.UnknownKey) is
  tells_by Shows so tenant (Err (fault.Unavailable why)) is = λ ne. absurd (ne refl)
  tells_by Shows so tenant (Err fault.NoAccount) is = λ ne. told_as_seen tenant (Err fault.NoAccount) is
  tells_by Shows so tenant (Err fault.NoHistory) is = λ ne. told_as_seen tenant (Err fault.NoHistory) is
  tells_by Shows so tenant (Err (fault.Sink why)) is = absurd is

fault_told :
    (X : Type 0) (why : ReadFault) → Fixed (refusal_of why) ≢ unavailable → IsTold {A = X} (Err why)
fault_told X fault.UnknownKey available = tt
fault_told X (fault.Unavailable why) available = available refl
fault_told X fault.NoAccount available = tt
fault_told X fault.NoHistory available = tt
fault_told X (fault.Sink why) available = available refl

abbrev refused : (X : Type 0) → ReadFault → Result X ReadFault
refused X why = Err why

same_fault : (X : Type 0) (why other : ReadFault) → refused X why ≡ refused X other → why ≡ other
same_fault X why other is = cc

-- the reply to a read that finds something, and to one that fails
module _ {X : Type 0} (Shows : X → Outcome → Type 0) (read : Result X ReadFault) where
  pub begins_found :
      (found : X) (outcome : Outcome) (reply : Reply) (begun : Begun) → read ≡ Ok found →
      Shows found outcome → begun ≡ whole reply →
      (reply ≢ unavailable → reply_text reply ≡ outcome_text outcome) → BeginsRead Shows read begun
  begins_found found outcome reply begun is shown whole_is text = record {
    reply = reply;
    is = whole_is;
    text = λ told tells ne.
        text ne ∙ ap outcome_text (sym (subst (TellsBy Shows told) is tells outcome shown));
    told = λ ne. subst (λ (r : Result X ReadFault). IsTold r) (sym is) tt;
    failed = λ why fails. absurd (let e = sym is ∙ fails in cc);
  }

  pub begins_fault :
      (why : ReadFault) (begun : Begun) → read ≡ Err why → begun ≡ whole (Fixed (refusal_of why)) →
      BeginsRead Shows read begun
  begins_fault why begun is whole_is = record {
    reply = Fixed (refusal_of why);
    is = whole_is;
    text = λ told tells ne.
        ap outcome_text (sym (subst (TellsBy Shows told) is tells (λ u. ne (ap Fixed u))));
    told = λ ne. subst (λ (r : Result X ReadFault). IsTold r) (sym is) (fault_told X why ne);
    failed = λ other fails.
        ap (λ (f : ReadFault). Fixed (refusal_of f)) (same_fault X why (fault.Unavailable other) (sym is ∙ fails));
  }

-- a page, whose entries are shown so
pub page_shown :
    {A : Type 0} {Shows : List A → Entries → Type 0} {outcome : Outcome} (page : QueryPage A)
    (shows : List A → Entries) →
    ((entries : Entries) → Shows page.entries.items entries → entries ≡ shows page.entries.items) →
    ShowsPage Shows page outcome → outcome ≡ Page page.clock page.next (shows page.entries.items)
page_shown page shows so shown =
    shown.is ∙ ap (λ (entries : Entries). Page page.clock page.next entries) (so shown.entries shown.shown)
