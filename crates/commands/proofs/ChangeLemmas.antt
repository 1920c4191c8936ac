-- What the program makes and tells of a change of a ledger's tenants.
use Rattle.std.proofs.Common.{◌≡◌, ◌∙◌, ℕ, Bool, List, Option, None, Some, Result, Ok, Err}
use Rattle.std.proofs.Common.{IsErrAnd, IfSome, MatchResult, OnOk, ap, is_some, refl, subst, sym, true≢false}
use Rattle.std.specs.Prelude.{⊤}
use Rattle.std.specs.Borrow.{Bor}
use Rattle.sqlite_disk.specs.declared.Disk as disk
use Rattle.sqlite_wal.specs.Recovery.{Image}
use Rattle.sqlite.specs.Effect.{Database}
use Rattle.records.specs.declared.unavailable.Unavailable.TheVariants.{Disk}
use Rattle.chain.specs.Backends.{in_use}
use Rattle.service.specs.Courses.{Ending, Done, Tried}
use Rattle.service.specs.Deeds.{Joined, Keyed}
use Rattle.service.specs.Openings.{run_meaning, Moves}
use Rattle.stored_ledgers.specs.declared.joining.AddTenant.{AddTenant}
use Rattle.stored_ledgers.specs.declared.joining.AddTenant.TheVariants as add
use Rattle.stored_ledgers.specs.declared.keying.ChangeKey.{ChangeKey}
use Rattle.stored_ledgers.specs.declared.keying.ChangeKey.TheVariants as key
use Rattle.stored_ledgers.specs.Joining.{HasJoined}
use Rattle.stored_ledgers.specs.Keying.{HasKeyed}
use Rattle.store.specs.Deeds.{IsKeyTried, ending_of, key_ending}
use Rattle.store.specs.InUseLaws.{moves_in_use}
use Rattle.store.specs.StoreLaws.{store_meaning}
use Rattle.store.specs.declared.place.Place.{Place}
use Rattle.store.specs.declared.place.Place.TheVariants as at
use Rattle.store.specs.declared.store.Store.{Store}
use Rattle.store.specs.Stores.{AnswersUnless, IsHonest, IsLive, IsUsable, OfDatabaseAt, OfDatabases, StoreFollows}
use Rattle.command_line.specs.Values.{text_in}
use Rattle.command_texts.specs.declared.fault.Fault.{Fault}
use Rattle.control.specs.Answers.{IsAnswerToCall, body_of}
use Rattle.control.specs.declared.answer.Answer.{Answer}
use Rattle.control.specs.declared.messages.Call.{Call}
use Rattle.commands.specs.Changing.{IsAnswerTold, IsCallFor, IsChangeIn, IsChangedAs, IsMadeFor, IsOpenedFor}
use Rattle.commands.specs.Changing.{TellsChange, add_fault, key_fault}
use Rattle.commands.specs.Endings.{ending_told}
use Rattle.commands.specs.Orders.{IsChangeTried}
use Rattle.commands.specs.declared.changing.TenantChange.{TenantChange}
use Rattle.commands.specs.declared.changing.TenantChange.TheVariants.{Adding, Keying}

-- what follows of the databases, where something holds of them
of_both :
    {D : Type 0} {g : disk.Ghosts D} (P Q : Database → Database → Type 0)
    (old new : Place D g) → ((a b : Database) → P a b → Q a b) →
    OfDatabaseAt (λ (a : Database). OfDatabaseAt (P a) new) old →
    OfDatabaseAt (λ (a : Database). OfDatabaseAt (Q a) new) old
of_both P Q (at.Open conn) (at.Open after) follows holds = follows _ _ holds
of_both P Q (at.Open conn) (at.Shut files) follows holds = holds
of_both P Q (at.Shut files) new follows holds = holds

module _ {Why : Type 0} (fault_of : Why → Fault) where
  -- a refusal is told as its fault
  abbrev pub Tells : Result ⊤ Why → Result ⊤ Fault → Type 0
  Tells answer told =
      MatchResult answer (λ done. told ≡ Ok done) (λ why. IsErrAnd told (λ fault. fault ≡ fault_of why))

  told_so :
      (IsSo : Result ⊤ Why → Type 0) (answer : Result ⊤ Why) (told : Result ⊤ Fault) → Tells answer told →
      IsSo answer → IsAnswerTold fault_of IsSo told
  told_so IsSo (Ok done) (Ok also) tells so = so
  told_so IsSo (Ok done) (Err fault) tells so = absurd (let e = tells in cc)
  told_so IsSo (Err why) (Ok done) tells so = absurd tells
  told_so IsSo (Err why) (Err fault) tells so = (why, tells, so)

  -- what a store has answered is told of its databases
  answer_told :
      {D : Type 0} {g : disk.Ghosts D} (IsSo : Database → Database → Result ⊤ Why → Type 0)
      (old new : Store D g) (answer : Result ⊤ Why) (told : Result ⊤ Fault) → Tells answer told →
      OfDatabases (λ a b. IsSo a b answer) old new →
      OfDatabases (λ a b. IsAnswerTold fault_of (IsSo a b) told) old new
  answer_told IsSo old new answer told tells so =
      of_both (λ a b. IsSo a b answer) (λ a b. IsAnswerTold fault_of (IsSo a b) told) old.place new.place
      (λ a b. told_so (IsSo a b) answer told tells) so

  -- it stays open where the change is told as made
  answer_stays :
      {D : Type 0} {g : disk.Ghosts D} (failed : Why) (old new : Store D g) (answer : Result ⊤ Why)
      (told : Result ⊤ Fault) → Tells answer told → AnswersUnless failed old new answer →
      IsHonest new → OnOk told (IsLive new)
  answer_stays failed old new (Ok done) (Ok also) tells answers honest =
      answers.open_yet honest (λ is. absurd (let e = is in cc))
  answer_stays failed old new (Err why) (Ok done) tells answers honest = absurd tells
  answer_stays failed old new answer (Err fault) tells answers honest = tt

  ends_so :
      (ending : Result ⊤ Why → Ending) → ((done : ⊤) → ending (Ok done) ≡ Done) →
      ((why : Why) → ending (Err why) ≡ ending_told {T = ⊤} (Err (fault_of why))) →
      (answer : Result ⊤ Why) (told : Result ⊤ Fault) → Tells answer told → ending answer ≡ ending_told told
  ends_so ending is_done is_refused (Ok done) (Ok also) tells = is_done done
  ends_so ending is_done is_refused (Ok done) (Err fault) tells = absurd (let e = tells in cc)
  ends_so ending is_done is_refused (Err why) (Ok done) tells = absurd tells
  ends_so ending is_done is_refused (Err why) (Err fault) tells =
      is_refused why ∙ ap (λ (f : Fault). ending_told {T = ⊤} (Err f)) (sym tells)

adding_refused : (why : AddTenant) → ending_of (Err why) ≡ ending_told {T = ⊤} (Err (add_fault why))
adding_refused add.NameTaken = refl
adding_refused add.DigestTaken = refl
adding_refused (add.Unavailable cause) = refl

keying_refused : (why : ChangeKey) → key_ending (Err why) ≡ ending_told {T = ⊤} (Err (key_fault why))
keying_refused key.NoTenant = refl
keying_refused key.DigestTaken = refl
keying_refused (key.Unavailable cause) = refl

-- a change is made in a store, and this is told of it
pub record MakesChange {D : Type 0} {g : disk.Ghosts D} (change : TenantChange) (name digest : List ℕ)
    (old : Store D g) (told : Result ⊤ Fault) (new : Store D g) : Type 0 where
  pub told_so : IsLive new → OfDatabases (λ a b. IsChangedAs change name digest a b told) old new
  pub moves : IsChangeTried change digest old told new
  pub follows : StoreFollows old new
  pub stays : IsHonest new → OnOk told (IsLive new)

module _ {D : Type 0} {g : disk.Ghosts D} (name digest : List ℕ) (old new : Store D g)
    (told : Result ⊤ Fault) (usable : IsUsable old) where
  pub adding_made :
      (answer : Result ⊤ AddTenant) → Tells add_fault answer told →
      (IsLive new → OfDatabases (λ a b. HasJoined name digest a b answer) old new) →
      AnswersUnless (add.Unavailable Disk) old new answer →
      Moves (run_meaning store_meaning.ledgers) old (Tried (Joined digest) (ending_of answer)) new →
      MakesChange Adding name digest old told new
  adding_made answer tells joined answers moves = record {
    told_so = λ live. answer_told add_fault (HasJoined name digest) old new answer told tells (joined live);
    moves =
        subst
        (λ (ending : Ending). Moves (run_meaning (in_use store_meaning)) old (Tried (Joined digest) ending) new)
        (ends_so add_fault ending_of (λ done. refl) adding_refused answer told tells)
        (moves_in_use store_meaning old new usable answers.usable _ moves);
    follows = answers.follows;
    stays = answer_stays add_fault (add.Unavailable Disk) old new answer told tells answers;
  }

  pub keying_made :
      (answer : Result ⊤ ChangeKey) → Tells key_fault answer told →
      (IsLive new → OfDatabases (λ a b. HasKeyed name digest a b answer) old new) →
      AnswersUnless (key.Unavailable Disk) old new answer →
      IsKeyTried (run_meaning store_meaning.ledgers) old digest answer new →
      MakesChange Keying name digest old told new
  keying_made answer tells keyed answers moves = record {
    told_so = λ live. answer_told key_fault (HasKeyed name digest) old new answer told tells (keyed live);
    moves = (
      moves.0,
      subst
          (λ (ending : Ending). Moves (run_meaning (in_use store_meaning)) old
          (Tried (Keyed moves.0 digest) ending) new)
          (ends_so key_fault key_ending (λ done. refl) keying_refused answer told tells)
          (moves_in_use store_meaning old new usable answers.usable _ moves.1),
    );
    follows = answers.follows;
    stays = answer_stays key_fault (key.Unavailable Disk) old new answer told tells answers;
  }

  -- it is made, where it is this change, and this is told and left
  pub made_as :
      (change is : TenantChange) (made : Result ⊤ Fault) (now : Store D g) → change ≡ is → made ≡ told →
      now ≡ new → MakesChange is name digest old told new → MakesChange change name digest old made now
  made_as change is made now same told_as left holds =
      subst (λ (c : TenantChange). MakesChange c name digest old made now) (sym same)
      (subst (λ (r : Result ⊤ Fault). MakesChange is name digest old r now) (sym told_as)
      (subst (MakesChange is name digest old told) (sym left) holds))

-- a service has answered the call for a change
pub tells_change :
    (change : TenantChange) (name key : List ℕ) (answer : Answer) (call : Call) →
    IsCallFor change name key call → IsAnswerToCall call answer → IsChangeIn change name (body_of answer) →
    TellsChange change name key answer
tells_change Adding name key answer call asks answers told = (call, asks, answers, told)
tells_change Keying name key answer call asks answers told = (call, asks, answers, told)

-- nothing may become a new ledger for any change
pub none_made : (change : TenantChange) (path : List ℕ) → IsMadeFor change path None
none_made Adding path = tt
none_made Keying path = refl

-- and what stands at the path for a new tenant alone
pub made_for :
    {D : Type 0} {g : disk.Ghosts D} (change : TenantChange) (is_new : Bool) (image : Image)
    (store : Store D g) (path : List ℕ) (made : Option (Bor (List ℕ))) →
    IsOpenedFor change is_new image store → is_some (text_in made) ≡ is_new →
    IfSome made (λ found. found.now ≡ path) → IsMadeFor change path made
made_for Adding is_new image store path None opened new is = tt
made_for Adding is_new image store path (Some found) opened new is = is
made_for Keying is_new image store path None opened new is = refl
made_for Keying is_new image store path (Some found) opened new is = absurd (true≢false (new ∙ opened.0))
