-- What a service has answered to a command's call.
use Rattle.std.specs.Prelude.{◌≡◌, ℕ, List, Some}
use Rattle.control.specs.Bodies.{IsAddedIn, IsChangedIn, IsStoppedIn}
use Rattle.control.specs.Copying.{copied_text}
use Rattle.control.specs.Counting.{IsCounted}
use Rattle.control.specs.Entries.{AreEntriesTold}
use Rattle.control.specs.Listing.{HasLines}
use Rattle.control.specs.Messages.{message_text}
use Rattle.control.specs.Told.{IsToldIn}
use Rattle.control.specs.declared.answer.Answer.{Answer}
use Rattle.control.specs.declared.counting.CountForm.{CountForm}
use Rattle.control.specs.declared.entries.Entries.{Entries}
use Rattle.control.specs.declared.messages.Call.{Call}
use Rattle.control.specs.declared.messages.Call.TheVariants as calls
use Rattle.control.specs.declared.piece_asked.PieceAsked.{PieceAsked}

-- the body that it tells
abbrev pub body_of : Answer → List ℕ
body_of answer = answer.body.items

-- the message of this call was sent, and the reply tells the body, with status 200
pub record IsAnswerToCall (call : Call) (answer : Answer) : Type 0 where
  pub sent : answer.message.items ≡ message_text call
  pub told : IsToldIn answer.reply.items (body_of answer)

-- such a call is answered, and this is so of the body
abbrev pub TellsBody : (Call → Type 0) → (List ℕ → Type 0) → Answer → Type 0
TellsBody IsCall P answer =
    (call : Call) × IsCall call × IsAnswerToCall call answer × P (body_of answer)

-- the call is to add a tenant of this name under this key
abbrev pub IsToAdd : List ℕ → List ℕ → Call → Type 0
IsToAdd name key (calls.AddTenant n k) = (n.now ≡ name) × (k.now ≡ key)
IsToAdd name key other = ⊥

-- it is to give the tenant of this name this key
abbrev pub IsToChange : List ℕ → List ℕ → Call → Type 0
IsToChange name key (calls.ChangeKey n k) = (n.now ≡ name) × (k.now ≡ key)
IsToChange name key other = ⊥

-- it is to copy the file to this path
abbrev pub IsToCopy : List ℕ → Call → Type 0
IsToCopy path (calls.Copy to) = to.now ≡ path
IsToCopy path other = ⊥

-- the answer tells that the tenant is added
abbrev pub TellsAdded : List ℕ → List ℕ → Answer → Type 0
TellsAdded name key answer = TellsBody (IsToAdd name key) (IsAddedIn name) answer

-- it tells that the tenant has the key
abbrev pub TellsChanged : List ℕ → List ℕ → Answer → Type 0
TellsChanged name key answer = TellsBody (IsToChange name key) (IsChangedIn name) answer

-- it tells that the copy has so many bytes, in digits
abbrev pub TellsCopied : List ℕ → List ℕ → Answer → Type 0
TellsCopied path digits answer =
    TellsBody (IsToCopy path) (λ body. copied_text body ≡ Some digits) answer

-- it tells that the service has ended
abbrev pub TellsStopped : Answer → Type 0
TellsStopped answer = TellsBody (λ call. call ≡ calls.Stop) IsStoppedIn answer

-- it tells tenants, who have these lines
abbrev pub TellsTenants : List ℕ → Answer → Type 0
TellsTenants lines answer =
    TellsBody (λ call. call ≡ calls.Tenants) (λ body. HasLines body lines) answer

-- it tells counts, which have these lines
abbrev pub TellsCounts : CountForm → List ℕ → Answer → Type 0
TellsCounts form lines answer =
    TellsBody (λ call. call ≡ calls.Status) (λ body. IsCounted form body lines) answer

-- it tells the entries of a piece
abbrev pub TellsEntries : PieceAsked → Entries → Answer → Type 0
TellsEntries piece entries answer =
    TellsBody (λ call. call ≡ calls.Statement piece) (λ body. AreEntriesTold body entries) answer
