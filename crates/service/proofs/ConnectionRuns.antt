-- Replies, one after the other.
use Rattle.std.specs.Prelude.{OnOk, OnErr}
use Rattle.std.proofs.lemmas.Bool.{true≢false}
use Rattle.std.proofs.Common.{drop, Bool, true, false, Result, Ok, Err, is_err, ◌≡◌, ℕ, ◌+◌, List, [], ◌∷◌}
use Rattle.std.proofs.Common.{◌++◌, Option, Some, None, refl, sym, ap, ◌∙◌, subst, arith}
use Rattle.std.proofs.Common.{append_assoc, length-append}
use Rattle.std.proofs.lemmas.List.{append-nil}
use Rattle.std.specs.Io.KnownBytes.{Appends, Keeps}
use Rattle.std.proofs.KnownBytes.{Appends-trans}
use Rattle.chain.specs.Ledgers.{LedgersMeaning}
use Rattle.ledger_http.specs.declared.reply.Reply.{Reply}
use Rattle.ledger_http.specs.ReplyText.{reply_text}
use Rattle.service.specs.Connections.{Connection, Exchange, HasReplied, IsCutOff, connection, texts_of}
use Rattle.service.specs.InTurn.{Nothing, More}

texts_more : (replies : List Reply) (reply : Reply) →
    texts_of (replies ++ reply ∷ []) ≡ texts_of replies ++ reply_text reply
texts_more [] reply = append-nil (reply_text reply)
texts_more (first ∷ replies) reply =
    ap (λ (rest : List ℕ). reply_text first ++ rest) (texts_more replies reply)
    ∙ sym (append_assoc (reply_text first) (texts_of replies) (reply_text reply))

-- at the end of the input nothing is left, and so nothing has changed
pub stays_ended :
    (old new : Option (List ℕ)) →
    ((unread : List ℕ) → old ≡ Some unread → (unread ≡ []) × (new ≡ Some [])) → Keeps old new
stays_ended None new ended = tt
stays_ended (Some bytes) None ended = absurd (let none = (ended bytes refl).1 in cc)
stays_ended (Some bytes) (Some rest) ended =
    let here = ended bytes refl in let left : rest ≡ [] = (let is = here.1 in cc) in left ∙ sym here.0

-- a connection that ends, whose reader took so much of what was unread
pub cut_off_behind :
    {S C : Type 0} (Holds : List ℕ → Type 0) (most : List ℕ → ℕ) (ledgers : S) (unread unread_now : Option (List ℕ))
    (moments : C) (goes_on : Bool) →
    ((bytes : List ℕ) → unread ≡ Some bytes → Holds bytes × (unread_now ≡ Some (drop (most bytes) bytes))) →
    goes_on ≡ false →
    IsCutOff Holds most (connection ledgers unread moments true) (connection ledgers unread_now moments goes_on)
cut_off_behind Holds most ledgers unread unread_now moments goes_on first ends = record {
  first = λ bytes known. (first bytes known).0;
  taken = λ bytes known. (most bytes, omega arith, (first bytes known).1);
  ledgers = refl;
  moments = refl;
  ends = ends;
}

unwritten : (written : Option (List ℕ)) → Appends written written []
unwritten None = tt
unwritten (Some bytes) = sym (append-nil bytes)

pub none_yet :
    {S C : Type 0} (t : LedgersMeaning S) (gives : C → ℕ → C → Type 0) (first : Connection S C)
    (written : Option (List ℕ)) → HasReplied t gives first written 0 first written
none_yet t gives first written = record {
  replies = [];
  runs = Nothing;
  many = refl;
  texts = unwritten written;
}

pub one_reply_more :
    {S C : Type 0} (t : LedgersMeaning S) (gives : C → ℕ → C → Type 0)
    (first last next : Connection S C) (written before after : Option (List ℕ)) (number : ℕ)
    (reply : Reply) →
    HasReplied t gives first written number last before → Exchange t gives last reply next →
    Appends before after (reply_text reply) →
    HasReplied t gives first written (number + 1) next after
one_reply_more t gives first last next written before after number reply replied exchange appended =
    record {
      replies = replied.replies ++ reply ∷ [];
      runs = More replied.replies last reply next replied.runs exchange;
      many = omega (arith, replied.many, length-append replied.replies (reply ∷ []));
      texts =
          subst (Appends written after) (sym (texts_more replied.replies reply))
          (Appends-trans written before after (texts_of replied.replies) (reply_text reply)
          replied.texts appended);
    }

-- what holds at an error, where there is one
pub on_err_is :
    {T E : Type 0} (r : Result T E) (P : Type 0) → is_err r ≡ true → OnErr r P → P
on_err_is (Ok x) P is p = absurd (true≢false (sym is))
on_err_is (Err e) P is p = p

pub on_ok_is :
    {T E : Type 0} (r : Result T E) (P : Type 0) → is_err r ≡ false → OnOk r P → P
on_ok_is (Ok x) P is p = p
on_ok_is (Err e) P is p = absurd (true≢false is)
