-- What each client hears of turns.
use Rattle.std.proofs.Common.{◌≡◌, refl, ap, sym, ◌∙◌, subst, ℕ, Bool, true, false, List, [], ◌∷◌, ◌++◌, nat_eq, if◌then◌else◌}
use Rattle.std.proofs.lemmas.Bool.{eqb-true, eqb-false}
use Rattle.std.proofs.lemmas.Grind.{flat_map-append}
use Rattle.std.proofs.lemmas.List.{append-nil}
use Rattle.chain.specs.Ledgers.{LedgersMeaning}
use Rattle.ledger_http.specs.declared.reply.Reply.{Reply}
use Rattle.clients.specs.Turns.{Sent, Clients, ToldReply, Turn, if_told, told_to, HearsFirst, Hears, HearTheirOwn}
use Rattle.service.specs.InTurn.{Nothing, More}

pub told_to-more : (client : ℕ) (all : List ToldReply) (told : ToldReply) →
    told_to client (all ++ told ∷ []) ≡ told_to client all ++ if_told client told
told_to-more client all told =
    flat_map-append (if_told client) all (told ∷ [])
    ∙ ap (λ rest. told_to client all ++ rest) (append-nil (if_told client told))

hears_if :
    {S C : Type 0} (t : LedgersMeaning S) (gives : C → ℕ → C → Type 0) (first old new : Sent)
    (replies : List Reply) (reply : Reply) (b : Bool) → Hears S C t gives first replies old →
    (b ≡ true → HearsFirst t gives old reply new) → (b ≡ false → new ≡ old) →
    Hears S C t gives first (replies ++ (if b then reply ∷ [] else [])) new
hears_if t gives first old new replies reply true heard own other =
    More replies old reply new heard (own refl)
hears_if {S} {C} t gives first old new replies reply false heard own other =
    subst (λ rs. Hears S C t gives first rs new) (sym (append-nil replies))
    (subst (λ sent. Hears S C t gives first replies sent) (sym (other refl)) heard)

turn_heard :
    {S C : Type 0} (t : LedgersMeaning S) (gives : C → ℕ → C → Type 0) (old new : Clients S C)
    (told : ToldReply) → Turn t gives old told new →
    HearsFirst t gives (old.sent told.client) told.reply (new.sent told.client)
turn_heard t gives old new told turn = record {
  ledgers = old.ledgers;
  moments = old.moments;
  ledgers_then = new.ledgers;
  moments_then = new.moments;
  exchange = turn.exchange;
}

-- each client hears the replies to its own messages, and no others
pub hear_their_own :
    {S C : Type 0} (t : LedgersMeaning S) (gives : C → ℕ → C → Type 0) → HearTheirOwn t gives
hear_their_own t gives first last all Nothing client = Nothing
hear_their_own {S} {C} t gives first last all (More before mid told next turns turn) client =
    subst (λ rs. Hears S C t gives (first.sent client) rs (next.sent client))
    (sym (told_to-more client before told))
    (hears_if t gives (first.sent client) (mid.sent client) (next.sent client)
    (told_to client before) told.reply (nat_eq told.client client)
    (hear_their_own t gives first mid before turns client)
    (λ own.
    subst (λ (i : ℕ). HearsFirst t gives (mid.sent i) told.reply (next.sent i))
    (eqb-true told.client client own) (turn_heard t gives mid next told turn))
    (λ other.
    turn.others client (λ (same : client ≡ told.client). eqb-false told.client client other (sym same))))
