-- What is written to each client.
use Rattle.std.proofs.Common.{◌≡◌, ◌≢◌, refl, ap, ap₂, sym, ◌∙◌, subst, ℕ, Bool, true, List, [], ◌∷◌, ◌++◌, Option, Some, None, is_none, if◌then◌else◌, append_assoc}
use Rattle.std.proofs.lemmas.Bool.{and_parts, eq-eqb, false≢true, ne_eqb}
use Rattle.std.proofs.lemmas.Grind.{flat_map-append}
use Rattle.std.proofs.lemmas.List.{append-nil}
use Rattle.chain.specs.Ledgers.{LedgersMeaning, Tenants}
use Rattle.ledger_http.specs.declared.reply.Reply.{Reply}
use Rattle.ledger_http.specs.ReplyText.{reply_text}
use Rattle.service.specs.Connections.{texts_of}
use Rattle.parts.specs.Parts.{chunks_left}
use Rattle.parts.specs.declared.rest.Rest.{Rest}
use Rattle.parts.proofs.LeftLemmas.{part_left}
use Rattle.clients.specs.Talk.{HasNothingUnsent, Talk, is_empty, is_written, owed}
use Rattle.clients.specs.Answering.{MayCome}
use Rattle.service.specs.InTurn.{Nothing, More}
use Rattle.clients.specs.Turns.{ToldReply, if_told, told_to, Hears, HearTheirOwn}
use Rattle.clients.specs.Deeds.{Room, Act, Came, Ended, Replied, Continued, Wrote, client_of, HasYet, IsActed, machines_after, machines_then, if_own, come_from, written_in, written_to, told_in, all_told, sent_with, clients_of, AreExchanges, AreWritten, AreServed}
use Rattle.clients.proofs.ClientLemmas.{by_client, if_own-own, if_own-other}
use Rattle.clients.proofs.DeedLemmas.{one_deed_more}

texts-append : (front back : List Reply) → texts_of (front ++ back) ≡ texts_of front ++ texts_of back
texts-append [] back = refl
texts-append (reply ∷ front) back =
    ap (λ (rest : List ℕ). reply_text reply ++ rest) (texts-append front back)
    ∙ sym (append_assoc (reply_text reply) (texts_of front) (texts_of back))

nothing_left : (bytes : List ℕ) → is_empty bytes ≡ true → bytes ≡ []
nothing_left [] empty = refl
nothing_left (byte ∷ bytes) empty = absurd (false≢true empty)

none_left : (rest : Option Rest) → is_none rest ≡ true → rest ≡ None
none_left None none = refl
none_left (Some rest) none = absurd (false≢true none)

-- of a reply that is written nothing is left
written_so : (talk : Talk) → is_written talk ≡ true → HasNothingUnsent talk
written_so talk written =
    let both = and_parts (is_empty talk.unsent) (is_none talk.rest) written in
    (nothing_left talk.unsent both.0, none_left talk.rest both.1)

-- what is owed before a deed, with the replies by it, is what was written by it and what is owed
-- behind it
abbrev pub Keeps : ℕ → Act → Tenants → Talk → Tenants → Talk → Type 0
Keeps client deed machines old machines_now new =
    owed machines old ++ texts_of (told_to client (told_in deed))
    ≡ written_in client deed ++ owed machines_now new

same_owed : (machines : Tenants) (old new : Talk) → owed machines new ≡ owed machines old →
    owed machines old ++ [] ≡ owed machines new
same_owed machines old new same = append-nil (owed machines old) ∙ sym same

module _ {S C : Type 0} (t : LedgersMeaning S) (gives : C → ℕ → C → Type 0) where
  keeps_own :
      (machines : Tenants) (old new : Room S C) (deed : Act) → IsActed t gives old deed new →
      HasYet t machines (client_of deed) deed old →
      Keeps (client_of deed) deed machines (old.talks (client_of deed))
      (machines_after (client_of deed) deed (t.tenants new.ledgers) machines)
      (new.talks (client_of deed))
  keeps_own machines old new (Came client piece) done yet =
      same_owed machines (old.talks client) (new.talks client) (ap (owed machines) done.does.0.same)
  keeps_own machines old new (Ended client) done yet =
      same_owed machines (old.talks client) (new.talks client) (ap (owed machines) done.does.same)
  keeps_own machines old new (Wrote client bytes) done yet =
      append-nil (owed machines (old.talks client))
      ∙ sym (ap (owed machines) done.does.same)
      ∙ append_assoc bytes (new.talks client).unsent (chunks_left machines (new.talks client).rest)
      ∙ ap (λ (front : List ℕ). front ++ owed machines (new.talks client)) (sym (if_own-own client bytes))
  keeps_own machines old new (Replied client reply) done yet =
      let written = written_so (old.talks client)
      (and_parts (old.talks client).goes_on (is_written (old.talks client)) done.does.1).1 in
      ap₂ (λ (unsent : List ℕ) (rest : Option Rest).
      (unsent ++ chunks_left machines rest) ++ texts_of (told_to client (told_in (Replied client reply))))
      written.0 written.1
      ∙ ap (λ (replies : List Reply). texts_of (replies ++ [])) (if_own-own client (reply ∷ []))
      ∙ append-nil (reply_text reply)
      ∙ sym done.does.0.unsent
      ∙ ap (λ (b : Bool). owed (if b then t.tenants new.ledgers else machines) (new.talks client))
      (sym (eq-eqb client client refl))
  keeps_own machines old new (Continued client part) done yet =
      let next = done.does.1 in
      let so = yet refl in
      let now = t.tenants old.ledgers in
      append-nil (owed machines (old.talks client))
      ∙ ap (λ (unsent : List ℕ). unsent ++ chunks_left machines (old.talks client).rest) next.written
      ∙ sym so.1
      ∙ ap (chunks_left now) next.left
      ∙ sym (part_left now next.rest part (next.told so.0))
      ∙ sym (ap (owed now) done.does.0.same)
      ∙ sym (ap (λ (l : S). owed (t.tenants l) (new.talks client)) done.does.0.ledgers_same)
      ∙ ap (λ (b : Bool). owed (if b then t.tenants new.ledgers else machines) (new.talks client))
      (sym (eq-eqb client client refl))

  other_machines :
      (deed : Act) (other : ℕ) (now before : Tenants) → other ≢ client_of deed →
      machines_after other deed now before ≡ before
  other_machines (Came client piece) other now before differ = refl
  other_machines (Ended client) other now before differ = refl
  other_machines (Wrote client bytes) other now before differ = refl
  other_machines (Replied client reply) other now before differ =
      ap (λ (b : Bool). if b then now else before) (ne_eqb client other (λ (same : client ≡ other). differ (sym same)))
  other_machines (Continued client part) other now before differ =
      ap (λ (b : Bool). if b then now else before) (ne_eqb client other (λ (same : client ≡ other). differ (sym same)))

  none_written : (deed : Act) (other : ℕ) → other ≢ client_of deed → written_in other deed ≡ []
  none_written (Came client piece) other differ = refl
  none_written (Ended client) other differ = refl
  none_written (Replied client reply) other differ = refl
  none_written (Continued client part) other differ = refl
  none_written (Wrote client bytes) other differ = if_own-other client other bytes differ

  none_told : (deed : Act) (other : ℕ) → other ≢ client_of deed → texts_of (told_to other (told_in deed)) ≡ []
  none_told (Came client piece) other differ = refl
  none_told (Ended client) other differ = refl
  none_told (Replied client reply) other differ =
      ap (λ (replies : List Reply). texts_of (replies ++ [])) (if_own-other client other (reply ∷ []) differ)
  none_told (Continued client part) other differ = refl
  none_told (Wrote client bytes) other differ = refl

  keeps_other :
      (machines now : Tenants) (deed : Act) (other : ℕ) (old new : Talk) → other ≢ client_of deed →
      new ≡ old → Keeps other deed machines old (machines_after other deed now machines) new
  keeps_other machines now deed other old new differ same =
      ap (λ (texts : List ℕ). owed machines old ++ texts) (none_told deed other differ)
      ∙ append-nil (owed machines old)
      ∙ sym (ap (owed machines) same)
      ∙ sym (ap (λ (m : Tenants). owed m new) (other_machines deed other now machines differ))
      ∙ ap (λ (front : List ℕ). front ++ owed (machines_after other deed now machines) new)
      (sym (none_written deed other differ))

  pub keeps :
      (machines : Tenants) (old new : Room S C) (deed : Act) → IsActed t gives old deed new → (client : ℕ) →
      HasYet t machines client deed old →
      Keeps client deed machines (old.talks client)
      (machines_after client deed (t.tenants new.ledgers) machines) (new.talks client)
  keeps machines old new deed done =
      by_client
      (λ (client : ℕ). HasYet t machines client deed old →
      Keeps client deed machines (old.talks client)
      (machines_after client deed (t.tenants new.ledgers) machines) (new.talks client))
      (client_of deed) (keeps_own machines old new deed done)
      (λ other differ yet.
      keeps_other machines (t.tenants new.ledgers) deed other (old.talks other) (new.talks other) differ
      (done.others other differ))

told_to-append : (client : ℕ) (front back : List ToldReply) →
    told_to client (front ++ back) ≡ told_to client front ++ told_to client back
told_to-append client front back = flat_map-append (if_told client) front back

-- the texts of all replies to a client, with those of one deed more
texts-more : (client : ℕ) (deeds : List Act) (deed : Act) →
    texts_of (told_to client (all_told (deeds ++ deed ∷ [])))
    ≡ texts_of (told_to client (all_told deeds)) ++ texts_of (told_to client (told_in deed))
texts-more client deeds deed =
    ap (λ (all : List ToldReply). texts_of (told_to client all)) (one_deed_more told_in deeds deed)
    ∙ ap texts_of (told_to-append client (all_told deeds) (told_in deed))
    ∙ texts-append (told_to client (all_told deeds)) (told_to client (told_in deed))

-- a run of lists, each equation behind the last
chained : (sent new_sent old_unsent told new_told written unsent next : List ℕ) →
    sent ++ unsent ≡ old_unsent ++ told → unsent ++ new_told ≡ written ++ next →
    new_sent ≡ sent ++ written → new_sent ++ next ≡ old_unsent ++ (told ++ new_told)
chained sent new_sent old_unsent told new_told written unsent next so_far keep more =
    ap (λ (front : List ℕ). front ++ next) more
    ∙ append_assoc sent written next
    ∙ ap (λ (back : List ℕ). sent ++ back) (sym keep)
    ∙ sym (append_assoc sent unsent new_told)
    ∙ ap (λ (front : List ℕ). front ++ new_told) so_far
    ∙ append_assoc old_unsent told new_told

pub are_written :
    {S C : Type 0} (t : LedgersMeaning S) (gives : C → ℕ → C → Type 0) → AreWritten t gives
are_written t gives first last deeds Nothing before client goes =
    sym (append-nil (owed before (first.talks client)))
are_written t gives first last deeds (More earlier mid deed next lives done) before client goes =
    let machines = machines_then before lives client in
    chained (written_to client earlier) (written_to client (earlier ++ deed ∷ []))
    (owed before (first.talks client)) (texts_of (told_to client (all_told earlier)))
    (texts_of (told_to client (told_in deed))) (written_in client deed) (owed machines (mid.talks client))
    (owed (machines_after client deed (t.tenants next.ledgers) machines) (next.talks client))
    (are_written t gives first mid earlier lives before client goes.0)
    (keeps t gives machines mid next deed done client goes.1) (one_deed_more (written_in client) earlier deed)
    ∙ ap (λ (told : List ℕ). owed before (first.talks client) ++ told)
    (sym (texts-more client earlier deed))

-- only one client is still to send
only_own : (room : ℕ → Talk) (client : ℕ) (later : List ℕ) → MayCome (room client).unread later →
    (i : ℕ) → MayCome (room i).unread (if_own i client later)
only_own room client later may =
    by_client (λ (i : ℕ). MayCome (room i).unread (if_own i client later)) client
    (subst (λ (bytes : List ℕ). MayCome (room client).unread bytes) (sym (if_own-own client later)) may)
    (λ other differ. λ ended. if_own-other client other later differ)

-- what is written to a new client is a beginning of the replies to its own messages
pub are_served :
    {S C : Type 0} (t : LedgersMeaning S) (gives : C → ℕ → C → Type 0) → AreExchanges t gives →
    HearTheirOwn t gives → AreWritten t gives → AreServed t gives
are_served {S} {C} t gives exchanges hear written first last deeds lives before client goes new later may =
    let own = if_own-own client later in
    let told = told_to client (all_told deeds) in
    record {
      replies = told;
      heard =
          subst
          (λ (talk : Talk).
          Hears S C t gives (sent_with (come_from client deeds ++ later) talk) told
          (sent_with later (last.talks client)))
          new
          (subst
          (λ (bytes : List ℕ).
          Hears S C t gives (sent_with (come_from client deeds ++ bytes) (first.talks client)) told
          (sent_with bytes (last.talks client)))
          own
          (hear
          (clients_of first (λ (i : ℕ). come_from i deeds ++ if_own i client later))
          (clients_of last (λ (i : ℕ). if_own i client later))
          (all_told deeds)
          (exchanges first last deeds lives (λ (i : ℕ). if_own i client later)
          (only_own last.talks client later may))
          client));
      begun =
          written first last deeds lives before client goes
          ∙ ap (λ (talk : Talk). owed before talk ++ texts_of told) new;
    }
