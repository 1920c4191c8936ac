-- What one client hears while all are served.
use Rattle.std.proofs.Common.{◌≡◌, ◌≢◌, ⊎_elim, refl, ap, sym, ◌∙◌, subst, ℕ, List, [], ◌∷◌, ◌++◌, append_assoc, if◌then◌else◌}
use Rattle.std.proofs.lemmas.Bool.{cases_eq, eq-eqb, ne_eqb}
use Rattle.std.proofs.lemmas.Grind.{flat_map-append}
use Rattle.std.proofs.lemmas.List.{append-nil}
use Rattle.chain.specs.Ledgers.{LedgersMeaning, Tenants}
use Rattle.ledger_http.specs.declared.reply.Reply.{Reply}
use Rattle.ledger_http.specs.ReplyText.{reply_text}
use Rattle.service.specs.Connections.{texts_of}
use Rattle.clients.specs.Talk.{Talk, owed}
use Rattle.clients.specs.Answering.{MayCome}
use Rattle.clients.specs.Turns.{Sent, ToldReply, if_told, told_to, Hears, HearTheirOwn}
use Rattle.clients.specs.Deeds.{Room, Act, IsActed, Lives, if_own, come_from, written_in, written_to, told_in, all_told, came_in, sent_with, clients_of, MightCome, AreExchanges, AreWritten}
use Rattle.service.specs.InTurn.{Nothing, More}
use Rattle.polling.specs.Serving.{Hall, Terms, Occurs, Did, Tells, Stirs, Puts_off, Joins, Goes, Again, Rests, Passes, Fails, Proceeds, Begin, Then}
use Rattle.polling.specs.Laws.{EachIsServed, ReadsBy, ReadsThrough, machines_by, machines_in}

-- what is heard behind what was heard
hears_on :
    {S C : Type 0} (t : LedgersMeaning S) (gives : C → ℕ → C → Type 0) (first mid last : Sent)
    (before more : List Reply) → Hears S C t gives first before mid → Hears S C t gives mid more last →
    Hears S C t gives first (before ++ more) last
hears_on {S} {C} t gives first mid last before more heard Nothing =
    subst (λ (all : List Reply). Hears S C t gives first all mid) (sym (append-nil before)) heard
hears_on {S} {C} t gives first mid last before more heard (More replies behind reply next rest one) =
    subst (λ (all : List Reply). Hears S C t gives first all next)
    (append_assoc before replies (reply ∷ []))
    (More (before ++ replies) behind reply next
    (hears_on t gives first mid behind before replies heard rest) one)

texts-append : (front back : List Reply) → texts_of (front ++ back) ≡ texts_of front ++ texts_of back
texts-append [] back = refl
texts-append (reply ∷ front) back =
    ap (λ (rest : List ℕ). reply_text reply ++ rest) (texts-append front back)
    ∙ sym (append_assoc (reply_text reply) (texts_of front) (texts_of back))

told_to-append :
    (client : ℕ) (before more : List Act) →
    told_to client (all_told (before ++ more))
    ≡ told_to client (all_told before) ++ told_to client (all_told more)
told_to-append client before more =
    ap (λ (told : List ToldReply). told_to client told) (flat_map-append told_in before more)
    ∙ flat_map-append (if_told client) (all_told before) (all_told more)

own : (client : ℕ) (items : List ℕ) → if_own client client items ≡ items
own client items = ap (λ b. if b then items else []) (eq-eqb client client refl)

of_other : (client other : ℕ) (items : List ℕ) → other ≢ client → if_own other client items ≡ []
of_other client other items differ =
    ap (λ b. if b then items else [])
    (ne_eqb client other (λ (same : client ≡ other). differ (sym same)))

-- only this client sends something later
only :
    (talks : ℕ → Talk) (client : ℕ) (later : List ℕ) → MayCome (talks client).unread later →
    (each : ℕ) → MayCome (talks each).unread (if_own each client later)
only talks client later may each =
    ⊎_elim
    (λ (same : each ≡ client).
    subst (λ (i : ℕ). MayCome (talks i).unread (if_own i client later)) (sym same)
    (subst (λ (bytes : List ℕ). MayCome (talks client).unread bytes) (sym (own client later)) may))
    (λ (differ : each ≢ client). λ ended. of_other client each later differ)
    (cases_eq each client)

module _ {S C P : Type 0} (r : Terms S C P) where
  one_deed :
      (old new : Room S C) (deed : Act) → IsActed r.means r.gives old deed new →
      Lives S C r.means r.gives old (deed ∷ []) new
  one_deed old new deed done = More [] old deed new Nothing done

  -- what one client hears by what happens
  abbrev pub HearsBy : Room S C → List Act → Room S C → ℕ → List ℕ → Type 0
  HearsBy first deeds last client later =
      Hears S C r.means r.gives (sent_with (come_from client deeds ++ later) (first.talks client))
      (told_to client (all_told deeds)) (sent_with later (last.talks client))

  deeds_heard :
      HearTheirOwn r.means r.gives → AreExchanges r.means r.gives → (old new : Room S C)
      (deeds : List Act) → Lives S C r.means r.gives old deeds new → (client : ℕ)
      (later : List ℕ) →
      MayCome (new.talks client).unread later → HearsBy old deeds new client later
  deeds_heard hear exchanges old new deeds lives client later may =
      subst
      (λ (bytes : List ℕ).
      Hears S C r.means r.gives
      (sent_with (come_from client deeds ++ bytes) (old.talks client))
      (told_to client (all_told deeds)) (sent_with bytes (new.talks client)))
      (own client later)
      (hear
      (clients_of old (λ (i : ℕ). come_from i deeds ++ if_own i client later))
      (clients_of new (λ (i : ℕ). if_own i client later)) (all_told deeds)
      (exchanges old new deeds lives
      (λ (i : ℕ). if_own i client later) (only new.talks client later may))
      client)

  step_heard :
      HearTheirOwn r.means r.gives → AreExchanges r.means r.gives → (last next : Hall S C P)
      (more : List Act) → Occurs S C P r last more next → (client : ℕ) (later : List ℕ) →
      MayCome (next.room.talks client).unread later → HearsBy last.room more next.room client later
  step_heard hear exchanges last next more (Did deed room peers live done settled hands) client later may =
      deeds_heard hear exchanges last.room room (deed ∷ []) (one_deed last.room room deed done) client
      later may
  step_heard hear exchanges last next more (Tells fresh told peers free does) client later may = Nothing
  step_heard hear exchanges last next more (Stirs doing peers may_stir does) client later may = Nothing
  step_heard hear exchanges last next more (Puts_off who peers is does) client later may = Nothing
  step_heard hear exchanges last next more (Joins who away) client later may = Nothing
  step_heard hear exchanges last next more (Goes who peers may_go) client later may = Nothing
  step_heard hear exchanges last next more (Again ledgers moments given asked renews) client later may = Nothing
  step_heard hear exchanges last next more (Rests ledgers same) client later may = Nothing
  step_heard hear exchanges last next more (Passes moments given passed) client later may = Nothing
  step_heard hear exchanges last next more (Fails deeds room ledgers stands lives told failed begun) client later
      may =
      deeds_heard hear exchanges last.room room deeds lives client later may

  deed_may :
      MightCome r.means r.gives → (old new : Room S C) (deed : Act) →
      IsActed r.means r.gives old deed new → (client : ℕ) (later : List ℕ) →
      MayCome (new.talks client).unread later →
      MayCome (old.talks client).unread (came_in client deed ++ later)
  deed_may might old new deed done client later may =
      subst
      (λ (bytes : List ℕ). MayCome (old.talks client).unread (came_in client deed ++ bytes))
      (own client later)
      (might old new deed done (λ (i : ℕ). if_own i client later)
      (only new.talks client later may) client)

  deeds_may :
      MightCome r.means r.gives → (first last : Room S C) (deeds : List Act) →
      Lives S C r.means r.gives first deeds last → (client : ℕ) (later : List ℕ) →
      MayCome (last.talks client).unread later →
      MayCome (first.talks client).unread (come_from client deeds ++ later)
  deeds_may might first last deeds Nothing client later may = may
  deeds_may might first last deeds (More before mid deed next lives done) client later may =
      subst
      (λ (bytes : List ℕ). MayCome (first.talks client).unread bytes)
      (sym (append_assoc (come_from client before) (came_in client deed) later)
      ∙ ap (λ (bytes : List ℕ). (come_from client before ++ bytes) ++ later)
      (sym (append-nil (came_in client deed)))
      ∙ ap (λ (bytes : List ℕ). bytes ++ later)
      (sym (flat_map-append (came_in client) before (deed ∷ []))))
      (deeds_may might first mid before lives client (came_in client deed ++ later)
      (deed_may might mid next deed done client later may))

  step_may :
      MightCome r.means r.gives → (last next : Hall S C P) (more : List Act) →
      Occurs S C P r last more next → (client : ℕ) (later : List ℕ) →
      MayCome (next.room.talks client).unread later →
      MayCome (last.room.talks client).unread (come_from client more ++ later)
  step_may might last next more (Did deed room peers live done settled hands) client later may =
      deeds_may might last.room room (deed ∷ []) (one_deed last.room room deed done) client later may
  step_may might last next more (Tells fresh told peers free does) client later may = may
  step_may might last next more (Stirs doing peers may_stir does) client later may = may
  step_may might last next more (Puts_off who peers is does) client later may = may
  step_may might last next more (Joins who away) client later may = may
  step_may might last next more (Goes who peers may_go) client later may = may
  step_may might last next more (Again ledgers moments given asked renews) client later may = may
  step_may might last next more (Rests ledgers same) client later may = may
  step_may might last next more (Passes moments given passed) client later may = may
  step_may might last next more (Fails deeds room ledgers stands lives told failed begun) client later may =
      deeds_may might last.room room deeds lives client later may

  all_heard :
      MightCome r.means r.gives → HearTheirOwn r.means r.gives → AreExchanges r.means r.gives →
      (first last : Hall S C P) (deeds : List Act) → Proceeds S C P r first deeds last →
      (client : ℕ) (later : List ℕ) → MayCome (last.room.talks client).unread later →
      HearsBy first.room deeds last.room client later
  all_heard might hear exchanges first last deeds Begin client later may = Nothing
  all_heard might hear exchanges first last deeds (Then before mid more next serves happens) client
      later may =
      let came = come_from client more ++ later in
      let earlier =
      all_heard might hear exchanges first mid before serves client came
      (step_may might mid next more happens client later may) in
      subst
      (λ (bytes : List ℕ).
      Hears S C r.means r.gives (sent_with bytes (first.room.talks client))
      (told_to client (all_told (before ++ more))) (sent_with later (next.room.talks client)))
      (sym (append_assoc (come_from client before) (come_from client more) later)
      ∙ ap (λ (bytes : List ℕ). bytes ++ later) (sym (flat_map-append (came_in client) before more)))
      (subst
      (λ (replies : List Reply).
      Hears S C r.means r.gives
      (sent_with (come_from client before ++ came) (first.room.talks client)) replies
      (sent_with later (next.room.talks client)))
      (sym (told_to-append client before more))
      (hears_on r.means r.gives
      (sent_with (come_from client before ++ came) (first.room.talks client))
      (sent_with came (mid.room.talks client)) (sent_with later (next.room.talks client))
      (told_to client (all_told before)) (told_to client (all_told more)) earlier
      (step_heard hear exchanges mid next more happens client later may)))

  -- what was written, and what is owed, is what was owed and the replies
  abbrev pub WritesBy : Tenants → Room S C → List Act → Tenants → Room S C → ℕ → Type 0
  WritesBy before first deeds now last client =
      written_to client deeds ++ owed now (last.talks client)
      ≡ owed before (first.talks client) ++ texts_of (told_to client (all_told deeds))

  step_written :
      AreWritten r.means r.gives → (last next : Hall S C P) (more : List Act)
      (happens : Occurs S C P r last more next) (before : Tenants) (client : ℕ) →
      ReadsBy before client happens →
      WritesBy before last.room more (machines_by before happens client) next.room client
  unfolding one_deed
  step_written written last next more (Did deed room peers live done settled hands) before client yet =
      written last.room room (deed ∷ []) (one_deed last.room room deed done) before client (tt, yet)
  step_written written last next more (Tells fresh told peers free does) before client yet =
      sym (append-nil (owed before (last.room.talks client)))
  step_written written last next more (Stirs doing peers may_stir does) before client yet =
      sym (append-nil (owed before (last.room.talks client)))
  step_written written last next more (Puts_off who peers is does) before client yet =
      sym (append-nil (owed before (last.room.talks client)))
  step_written written last next more (Joins who away) before client yet =
      sym (append-nil (owed before (last.room.talks client)))
  step_written written last next more (Goes who peers may_go) before client yet =
      sym (append-nil (owed before (last.room.talks client)))
  step_written written last next more (Again ledgers moments given asked renews) before client yet =
      sym (append-nil (owed before (last.room.talks client)))
  step_written written last next more (Rests ledgers same) before client yet =
      sym (append-nil (owed before (last.room.talks client)))
  step_written written last next more (Passes moments given passed) before client yet =
      sym (append-nil (owed before (last.room.talks client)))
  step_written written last next more (Fails deeds room ledgers stands lives told failed begun) before
      client yet =
      written last.room room deeds lives before client yet

  all_written :
      AreWritten r.means r.gives → (first last : Hall S C P) (deeds : List Act)
      (serves : Proceeds S C P r first deeds last) (before : Tenants) (client : ℕ) →
      ReadsThrough before client serves →
      WritesBy before first.room deeds (machines_in before serves client) last.room client
  all_written written first last deeds Begin before client goes =
      sym (append-nil (owed before (last.room.talks client)))
  all_written written first last deeds (Then earlier mid more next serves happens) before client goes =
      let to_be = owed before (first.room.talks client) in
      let then_mid = machines_in before serves client in
      let now = owed (machines_by then_mid happens client) (next.room.talks client) in
      let texts_before = texts_of (told_to client (all_told earlier)) in
      let texts_more = texts_of (told_to client (all_told more)) in
      ap (λ (front : List ℕ). front ++ now) (flat_map-append (written_in client) earlier more)
      ∙ append_assoc (written_to client earlier) (written_to client more) now
      ∙ ap (λ (rest : List ℕ). written_to client earlier ++ rest)
      (step_written written mid next more happens then_mid client goes.1)
      ∙ sym (append_assoc (written_to client earlier) (owed then_mid (mid.room.talks client)) texts_more)
      ∙ ap (λ (front : List ℕ). front ++ texts_more)
      (all_written written first mid earlier serves before client goes.0)
      ∙ append_assoc to_be texts_before texts_more
      ∙ ap (λ (rest : List ℕ). to_be ++ rest)
      (sym (texts-append (told_to client (all_told earlier)) (told_to client (all_told more))))
      ∙ ap (λ (replies : List Reply). to_be ++ texts_of replies)
      (sym (told_to-append client earlier more))

  pub each_is_served :
      MightCome r.means r.gives → HearTheirOwn r.means r.gives → AreExchanges r.means r.gives →
      AreWritten r.means r.gives → EachIsServed r
  each_is_served might hear exchanges written first last deeds serves before client goes new later may = record {
    replies = told_to client (all_told deeds);
    heard =
        subst
        (λ (talk : Talk).
        Hears S C r.means r.gives (sent_with (come_from client deeds ++ later) talk)
        (told_to client (all_told deeds)) (sent_with later (last.room.talks client)))
        new (all_heard might hear exchanges first last deeds serves client later may);
    begun =
        all_written written first last deeds serves before client goes
        ∙ ap (λ (talk : Talk). owed before talk ++ texts_of (told_to client (all_told deeds))) new;
  }
