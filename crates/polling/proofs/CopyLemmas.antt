-- Messages that are copied for a round.
use Rattle.std.proofs.Common.{◌≡◌, ◌≢◌, ◌⊎◌, inl, inr, refl, sym, ◌∙◌, subst, ℕ, List, [], ◌∷◌, ◌++◌, Option, Some, Result, Err, arith}
use Rattle.std.proofs.Math.Path.{fun_ext}
use Rattle.records.specs.declared.unavailable.Unavailable.{Unavailable}
use Rattle.records.specs.declared.unavailable.Unavailable.TheVariants.{Memory, Size, Disk}
use Rattle.chain.specs.Ledgers.{LedgersMeaning, KeepsAll}
use Rattle.ledger_http.specs.declared.reply.Reply.{Reply}
use Rattle.service.specs.declared.turns.Message.{Message}
use Rattle.service.specs.EventLaws.{all_append}
use Rattle.clients.specs.Talk.{Talk}
use Rattle.service.specs.Seen.{Whole, Within}
use Rattle.service.specs.Turns.{TakeTurns}
use Rattle.polling.specs.Peers.{Doing}
use Rattle.polling.specs.Serving.{rules, AreGiven, IsFoundAgain}
use Rattle.polling.specs.Seating.{held, AreSame, ServesEach}
use Rattle.polling.specs.Round.{IsCopyOf, IsNextMessage, IsNoneOf, AreCopied, moments_of, AreGathered}
use Rattle.polling.specs.Round.{ArePut, IsLost, AreToldLost}
use Rattle.polling.proofs.AllLemmas.{then_each, unchanged}
use Rattle.polling.proofs.RestLemmas.{passes_all, rests_all}
use Rattle.polling.specs.declared.round.Member.{Member}

memory_differs : Memory ≢ Disk
memory_differs same = cc

size_differs : Size ≢ Disk
size_differs same = cc

-- want of memory or size is no failure of the disk
pub disk_stands : (why : Unavailable) → (why ≡ Memory) ⊎ (why ≡ Size) → why ≢ Disk
disk_stands why (inl memory) disk = memory_differs (sym memory ∙ disk)
disk_stands why (inr size) disk = size_differs (sym size ∙ disk)

-- a round that was refused otherwise was not lost with the disk
pub not_lost :
    {O : Type 0} (result : Result O Unavailable) (why : Unavailable) → result ≡ Err why →
    why ≢ Disk → result ≢ Err Disk
not_lost {O} result why is differs same =
    let lost : ◌≡◌ {A = Result O Unavailable} (Err why) (Err Disk) = sym is ∙ same in
    differs (let all : why ≡ Disk = cc in all)

copied_more :
    (seats : ℕ → Option Talk) (members : List Member) (messages : List Message) (member : Member)
    (message : Message) → AreCopied seats members messages → IsNextMessage seats member message →
    IsNoneOf member.number members →
    AreCopied seats (members ++ member ∷ []) (messages ++ message ∷ [])
copied_more seats [] [] member message copied one none = (one, tt, tt)
copied_more seats [] (x ∷ messages) member message copied one none = absurd copied
copied_more seats (m ∷ members) [] member message copied one none = absurd copied
copied_more seats (m ∷ members) (x ∷ messages) member message copied one none = (
  copied.0,
  all_append (λ (other : Member). other.number ≢ m.number) members (member ∷ []) copied.1
      (λ same. none.0 (sym same), tt),
  copied_more seats members messages member message copied.2 one none.1,
)

given_more :
    {C : Type 0} (gives : C → ℕ → C → Type 0) (first now last : C) (messages : List Message)
    (message : Message) → AreGiven gives first (moments_of messages) now →
    gives now message.moment last →
    AreGiven gives first (moments_of (messages ++ message ∷ [])) last
given_more {C} gives first now last [] message same given =
    (last, subst (λ (from : C). gives from message.moment last) same given, refl)
given_more gives first now last (x ∷ messages) message before given =
    (before.0, before.1, given_more gives before.0 now last messages message before.2 given)

-- one more is copied
pub gathered_more :
    {C : Type 0} (gives : C → ℕ → C → Type 0) (seats old : ℕ → Option Talk) (first now last : C)
    (members members_now : List Member) (messages messages_now : List Message) (member : Member)
    (message : Message) (talk : Talk) → members_now ≡ members ++ member ∷ [] →
    messages_now ≡ messages ++ message ∷ [] → AreSame seats old →
    old member.number ≡ Some talk → IsCopyOf talk member.size message.bytes.items →
    IsNoneOf member.number members → gives now message.moment last →
    AreGathered gives seats first members messages now →
    AreGathered gives seats first members_now messages_now last
gathered_more {C} gives seats old first now last members members_now messages messages_now member
    message talk grown more same seated copy none given before =
    subst (λ (ms : List Member). AreGathered gives seats first ms messages_now last) (sym grown)
    (subst
    (λ (xs : List Message). AreGathered gives seats first (members ++ member ∷ []) xs last)
    (sym more)
    (record {
      copied =
          copied_more seats members messages member message before.copied
          (talk, sym (same member.number) ∙ seated, copy) none;
      given = given_more gives first now last messages message before.given given;
    }))

-- nothing is copied yet
pub gathered_none :
    {C : Type 0} (gives : C → ℕ → C → Type 0) (seats : ℕ → Option Talk) (first : C)
    (members : List Member) (messages : List Message) → members ≡ [] → messages ≡ [] →
    AreGathered gives seats first members messages first
gathered_none gives seats first members messages nobody nothing =
    subst (λ (ms : List Member). AreGathered gives seats first ms messages first) (sym nobody)
    (subst (λ (xs : List Message). AreGathered gives seats first [] xs first) (sym nothing)
    (record { copied = tt; given = refl }))

-- other lists, which are the same
pub gathered_same :
    {C : Type 0} (gives : C → ℕ → C → Type 0) (seats : ℕ → Option Talk) (first last : C)
    (members members_now : List Member) (messages messages_now : List Message) →
    members_now ≡ members → messages_now ≡ messages →
    AreGathered gives seats first members messages last →
    AreGathered gives seats first members_now messages_now last
gathered_same gives seats first last members members_now messages messages_now ms xs before =
    subst (λ (all : List Member). AreGathered gives seats first all messages_now last) (sym ms)
    (subst (λ (all : List Message). AreGathered gives seats first members all last) (sym xs) before)

-- seats that are the same
pub copied_as_before :
    (seats seats_now : ℕ → Option Talk) (members : List Member) (messages : List Message) →
    AreSame seats seats_now → AreCopied seats members messages → AreCopied seats_now members messages
copied_as_before seats seats_now members messages same copied =
    subst (λ (all : ℕ → Option Talk). AreCopied all members messages)
    (fun_ext (λ client. sym (same client))) copied

module _ {S C P : Type 0} (t : LedgersMeaning S) (gives : C → ℕ → C → Type 0)
    (renews : Option ℕ → S → S → Type 0) (waits : List ℕ → Type 0) (does : P → Doing → P → Type 0) where
  -- moments were given for messages that are answered otherwise
  pub only_copied :
      (ledgers : S) (moments moments_now : C) (peers : P) (seats seats_now : ℕ → Option Talk)
      (next : ℕ) (messages : List Message) → AreSame seats seats_now →
      AreGiven gives moments (moments_of messages) moments_now →
      ServesEach (rules t gives renews waits does) (held (Whole ledgers) moments peers seats next)
      (held (Whole ledgers) moments_now peers seats_now next) 0
  only_copied ledgers moments moments_now peers seats seats_now next messages same given =
      let r = rules t gives renews waits does in
      then_each r (held (Whole ledgers) moments peers seats next)
      (held (Whole ledgers) moments peers seats_now next)
      (held (Whole ledgers) moments_now peers seats_now next) 0 0 0 refl
      (unchanged same (λ one found. found))
      (passes_all r (Whole ledgers) moments moments_now (moments_of messages) peers seats_now next
      given)

  -- a round was taken back
  pub taken_back :
      (ledgers ledgers_now : S) (moments moments_now : C) (peers : P)
      (seats seats_now : ℕ → Option Talk) (next : ℕ) (messages : List Message) →
      AreSame seats seats_now → AreGiven gives moments (moments_of messages) moments_now →
      t.follows ledgers ledgers_now → (t.is_live ledgers_now → t.is_live ledgers) →
      (t.is_live ledgers_now → KeepsAll (t.tenants ledgers) (t.tenants ledgers_now)) →
      IsFoundAgain t ledgers_now →
      ServesEach (rules t gives renews waits does) (held (Whole ledgers) moments peers seats next)
      (held (Whole ledgers_now) moments_now peers seats_now next) 0
  taken_back ledgers ledgers_now moments moments_now peers seats seats_now next messages same given
      follows lived kept found =
      let r = rules t gives renews waits does in
      then_each r (held (Whole ledgers) moments peers seats next)
      (held (Whole ledgers) moments peers seats_now next)
      (held (Whole ledgers_now) moments_now peers seats_now next) 0 0 0 refl
      (unchanged same (λ one found. found))
      (rests_all r (Whole ledgers) (Whole ledgers_now) moments moments_now (moments_of messages) peers
      seats_now next (record { follows = follows; lived = lived; same = kept; found = found }) given)

  -- a round was kept, and its replies are put
  pub kept_and_put :
      (ledgers ledgers_now : S) (moments moments_now : C) (peers peers_now : P)
      (seats seats_now seats_then : ℕ → Option Talk) (next : ℕ) (messages : List Message)
      (replies : List Reply) (count : ℕ) → AreSame seats seats_now →
      AreGiven gives moments (moments_of messages) moments_now → t.follows ledgers ledgers_now →
      (t.is_live ledgers_now → t.is_live ledgers) → t.follows ledgers_now ledgers_now →
      (t.is_live ledgers_now →
      TakeTurns messages (t.tenants ledgers) replies (t.tenants ledgers_now)) →
      IsFoundAgain t ledgers_now →
      ArePut t gives renews waits does messages replies peers seats_now peers_now seats_then count →
      ServesEach (rules t gives renews waits does) (held (Whole ledgers) moments peers seats next)
      (held (Whole ledgers_now) moments_now peers_now seats_then next) count
  kept_and_put ledgers ledgers_now moments moments_now peers peers_now seats seats_now seats_then next
      messages replies count same given follows lived stays turns found put =
      let r = rules t gives renews waits does in
      let begun = Within ledgers_now (t.tenants ledgers) in
      then_each r (held (Whole ledgers) moments peers seats next)
      (held (Whole ledgers) moments peers seats_now next)
      (held (Whole ledgers_now) moments_now peers_now seats_then next) 0 count count (omega arith)
      (unchanged same (λ one found. found))
      (then_each r (held (Whole ledgers) moments peers seats_now next)
      (held begun moments peers seats_now next)
      (held (Whole ledgers_now) moments_now peers_now seats_then next) 0 count count (omega arith)
      (rests_all r (Whole ledgers) begun moments moments [] peers seats_now next
      (record {
        follows = follows;
        lived = lived;
        same = λ live digest. refl;
        found = λ found may. may;
      })
      refl)
      (put ledgers_now (t.tenants ledgers) moments moments_now next stays found
      (record { given = given; turns = turns })))

  -- a round was lost with the disk, and its clients are told
  pub lost_and_told :
      (ledgers ledgers_now : S) (moments moments_now : C) (peers : P)
      (seats seats_now seats_then : ℕ → Option Talk) (next : ℕ) (messages : List Message)
      (count : ℕ) → AreSame seats seats_now →
      AreGiven gives moments (moments_of messages) moments_now → t.follows ledgers ledgers →
      IsLost t ledgers messages ledgers_now →
      AreToldLost t gives renews waits does messages seats_now seats_then count →
      ServesEach (rules t gives renews waits does) (held (Whole ledgers) moments peers seats next)
      (held (Whole ledgers_now) moments_now peers seats_then next) count
  lost_and_told ledgers ledgers_now moments moments_now peers seats seats_now seats_then next messages
      count same given stays lost told =
      let r = rules t gives renews waits does in
      then_each r (held (Whole ledgers) moments peers seats next)
      (held (Whole ledgers) moments peers seats_now next)
      (held (Whole ledgers_now) moments_now peers seats_then next) 0 count count (omega arith)
      (unchanged same (λ one found. found))
      (told ledgers ledgers_now moments moments_now peers next stays given lost)
