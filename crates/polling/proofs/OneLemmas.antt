-- One client among all: what is done for it is done in a hall.
use Rattle.std.proofs.Common.{◌≡◌, ◌≢◌, refl, ap, sym, ◌∙◌, subst, ℕ, Bool, true, false, List, [], ◌∷◌, ◌++◌, append_assoc, length, ◌+◌, take, Option, Some, None}
use Rattle.std.proofs.lemmas.Bool.{true≢false}
use Rattle.std.proofs.lemmas.List.{append-nil, take-append-drop, length-append}
use Rattle.std.proofs.lemmas.Grind.{flat_map-append}
use Rattle.ledger_http.specs.declared.reply.Reply.{Reply}
use Rattle.parts.specs.declared.rest.Part.{Part}
use Rattle.clients.specs.Talk.{Talk, continued, received, input_ended, written, may_answer}
use Rattle.clients.specs.Answering.{IsUnmoved, IsWanting, IsReplyReady}
use Rattle.clients.specs.Deeds.{Act, Came, Replied, Continued, Wrote, client_of, Does, IsNextPart, told_in, all_told}
use Rattle.clients.specs.Deeds as deed
use Rattle.clients.proofs.ClientLemmas.{at_other, at_own, by_client}
use Rattle.service.specs.Seen.{Whole}
use Rattle.polling.specs.Peers.{Gave, Ended, Handed, Took, Stirred, Hands}
use Rattle.polling.specs.Standing.{Standing, Owed, begun, rested, with_standing, stands_after, MayGo, Lost_piece}
use Rattle.service.specs.Openings.{run_meaning, IsSettled}
use Rattle.polling.specs.Serving.{Hall, hall, Terms, Settles, IsDueOf, Occurs, Did, Stirs, Goes, Again, Proceeds, Begin, Then}
use Rattle.polling.specs.Seating.{with_talk, ServesOne, SeatsNow, HasMoved, gone_by, stands_by, replies_in}
use Rattle.polling.specs.declared.step.Step.{Step}
use Rattle.polling.specs.declared.step.Step.TheVariants as step
use Rattle.polling.proofs.StandLemmas.{standing-own, begun_unowed}

-- what follows is done behind what was done
pub serves_on :
    {S C P : Type 0} (r : Terms S C P) (first mid last : Hall S C P) (before more : List Act) →
    Proceeds S C P r first before mid → Proceeds S C P r mid more last →
    Proceeds S C P r first (before ++ more) last
serves_on {S} {C} {P} r first mid last before more did Begin =
    subst (λ (all : List Act). Proceeds S C P r first all mid) (sym (append-nil before)) did
serves_on {S} {C} {P} r first mid last before more did (Then deeds then_hall next_deeds next rest happens) =
    subst (λ (all : List Act). Proceeds S C P r first all next) (append_assoc before deeds next_deeds)
    (Then (before ++ deeds) then_hall next_deeds next
    (serves_on r first mid then_hall before deeds did rest) happens)

-- the replies of both
pub replies_both :
    (before more : List Act) (first second all : ℕ) → replies_in before ≡ first →
    replies_in more ≡ second → first + second ≡ all → replies_in (before ++ more) ≡ all
replies_both before more first second all of_first of_second sum =
    ap (λ told. length told) (flat_map-append told_in before more)
    ∙ length-append (all_told before) (all_told more)
    ∙ ap (λ n. n + replies_in more) of_first
    ∙ ap (λ n. first + n) of_second
    ∙ sum

pub once :
    {S C P : Type 0} (r : Terms S C P) (first last : Hall S C P) (deeds : List Act) →
    Occurs S C P r first deeds last → Proceeds S C P r first deeds last
once r first last deeds happens = Then [] first deeds last Begin happens

pub with_talk-own : (client : ℕ) (talk : Talk) (talks : ℕ → Talk) → with_talk client talk talks client ≡ talk
with_talk-own client talk talks = at_own client talk talks

pub with_talk-other :
    (client other : ℕ) (talk : Talk) (talks : ℕ → Talk) → other ≢ client →
    with_talk client talk talks other ≡ talks other
with_talk-other client other talk talks differ = at_other client other talk talks differ

-- what holds of the talk in one seat as it is now, and in all others as they were, holds of each now
pub by_seat :
    (P : ℕ → Talk → Type 0) (client : ℕ) (seat_now : Option Talk) (seats seats_now : ℕ → Option Talk) →
    SeatsNow client seat_now seats seats_now →
    ((talk : Talk) → seat_now ≡ Some talk → P client talk) →
    ((other : ℕ) → other ≢ client → (talk : Talk) → seats other ≡ Some talk → P other talk) →
    (each : ℕ) (talk : Talk) → seats_now each ≡ Some talk → P each talk
by_seat P client seat_now seats seats_now now own others =
    by_client (λ each. (talk : Talk) → seats_now each ≡ Some talk → P each talk) client
    (λ talk is. own talk (sym now.0 ∙ is))
    (λ other differ talk is. others other differ talk (sym (now.1 other differ) ∙ is))

-- a deed of one client
pub did_one :
    {S C P : Type 0} (r : Terms S C P) (deed : Act) (ledgers ledgers_now : S) (moments moments_now : C)
    (peers peers_now : P) (talk talk_now : Talk) (talks : ℕ → Talk) (gone : ℕ → Bool)
    (stands : ℕ → Standing) → gone (client_of deed) ≡ false → IsDueOf deed talk →
    Does r.means r.gives deed ledgers moments talk ledgers_now moments_now talk_now →
    Settles r.means deed ledgers_now → Hands r.does deed talk_now peers peers_now →
    Proceeds S C P r (hall ledgers moments peers (with_talk (client_of deed) talk talks) gone stands) (deed ∷ [])
    (hall ledgers_now moments_now peers_now (with_talk (client_of deed) talk_now talks) gone
    (stands_after (deed ∷ []) stands))
did_one {S} {C} {P} r deed ledgers ledgers_now moments moments_now peers peers_now talk talk_now talks
    gone stands stays due does settled hands =
    let client = client_of deed in
    once r (hall ledgers moments peers (with_talk client talk talks) gone stands)
    (hall ledgers_now moments_now peers_now (with_talk client talk_now talks) gone
    (stands_after (deed ∷ []) stands)) (deed ∷ [])
    (Did deed
    (record {
      ledgers = ledgers_now;
      moments = moments_now;
      talks = with_talk client talk_now talks;
    })
    peers_now
    (record {
      there = stays;
      due = subst (IsDueOf deed) (sym (with_talk-own client talk talks)) due;
    })
    (record {
      does =
          subst
          (λ (old : Talk).
          Does r.means r.gives deed ledgers moments old ledgers_now moments_now
          (with_talk client talk_now talks client))
          (sym (with_talk-own client talk talks))
          (subst
          (λ (new : Talk).
          Does r.means r.gives deed ledgers moments talk ledgers_now moments_now new)
          (sym (with_talk-own client talk_now talks)) does);
      others =
          λ other differ.
          with_talk-other client other talk_now talks differ
          ∙ sym (with_talk-other client other talk talks differ);
    })
    settled
    (subst (λ (now : Talk). Hands r.does deed now peers peers_now)
    (sym (with_talk-own client talk_now talks)) hands))

-- what has not changed between transactions has not changed
pub whole_unmoved :
    {S C T : Type 0} {ledgers ledgers_now : S} {moments moments_now : C} {old new : T} →
    IsUnmoved ledgers moments old ledgers_now moments_now new →
    IsUnmoved (Whole ledgers) moments old (Whole ledgers_now) moments_now new
whole_unmoved unmoved = record {
  ledgers_same = ap Whole unmoved.ledgers_same;
  moments_same = unmoved.moments_same;
  same = unmoved.same;
}

-- one client was served, and stays
abbrev pub Stays :
    {S C P : Type 0} → Terms S C P → ℕ → S → C → P → Talk → S → C → P → Talk → Bool → ℕ → Type 0
Stays r client ledgers moments peers talk ledgers_now moments_now peers_now talk_now idle replies =
    ServesOne r client ledgers moments peers talk ledgers_now moments_now peers_now talk_now step.More
    idle replies

-- behind a deed of a client its turn is begun
did_begin :
    (deed : Act) (stands : ℕ → Standing) → false ≡ false →
    stands_after (deed ∷ []) stands (client_of deed) ≢ Owed
did_begin deed stands moved owed =
    begun_unowed (stands (client_of deed))
    (sym (standing-own (client_of deed) (begun (stands (client_of deed))) stands) ∙ owed)

module _ {S C P : Type 0} {r : Terms S C P} {client : ℕ} where
  -- nothing is done
  pub nothing :
      {ledgers : S} {moments : C} {peers : P} {talk : Talk} →
      Stays r client ledgers moments peers talk ledgers moments peers talk true 0
  nothing = record {
    leads = λ talks gone stands stays.
        ([], Begin, refl, λ (moved : true ≡ false). absurd (true≢false moved));
  }

  -- nothing has changed
  pub unmoved :
      {ledgers ledgers_now : S} {moments moments_now : C} {peers : P} {talk talk_now : Talk} →
      IsUnmoved ledgers moments talk ledgers_now moments_now talk_now →
      Stays r client ledgers moments peers talk ledgers_now moments_now peers talk_now true 0
  unmoved {ledgers} {moments} {moments_now} {peers} {talk} {talk_now} same =
      subst
      (λ (l : S). Stays r client ledgers moments peers talk l moments_now peers talk_now true 0)
      (sym same.ledgers_same)
      (subst
      (λ (m : C). Stays r client ledgers moments peers talk ledgers m peers talk_now true 0)
      (sym same.moments_same)
      (subst
      (λ (now : Talk). Stays r client ledgers moments peers talk ledgers moments peers now true 0)
      (sym same.same) nothing))

  -- something happens in which nothing is done for it
  happens_once :
      {ledgers ledgers_now : S} {moments : C} {peers peers_now : P} {talk : Talk} (last : Step)
      (idle : Bool) →
      ((standing : Standing) → HasMoved last idle standing) →
      ((talks : ℕ → Talk) (gone : ℕ → Bool) (stands : ℕ → Standing) →
      Occurs S C P r (hall ledgers moments peers (with_talk client talk talks) gone stands) []
      (hall ledgers_now moments peers_now (with_talk client talk talks) (gone_by last client gone)
      (stands_by last client [] stands))) →
      ServesOne r client ledgers moments peers talk ledgers_now moments peers_now talk last idle 0
  happens_once {ledgers} {ledgers_now} {moments} {peers} {peers_now} {talk} last idle moved happens =
      record {
        leads = λ talks gone stands stays. (
          [],
          once r (hall ledgers moments peers (with_talk client talk talks) gone stands)
              (hall ledgers_now moments peers_now (with_talk client talk talks)
              (gone_by last client gone) (stands_by last client [] stands))
              [] (happens talks gone stands),
          refl,
          moved (stands client),
        );
      }

  -- a client goes, for one of the reasons
  pub goes :
      {ledgers : S} {moments : C} {peers peers_now : P} {talk : Talk} →
      ((standing : Standing) → MayGo r.does client standing talk peers peers_now) →
      ServesOne r client ledgers moments peers talk ledgers moments peers_now talk step.Goes false 0
  goes {peers} {peers_now} {talk} may =
      happens_once step.Goes false (λ standing. tt)
      (λ talks gone stands.
      Goes client peers_now
      (subst (λ (t : Talk). MayGo r.does client (stands client) t peers peers_now)
      (sym (with_talk-own client talk talks)) (may (stands client))))

  -- a client goes, and what was read of it is lost
  pub loses :
      {ledgers : S} {moments : C} {peers peers_now : P} {talk talk_now : Talk} (piece : List ℕ) →
      IsWanting talk.unread → talk_now ≡ talk → r.does peers (Gave client piece) peers_now →
      ServesOne r client ledgers moments peers talk ledgers moments peers_now talk_now step.Goes false
      0
  loses {ledgers} {moments} {peers} {peers_now} {talk} piece more same does =
      subst
      (λ (now : Talk).
      ServesOne r client ledgers moments peers talk ledgers moments peers_now now step.Goes false 0)
      (sym same) (goes (λ standing. Lost_piece piece more does))

  -- it sends or takes nothing for now, where it may be tried
  pub stalled :
      {ledgers : S} {moments : C} {peers peers_now : P} {talk : Talk} (IsTried : Talk → Type 0) →
      IsTried talk →
      ((talks : ℕ → Talk) (gone : ℕ → Bool) (stands : ℕ → Standing) → IsTried (talks client) →
      Occurs S C P r (hall ledgers moments peers talks gone stands) []
      (hall ledgers moments peers_now talks gone
      (with_standing client (rested (stands client)) stands))) →
      ServesOne r client ledgers moments peers talk ledgers moments peers_now talk step.Waits false 0
  stalled {talk} IsTried tried happens =
      happens_once step.Waits false (λ standing. tt)
      (λ talks gone stands.
      happens (with_talk client talk talks) gone stands
      (subst IsTried (sym (with_talk-own client talk talks)) tried))

  -- something else happens among peers
  pub stirred :
      {ledgers : S} {moments : C} {peers peers_now : P} {talk : Talk} →
      r.does peers Stirred peers_now →
      Stays r client ledgers moments peers talk ledgers moments peers_now talk true 0
  stirred {peers_now} does =
      happens_once step.More true (λ standing (moved : true ≡ false). absurd (true≢false moved))
      (λ talks gone stands. Stirs Stirred peers_now tt does)

  -- the ledgers were seen to
  pub renewed :
      {ledgers ledgers_now : S} {moments : C} {peers : P} {talk : Talk} →
      r.renews None ledgers ledgers_now →
      Stays r client ledgers moments peers talk ledgers_now moments peers talk true 0
  renewed {ledgers_now} {moments} does =
      happens_once step.More true (λ standing (moved : true ≡ false). absurd (true≢false moved))
      (λ talks gone stands. Again ledgers_now moments None refl does)

  -- a deed of it was done, in which so many messages were replied to
  deed_done :
      {ledgers ledgers_now : S} {moments moments_now : C} {peers peers_now : P}
      {talk talk_now : Talk} (deed : Act) → client_of deed ≡ client → IsDueOf deed talk →
      Does r.means r.gives deed ledgers moments talk ledgers_now moments_now talk_now →
      Settles r.means deed ledgers_now → Hands r.does deed talk_now peers peers_now →
      Stays r client ledgers moments peers talk ledgers_now moments_now peers_now talk_now false
      (replies_in (deed ∷ []))
  deed_done {ledgers} {ledgers_now} {moments} {moments_now} {peers} {peers_now} {talk} {talk_now} deed
      is due does settled hands =
      subst
      (λ (c : ℕ).
      Stays r c ledgers moments peers talk ledgers_now moments_now peers_now talk_now false
      (replies_in (deed ∷ [])))
      is
      (record {
        leads = λ talks gone stands stays. (
          deed ∷ [],
          did_one r deed ledgers ledgers_now moments moments_now peers peers_now talk talk_now talks
              gone stands stays due does settled hands,
          refl,
          did_begin deed stands,
        );
      })

  -- a piece came
  pub came :
      {ledgers : S} {moments : C} {peers peers_now : P} {talk talk_now : Talk} (piece : List ℕ) →
      IsWanting talk.unread → talk_now ≡ received piece talk →
      r.does peers (Gave client piece) peers_now →
      Stays r client ledgers moments peers talk ledgers moments peers_now talk_now false 0
  came piece more is does =
      deed_done (Came client piece) refl more
      (record { ledgers_same = refl; moments_same = refl; same = is }, more.0) tt does

  -- the input ended
  pub ended :
      {ledgers : S} {moments : C} {peers peers_now : P} {talk talk_now : Talk} →
      IsWanting talk.unread → talk_now ≡ input_ended talk → r.does peers (Ended client) peers_now →
      Stays r client ledgers moments peers talk ledgers moments peers_now talk_now false 0
  ended more is does =
      deed_done (deed.Ended client) refl more
      (record { ledgers_same = refl; moments_same = refl; same = is }) tt does

  -- bytes were taken
  pub taken :
      {ledgers : S} {moments : C} {peers peers_now : P} {talk talk_now : Talk} (count : ℕ) →
      talk.unsent ≢ [] → talk_now ≡ written count talk →
      r.does peers (Took client (take count talk.unsent)) peers_now →
      Stays r client ledgers moments peers talk ledgers moments peers_now talk_now false 0
  taken {talk} count some is does =
      let bytes = take count talk.unsent in
      deed_done (Wrote client bytes) refl some
      (record {
        ledgers_same = refl;
        moments_same = refl;
        same =
            ap (λ (now : Talk). record now { unsent = bytes ++ now.unsent }) is
            ∙ ap (λ (all : List ℕ). record talk { unsent = all }) (take-append-drop count talk.unsent);
      })
      tt does

  -- the next part of a reply was read
  pub continues :
      {ledgers : S} {moments : C} {peers : P} {talk talk_now : Talk} {part : Part} →
      talk_now ≡ continued part talk → IsNextPart r.means ledgers talk part →
      Stays r client ledgers moments peers talk ledgers moments peers talk_now false 0
  continues {part} is next =
      deed_done (Continued client part) refl tt
      (record { ledgers_same = refl; moments_same = refl; same = is }, next) tt refl

  -- a message was replied to, and its reply handed over
  pub replied :
      {ledgers ledgers_now : S} {moments moments_now : C} {peers peers_now : P} {talk talk_now : Talk}
      {reply : Reply} → may_answer talk ≡ true →
      IsReplyReady r.means r.gives ledgers moments talk reply ledgers_now moments_now talk_now →
      IsSettled (run_meaning r.means) ledgers_now →
      r.does peers (Handed client talk_now.unsent) peers_now →
      Stays r client ledgers moments peers talk ledgers_now moments_now peers_now talk_now false 1
  replied {reply} may has settled does =
      deed_done (Replied client reply) refl tt (has, may) settled does
