-- What one tenant sees of a course.
use Rattle.std.proofs.Common.{◌≡◌, ℕ, Bool, true, false, List, [], ◌∷◌, ◌++◌, map, bytes_eq}
use Rattle.std.proofs.Common.{Option, Result, Ok, Err, if◌then◌else◌, refl, sym, ap, ◌∙◌}
use Rattle.std.proofs.Common.{append_assoc}
use Rattle.std.proofs.lemmas.Bool.{true≢false}
use Rattle.std.proofs.lemmas.Grind.{flat_map-append}
use Rattle.std.proofs.lemmas.List.{append-nil}
use Rattle.std.proofs.lemmas.List.Concat.{flat_map-cons}
use Rattle.std.proofs.lemmas.Slice.Eq.{bytes_eq-Decides}
use Rattle.std.specs.List.{flat_map}
use Rattle.records.specs.Machine.{Machine}
use Rattle.chain.specs.Ledgers.{Tenants}
use Rattle.ledger_http.specs.declared.early.Early.{Early}
use Rattle.ledger_http.specs.declared.reply.Reply.{Reply}
use Rattle.ledger_http.specs.ReplyText.{reply_text}
use Rattle.ledger_http.specs.Question.{Question}
use Rattle.service.specs.Responds.{AnswersAsked}
use Rattle.service.specs.Deeds.{Deed, asking, deeds_in, tenant_of, digest_after, after_deed}
use Rattle.service.specs.Deeds.{IsDeedDone, AreDone}
use Rattle.service.specs.Courses.{Event, Replied, Tried, Reopened, IsReplied, Happens, Course}
use Rattle.service.specs.Courses.{Begin, Then, is_unavailable}
use Rattle.service.specs.Courses.{Done, Declined, Unavailable as NotThere}
use Rattle.service.specs.OwnDeeds.{Happening, Told, Untold, deed_of, happenings_in, if_own}
use Rattle.service.specs.OwnDeeds.{own_among, digest_behind, replies_in, after_all, told_of}
use Rattle.service.specs.OwnDeeds.{told_in_turn, SeesItself}
use Rattle.service.specs.EventLaws.{told_unavailable, told_available}

pub after_more :
    (tenant : Option Machine) (owns more : List Happening) →
    after_all tenant (owns ++ more) ≡ after_all (after_all tenant owns) more
after_more tenant [] more = refl
after_more tenant (own ∷ owns) more = after_more (after_deed (deed_of own) tenant) owns more

told_more :
    (tenant : Option Machine) (owns more : List Happening) →
    told_in_turn tenant (owns ++ more)
    ≡ told_in_turn tenant owns ++ told_in_turn (after_all tenant owns) more
told_more tenant [] more = refl
told_more tenant (own ∷ owns) more =
    ap (λ (texts : List (List ℕ)). told_of own tenant ++ texts)
    (told_more (after_deed (deed_of own) tenant) owns more)
    ∙ sym (append_assoc (told_of own tenant)
    (told_in_turn (after_deed (deed_of own) tenant) owns)
    (told_in_turn (after_all (after_deed (deed_of own) tenant) owns) more))

among_more :
    (digest : List ℕ) (happenings more : List Happening) →
    own_among digest (happenings ++ more)
    ≡ own_among digest happenings ++ own_among (digest_behind digest happenings) more
among_more digest [] more = refl
among_more digest (happening ∷ happenings) more =
    let next = digest_after (deed_of happening) digest in
    ap (λ (owns : List Happening). if_own digest happening ++ owns)
    (among_more next happenings more)
    ∙ sym (append_assoc (if_own digest happening) (own_among next happenings)
    (own_among (digest_behind next happenings) more))

behind_more :
    (digest : List ℕ) (happenings more : List Happening) →
    digest_behind digest (happenings ++ more) ≡ digest_behind (digest_behind digest happenings) more
behind_more digest [] more = refl
behind_more digest (happening ∷ happenings) more =
    behind_more (digest_after (deed_of happening) digest) happenings more

-- the replies among a tenant's own of these happenings and its new machine are those of its own
record IsSeen (old new : Tenants) (digest : List ℕ) (happenings : List Happening) : Type 0 where
  pub told :
      flat_map replies_in (own_among digest happenings)
      ≡ told_in_turn (old digest) (own_among digest happenings)
  pub left :
      new (digest_behind digest happenings)
      ≡ after_all (old digest) (own_among digest happenings)

none_seen : (old new : Tenants) (digest : List ℕ) → new digest ≡ old digest → IsSeen old new digest []
none_seen old new digest same = record { told = refl; left = same }

more_seen :
    (old mid new : Tenants) (digest : List ℕ) (happenings more : List Happening) →
    IsSeen old mid digest happenings → IsSeen mid new (digest_behind digest happenings) more →
    IsSeen old new digest (happenings ++ more)
more_seen old mid new digest happenings more a b =
    let owns = own_among digest happenings in
    let since = own_among (digest_behind digest happenings) more in
    record {
      told =
          rw (among_more digest happenings more)
          (flat_map-append replies_in owns since
          ∙ (ap (λ (texts : List (List ℕ)). texts ++ flat_map replies_in since) a.told
          ∙ (ap (λ (texts : List (List ℕ)). told_in_turn (old digest) owns ++ texts)
          (b.told ∙ ap (λ (m : Option Machine). told_in_turn m since) a.left)
          ∙ sym (told_more (old digest) owns since))));
      left =
          rw (among_more digest happenings more, behind_more digest happenings more)
          (b.left
          ∙ (ap (λ (m : Option Machine). after_all m since) a.left
          ∙ sym (after_more (old digest) owns since)));
    }

-- a deed was done, and the reply to it, if one was told, is the one to it
record Befalls (old new : Tenants) (happening : Happening) : Type 0 where
  pub done : IsDeedDone (deed_of happening) old new
  pub told :
      replies_in happening ≡ told_of happening (old (tenant_of (deed_of happening)))

own_seen :
    (own : Bool) (old new : Tenants) (digest : List ℕ) (happening : Happening) →
    bytes_eq (tenant_of (deed_of happening)) digest ≡ own → Befalls old new happening →
    (flat_map replies_in (if own then happening ∷ [] else [])
    ≡ told_in_turn (old digest) (if own then happening ∷ [] else []))
    × (new (digest_after (deed_of happening) digest)
    ≡ after_all (old digest) (if own then happening ∷ [] else []))
own_seen true old new digest happening is b =
    let same = (bytes_eq-Decides (tenant_of (deed_of happening)) digest).0 is in (
      flat_map-cons replies_in happening []
          ∙ ap (λ (texts : List (List ℕ)). texts ++ [])
          (b.told ∙ ap (λ (d : List ℕ). told_of happening (old d)) same),
      ap (λ (d : List ℕ). new (digest_after (deed_of happening) d)) (sym same)
          ∙ (b.done.own ∙ ap (λ (d : List ℕ). after_deed (deed_of happening) (old d)) same),
    )
own_seen false old new digest happening is b = (
  refl,
  b.done.others digest (λ same.
      true≢false
      (sym ((bytes_eq-Decides (tenant_of (deed_of happening)) digest).1 (sym same)) ∙ is)),
)

one_seen :
    (old new : Tenants) (digest : List ℕ) (happening : Happening) → Befalls old new happening →
    IsSeen old new digest (happening ∷ [])
one_seen old new digest happening b =
    let seen =
    own_seen (bytes_eq (tenant_of (deed_of happening)) digest) old new digest happening refl b in
    record {
      told = rw (append-nil (if_own digest happening)) seen.0;
      left = rw (append-nil (if_own digest happening)) seen.1;
    }

untold_befalls :
    (old new : Tenants) (deed : Deed) → IsDeedDone deed old new → Befalls old new (Untold deed)
untold_befalls old new deed done = record { done = done; told = refl }

dones_seen :
    (deeds : List Deed) (old new : Tenants) (digest : List ℕ) → AreDone deeds old new →
    IsSeen old new digest (map Untold deeds)
dones_seen [] old new digest keeps = none_seen old new digest (keeps digest)
dones_seen (deed ∷ deeds) old new digest done =
    more_seen old done.0 new digest (Untold deed ∷ []) (map Untold deeds)
    (one_seen old done.0 digest (Untold deed) (untold_befalls old done.0 deed done.1))
    (dones_seen deeds done.0 new (digest_after deed digest) done.2)

answer_seen :
    (asked : Result Question Early) (old new : Tenants) (digest text : List ℕ) (moment : ℕ) →
    AnswersAsked old new asked moment text →
    IsSeen old new digest (map (λ deed. Told deed text) (deeds_in asked moment))
answer_seen (Ok question) old new digest text moment a =
    one_seen old new digest (Told (asking question moment) text) (record {
      done = record { may = tt; own = a.own; others = a.others };
      told = ap (λ (t : List ℕ). t ∷ []) a.told;
    })
answer_seen (Err early) old new digest text moment a = none_seen old new digest (a.same digest)

reply_seen :
    (untold : Bool) (asked : Result Question Early) (moment : ℕ) (reply : Reply)
    (old new : Tenants) (digest : List ℕ) → is_unavailable reply ≡ untold →
    IsReplied asked moment reply old new →
    IsSeen old new digest
    (if untold then [] else map (λ deed. Told deed (reply_text reply)) (deeds_in asked moment))
reply_seen true asked moment reply old new digest is h =
    none_seen old new digest (h.same (told_unavailable reply is) digest)
reply_seen false asked moment reply old new digest is h =
    answer_seen asked old new digest (reply_text reply) moment
    (h.answered (told_available reply is))

event_seen :
    (event : Event) (old new : Tenants) (digest : List ℕ) → Happens old event new →
    IsSeen old new digest (happenings_in event)
event_seen (Replied asked moment reply) old new digest h =
    reply_seen (is_unavailable reply) asked moment reply old new digest refl h
event_seen (Tried deed Done) old new digest h =
    one_seen old new digest (Untold deed) (untold_befalls old new deed h)
event_seen (Tried deed Declined) old new digest h = none_seen old new digest (h digest)
event_seen (Tried deed NotThere) old new digest h = none_seen old new digest (h digest)
event_seen (Reopened deeds) old new digest h = dones_seen deeds old new digest h

flat_more :
    {X A : Type 0} (f : X → List A) (xs : List X) (x : X) →
    flat_map f (xs ++ x ∷ []) ≡ flat_map f xs ++ f x
flat_more {X} {A} f xs x =
    flat_map-append f xs (x ∷ [])
    ∙ ap (λ (ys : List A). flat_map f xs ++ ys) (flat_map-cons f x [] ∙ append-nil (f x))

all_seen :
    (old new : Tenants) (events : List Event) → Course old events new → (digest : List ℕ) →
    IsSeen old new digest (flat_map happenings_in events)
all_seen old new es Begin digest = none_seen old new digest refl
all_seen old new es (Then events mid event next course follows happens) digest =
    let before = flat_map happenings_in events in
    rw (flat_more happenings_in events event)
    (more_seen old mid next digest before (happenings_in event)
    (all_seen old mid events course digest)
    (event_seen event mid next (digest_behind digest before) happens))

-- each tenant sees its own requests alone
pub sees_itself :
    (old new : Tenants) (events : List Event) → Course old events new → (digest : List ℕ) →
    SeesItself old events new digest
sees_itself old new events course digest =
    let seen = all_seen old new events course digest in
    record { told = seen.told; left = seen.left }
