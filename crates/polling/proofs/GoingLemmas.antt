-- Clients who go for good: how they stand, and that nothing is left for them.
use Rattle.std.proofs.Common.{◌≡◌, ◌&&◌, inl, inr, refl, ap, sym, ◌∙◌, ℕ, Bool, true, false, List, [], ◌∷◌, Option, Some, None, is_none}
use Rattle.std.proofs.lemmas.Bool.{and_parts, false≢true, true≢false}
use Rattle.parts.specs.declared.rest.Rest.{Rest}
use Rattle.std.proofs.Math.Path.{fun_ext}
use Rattle.clients.specs.Answering.{IsAllAnswered}
use Rattle.clients.specs.Talk.{HasNothingUnsent, Talk, is_empty, is_written, may_answer}
use Rattle.polling.specs.Standing.{Standing, Away, New, Overdue}
use Rattle.polling.specs.Standing.{has_seat, expired, leaving, with_standing, stands_behind, StandTold, MayClose, IsFinished}
use Rattle.polling.specs.Peers.{Said}
use Rattle.polling.specs.declared.peers.Told.{Told}
use Rattle.polling.specs.declared.peers.Told.TheVariants.{Joined, Ready, Late, Nothing}
use Rattle.clients.proofs.ClientLemmas.{by_client}
use Rattle.polling.proofs.StandLemmas.{standing-own, standing-other}

-- who goes may be closed
pub leaving_closes : (standing : Standing) → MayClose (leaving standing)
leaving_closes Away = tt
leaving_closes standing = tt

-- so may who has no seat
pub unseated_closes : (standing : Standing) → has_seat standing ≡ false → MayClose standing
unseated_closes Away none = tt
unseated_closes New none = tt
unseated_closes standing none = absurd (true≢false none)

-- behind the telling that it is late, who has a seat is owed its end
seated_expired : (standing : Standing) → has_seat standing ≡ true → expired standing ≡ Overdue
seated_expired Away seated = absurd (false≢true seated)
seated_expired New seated = absurd (false≢true seated)
seated_expired standing seated = refl

pub late_overdue :
    (standing : Standing) → has_seat standing ≡ true → standing ≡ expired standing →
    standing ≡ Overdue
late_overdue standing seated late = late ∙ seated_expired standing seated

expired_twice : (standing : Standing) → expired standing ≡ expired (expired standing)
expired_twice Away = refl
expired_twice standing = refl

-- so all stand behind a telling
pub stand_told :
    (fresh : ℕ) (told : Told) (stands : ℕ → Standing) →
    StandTold told (stands_behind (Said fresh told) stands)
stand_told fresh Joined stands = tt
stand_told fresh (Ready client) stands = tt
stand_told fresh (Late client) stands =
    let own = standing-own client (expired (stands client)) stands in
    own ∙ expired_twice (stands client) ∙ ap (λ (s : Standing). expired s) (sym own)
stand_told fresh Nothing stands = tt

-- one client stands so, however it stood before
pub standing-twice :
    (client : ℕ) (before standing : Standing) (stands : ℕ → Standing) →
    with_standing client standing (with_standing client before stands)
    ≡ with_standing client standing stands
standing-twice client before standing stands =
    fun_ext
    (by_client
    (λ each.
    with_standing client standing (with_standing client before stands) each
    ≡ with_standing client standing stands each)
    client
    (standing-own client standing (with_standing client before stands)
    ∙ sym (standing-own client standing stands))
    (λ other differ.
    standing-other client other standing (with_standing client before stands) differ
    ∙ standing-other client other before stands differ
    ∙ sym (standing-other client other standing stands differ)))

-- nothing is unsent to who may be answered
and_last : (a b : Bool) → (a && b) ≡ true → b ≡ true
and_last true b both = both
and_last false b both = absurd (false≢true both)

none_of : (bytes : List ℕ) → is_empty bytes ≡ true → bytes ≡ []
none_of [] none = refl
none_of (byte ∷ bytes) none = absurd (false≢true none)

no_rest : (rest : Option Rest) → is_none rest ≡ true → rest ≡ None
no_rest None none = refl
no_rest (Some rest) none = absurd (false≢true none)

pub written_so : (talk : Talk) → is_written talk ≡ true → HasNothingUnsent talk
written_so talk written =
    let both = and_parts (is_empty talk.unsent) (is_none talk.rest) written in
    (none_of talk.unsent both.0, no_rest talk.rest both.1)

-- where no more comes, nothing is left for it
pub over_finished : (talk : Talk) → may_answer talk ≡ true → IsAllAnswered talk.unread → IsFinished talk
over_finished talk may over = (written_so talk (and_last talk.goes_on (is_written talk) may), inr over)

-- nor is where the last reply of all is written
pub last_finished : (talk : Talk) → talk.goes_on ≡ false → is_written talk ≡ true → IsFinished talk
last_finished talk last written = (written_so talk written, inl last)
