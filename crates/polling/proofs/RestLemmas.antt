-- What happens of a round beside the replies.
use Rattle.std.proofs.Common.{refl, sym, subst, ℕ, List, Option}
use Rattle.clients.specs.Talk.{Talk}
use Rattle.clients.specs.Deeds.{Room}
use Rattle.polling.specs.Serving.{Terms, Rests, Passes, AreAsBefore, AreGiven}
use Rattle.polling.specs.Seating.{held, ServesEach}
use Rattle.polling.proofs.AllLemmas.{apart, keeps_room, other_ledgers, then_each}

module _ {S C P : Type 0} where
  -- moments were given that nobody got
  pub passes_all :
      (r : Terms S C P) (ledgers : S) (moments moments_now : C) (given : List ℕ) (peers : P)
      (seats : ℕ → Option Talk) (next : ℕ) → AreGiven r.gives moments given moments_now →
      ServesEach r (held ledgers moments peers seats next) (held ledgers moments_now peers seats next) 0
  passes_all r ledgers moments moments_now given peers seats next passed =
      let old = held ledgers moments peers seats next in
      apart r old (held ledgers moments_now peers seats next)
      (λ (room : Room S C). record room { moments = moments_now })
      (λ all keeps. (
        Passes moments_now given
            (subst (λ (m : C). AreGiven r.gives m given moments_now) (sym keeps.moments) passed),
        keeps_room old all (record all.room { moments = moments_now }) all.stands ledgers moments_now
            keeps.ledgers refl refl keeps.stands keeps,
      ))

  -- a round begins, ends or is taken back
  rests_alone :
      (r : Terms S C P) (ledgers ledgers_now : S) (moments : C) (peers : P)
      (seats : ℕ → Option Talk) (next : ℕ) → AreAsBefore r.means ledgers ledgers_now →
      ServesEach r (held ledgers moments peers seats next) (held ledgers_now moments peers seats next) 0
  rests_alone r ledgers ledgers_now moments peers seats next same =
      other_ledgers r (held ledgers moments peers seats next) ledgers_now
      (λ all are.
      Rests ledgers_now (subst (λ (l : S). AreAsBefore r.means l ledgers_now) (sym are) same))

  pub rests_all :
      (r : Terms S C P) (ledgers ledgers_now : S) (moments moments_now : C) (given : List ℕ)
      (peers : P) (seats : ℕ → Option Talk) (next : ℕ) → AreAsBefore r.means ledgers ledgers_now →
      AreGiven r.gives moments given moments_now →
      ServesEach r (held ledgers moments peers seats next)
      (held ledgers_now moments_now peers seats next) 0
  rests_all r ledgers ledgers_now moments moments_now given peers seats next same passed =
      then_each r (held ledgers moments peers seats next) (held ledgers_now moments peers seats next)
      (held ledgers_now moments_now peers seats next) 0 0 0 refl
      (rests_alone r ledgers ledgers_now moments peers seats next same)
      (passes_all r ledgers_now moments moments_now given peers seats next passed)
