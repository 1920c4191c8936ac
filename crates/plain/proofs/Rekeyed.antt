-- What is found in a book in which a digest has been changed for another.
use Rattle.std.proofs.Common.{◌≡◌, ◌≢◌, ℕ, zero, suc, ◌<◌, Bool, true, false, cond, List, []}
use Rattle.std.proofs.Common.{◌∷◌, Option, Some, None, length, get_or, refl, sym, ap, ◌∙◌, subst}
use Rattle.std.proofs.Common.{◌+◌, ◌++◌, take, add-one, inl, inr, arith}
use Rattle.std.specs.Prelude.{slice_set, IsNone}
use Rattle.std.specs.List.{find}
use Rattle.std.specs.Option.{option_map}
use Rattle.std.specs.Str.{bytes_eq}
use Rattle.std.proofs.Math.Seq.{take-append_seam}
use Rattle.std.proofs.lemmas.Bool.{cases_Bool, true≢false, false_from_ne_true}
use Rattle.std.proofs.lemmas.Slice.Eq.{bytes_eq-Decides}
use Rattle.records.specs.Machine.{Machine}
use Rattle.chain.specs.Tables.{State}
use Rattle.chain.specs.Ledgers.{AreValid}
use Rattle.plain.specs.declared.book.Tenant.{Tenant}
use Rattle.plain.specs.Book.{has_digest, state_with, IsRekeyed}
use Rattle.plain.specs.BookLedgers.{machines_in}

differ : (one other : List ℕ) → one ≢ other → bytes_eq one other ≡ false
differ one other not = false_from_ne_true _ (λ same. not ((bytes_eq-Decides one other).0 same))

module _ (was digest : List ℕ) where
  abbrev rekeyed : Tenant → Tenant
  rekeyed t = cond (has_digest was t) (record { digest = digest; tables = t.tables }) t

  -- so many of the first tenants have been looked at
  abbrev pub front : ℕ → List Tenant → List Tenant
  front zero book = book
  front (suc i) [] = []
  front (suc i) (t ∷ book) = rekeyed t ∷ front i book

  abbrev all : List Tenant → List Tenant
  all [] = []
  all (t ∷ book) = rekeyed t ∷ all book

  front_all : (book : List Tenant) → front (length book) book ≡ all book
  front_all [] = refl
  front_all (t ∷ book) = ap (λ (more : List Tenant). rekeyed t ∷ more) (front_all book)

  same_length : (i : ℕ) (book : List Tenant) → length (front i book) ≡ length book
  same_length zero book = refl
  same_length (suc i) [] = refl
  same_length (suc i) (t ∷ book) = ap suc (same_length i book)

  at_front :
      (i : ℕ) (book : List Tenant) (t : Tenant) → get_or (front i book) i t ≡ get_or book i t
  at_front zero book t = refl
  at_front (suc i) [] t = refl
  at_front (suc i) (s ∷ book) t = at_front i book t

  set_front :
      (i : ℕ) (book : List Tenant) (t : Tenant) → i < length book →
      slice_set (front i book) i (rekeyed (get_or book i t)) ≡ front (suc i) book
  set_front zero [] t below = absurd (omega arith)
  set_front zero (s ∷ book) t below = refl
  set_front (suc i) [] t below = absurd (omega arith)
  set_front (suc i) (s ∷ book) t below =
      ap (λ (more : List Tenant). rekeyed s ∷ more) (set_front i book t (omega arith))

  -- one more is looked at
  pub one_more :
      (own : Bool) (i : ℕ) (book items : List Tenant) (t : Tenant) → has_digest was t ≡ own →
      items ≡ front i book → i < length items → t ≡ get_or items i t →
      slice_set items i (cond own (record { digest = digest; tables = t.tables }) t)
      ≡ front (i + 1) book
  one_more own i book items t has are below is =
      let there : t ≡ get_or book i t =
      is ∙ (ap (λ (now : List Tenant). get_or now i t) are ∙ at_front i book t) in
      let within = subst (λ (n : ℕ). i < n) (ap length are ∙ same_length i book) below in
      rw (add-one, are)
      (ap
      (λ (b : Bool).
      slice_set (front i book) i (cond b (record { digest = digest; tables = t.tables }) t))
      (sym has)
      ∙ (ap (λ (s : Tenant). slice_set (front i book) i (rekeyed s)) there
      ∙ set_front i book t within))

  -- a tenant that stands first
  found_later :
      (sought : List ℕ) (t : Tenant) (book : List Tenant) → bytes_eq t.digest sought ≡ false →
      state_with sought (t ∷ book) ≡ state_with sought book
  found_later sought t book not = rw not refl

  none_first :
      (sought : List ℕ) (first : Bool) (t : Tenant) (found : Option Tenant) →
      IsNone (option_map (λ (s : Tenant). s.tables) (cond first (Some t) found)) → first ≡ false
  none_first sought true t found none = absurd (true≢false none)
  none_first sought false t found none = refl

  same_later :
      (first : Bool) (t : Tenant) (found was_found : Option Tenant) →
      option_map (λ (s : Tenant). s.tables) found
      ≡ option_map (λ (s : Tenant). s.tables) was_found →
      option_map (λ (s : Tenant). s.tables) (cond first (Some t) found)
      ≡ option_map (λ (s : Tenant). s.tables) (cond first (Some t) was_found)
  same_later true t found was_found same = refl
  same_later false t found was_found same = same

  has_by :
      (own : Bool) (t : Tenant) (book : List Tenant) → has_digest was t ≡ own →
      bytes_eq t.digest digest ≡ false → state_with digest (all book) ≡ state_with was book →
      state_with digest (cond own (record { digest = digest; tables = t.tables }) t ∷ all book)
      ≡ state_with was (t ∷ book)
  has_by true t book is free rest = rw ((bytes_eq-Decides digest digest).1 refl, is) refl
  has_by false t book is free rest =
      found_later digest t (all book) free ∙ (rest ∙ sym (found_later was t book is))

  has_now :
      (book : List Tenant) → IsNone (state_with digest book) →
      state_with digest (all book) ≡ state_with was book
  has_now [] none = refl
  has_now (t ∷ book) none =
      let free = none_first digest (has_digest digest t) t (find (has_digest digest) book) none in
      has_by (has_digest was t) t book refl free
      (has_now book (subst IsNone (found_later digest t book free) none))

  module _ (moved : was ≢ digest) where
    gone_by :
        (own : Bool) (t : Tenant) (book : List Tenant) → has_digest was t ≡ own →
        state_with was (all book) ≡ None →
        state_with was (cond own (record { digest = digest; tables = t.tables }) t ∷ all book)
        ≡ None
    gone_by true t book is rest =
        found_later was (record { digest = digest; tables = t.tables }) (all book)
        (differ digest was (λ same. moved (sym same)))
        ∙ rest
    gone_by false t book is rest = found_later was t (all book) is ∙ rest

    gone_now : (book : List Tenant) → state_with was (all book) ≡ None
    gone_now [] = refl
    gone_now (t ∷ book) = gone_by (has_digest was t) t book refl (gone_now book)

  module _ (other : List ℕ) (unlike : other ≢ was) (differs : other ≢ digest) where
    kept_by :
        (own : Bool) (t : Tenant) (book : List Tenant) → has_digest was t ≡ own →
        state_with other (all book) ≡ state_with other book →
        state_with other (cond own (record { digest = digest; tables = t.tables }) t ∷ all book)
        ≡ state_with other (t ∷ book)
    kept_by true t book is rest =
        found_later other (record { digest = digest; tables = t.tables }) (all book)
        (differ digest other (λ same. differs (sym same)))
        ∙ (rest
        ∙ sym (found_later other t book
        (differ t.digest other (λ same.
        unlike (sym same ∙ (bytes_eq-Decides t.digest was).0 is)))))
    kept_by false t book is rest =
        same_later (has_digest other t) t (find (has_digest other) (all book))
        (find (has_digest other) book) rest

    kept_now : (book : List Tenant) → state_with other (all book) ≡ state_with other book
    kept_now [] = refl
    kept_now (t ∷ book) = kept_by (has_digest was t) t book refl (kept_now book)

  unmoved_by :
      (own : Bool) (t : Tenant) → was ≡ digest → has_digest was t ≡ own →
      cond own (record { digest = digest; tables = t.tables }) t ≡ t
  unmoved_by true t same is =
      ap (λ (d : List ℕ). let renamed : Tenant = record { digest = d; tables = t.tables } in renamed)
      (sym ((bytes_eq-Decides t.digest was).0 is ∙ same))
  unmoved_by false t same is = refl

  unmoved : (book : List Tenant) → was ≡ digest → all book ≡ book
  unmoved [] same = refl
  unmoved (t ∷ book) same =
      ap (λ (first : Tenant). first ∷ all book) (unmoved_by (has_digest was t) t same refl)
      ∙ ap (λ (more : List Tenant). t ∷ more) (unmoved book same)

  rekeyed_by :
      (same : Bool) (book : List Tenant) → bytes_eq was digest ≡ same →
      (was ≢ digest → IsNone (state_with digest book)) → IsRekeyed was digest book (all book)
  rekeyed_by true book is free =
      let one = (bytes_eq-Decides was digest).0 is in
      rw (unmoved book one) (record {
        has = ap (λ (d : List ℕ). state_with d book) (sym one);
        gone = λ moved. absurd (moved one);
        others = λ other unlike differs. refl;
      })
  rekeyed_by false book is free =
      let moved : was ≢ digest =
      λ (same : was ≡ digest). true≢false (sym ((bytes_eq-Decides was digest).1 same) ∙ is) in
      record {
        has = has_now book (free moved);
        gone = λ differs. rw (gone_now moved book) refl;
        others = λ other unlike differs. kept_now other unlike differs book;
      }

  -- all have been looked at, and stand where they stood
  pub are_rekeyed :
      (book items rest : List Tenant) (count : ℕ) → items ≡ front (length book) book →
      length items ≡ count → (was ≢ digest → IsNone (state_with digest book)) →
      IsRekeyed was digest book (take count (items ++ rest))
  are_rekeyed book items rest count are same free =
      rw
      (ap (λ (n : ℕ). take n (items ++ rest)) (sym same)
      ∙ (take-append_seam items rest ∙ (are ∙ front_all book)))
      (rekeyed_by (bytes_eq was digest) book refl free)

none_some : (found : Option State) (m : Machine) →
    IsNone found → option_map (λ (s : State). s.now) found ≡ Some m → ⊥
none_some None m none is = absurd (cc)
none_some (Some s) m none is = absurd (true≢false none)

machine_kept :
    (d d' : List ℕ) (book book' : List Tenant) (m : Machine) →
    state_with d book ≡ state_with d' book' → machines_in book d ≡ Some m →
    machines_in book' d' ≡ Some m
machine_kept d d' book book' m same is = sym (ap (option_map (λ (s : State). s.now)) same) ∙ is

-- every machine was some tenant's before
pub rekeyed_valid :
    (was digest : List ℕ) (old new : List Tenant) → IsRekeyed was digest old new →
    AreValid (machines_in old) → AreValid (machines_in new)
rekeyed_valid was digest old new rekeyed valid d m is =
    elim (cases_Bool (bytes_eq d digest)) [
      | inl own ↦
          let same = (bytes_eq-Decides d digest).0 own in
          valid was m
          (machine_kept d was new old m
          (ap (λ (e : List ℕ). state_with e new) same ∙ rekeyed.has) is)
      | inr not ↦
          let differs = λ (same : d ≡ digest).
          true≢false (sym ((bytes_eq-Decides d digest).1 same) ∙ not) in
          elim (cases_Bool (bytes_eq d was)) [
            | inl before ↦
                let same = (bytes_eq-Decides d was).0 before in
                absurd (none_some (state_with was new) m
                (rekeyed.gone (λ (unmoved : was ≡ digest). differs (same ∙ unmoved)))
                (sym (ap (machines_in new) same) ∙ is))
            | inr unlike ↦
                valid d m
                (machine_kept d d new old m
                (rekeyed.others d
                (λ (same : d ≡ was). true≢false (sym ((bytes_eq-Decides d was).1 same) ∙ unlike))
                differs) is)
          ]
    ]
