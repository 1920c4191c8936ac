-- What is found in a book whose tenants have changed.
use Rattle.std.proofs.Common.{◌≡◌, ◌≢◌, ℕ, ◌<◌, Bool, true, false, cond, List, [], ◌∷◌, ◌++◌}
use Rattle.std.proofs.Common.{Option, Some, None, length, get_or, refl, sym, ap, ◌∙◌, subst}
use Rattle.std.specs.Prelude.{slice_set, IsNone}
use Rattle.std.specs.List.{position, position_or_len, slice_get}
use Rattle.std.specs.Option.{option_map, option_or}
use Rattle.std.proofs.lemmas.Bool.{true≢false, false_from_ne_true, ltb-false}
use Rattle.std.proofs.lemmas.Slice.Eq.{bytes_eq-Decides}
use Rattle.std.proofs.lemmas.List.Folds.{find_at, find-set, find_past, find-append}
use Rattle.std.proofs.lemmas.List.Quantifiers.{position-Some}
use Rattle.std.proofs.lemmas.Option.{cond_some, slice_get_read, slice_get_past}
use Rattle.chain.specs.Tables.{State}
use Rattle.plain.specs.declared.book.Tenant.{Tenant}
use Rattle.plain.specs.Book.{has_digest, state_with, ChangesOne}

other_digest :
    (digest other : List ℕ) (t : Tenant) → t.digest ≡ digest → other ≢ digest →
    has_digest other t ≡ false
other_digest digest other t is_digest differs =
    false_from_ne_true _
    (λ same. differs (sym ((bytes_eq-Decides t.digest other).0 same) ∙ is_digest))

none_found : (found : Option Tenant) → IsNone (option_map (λ t. t.tables) found) → found ≡ None
none_found None none = refl
none_found (Some t) none = absurd (true≢false none)

unmatched : (found : Option Tenant) → option_or found None ≡ found
unmatched None = refl
unmatched (Some t) = refl

pub added :
    (digest : List ℕ) (tables : State) (tenants : List Tenant) →
    IsNone (state_with digest tenants) →
    ChangesOne digest tables tenants (tenants ++ record { digest = digest; tables = tables } ∷ [])
added digest tables tenants absent =
    let t : Tenant = record { digest = digest; tables = tables } in
    record {
      own = rw (find-append, none_found _ absent, (bytes_eq-Decides digest digest).1 refl);
      others = λ other differs.
          rw (find-append, other_digest digest other t refl differs, unmatched);
    }

-- a tenant that stands at the first place with its digest
record IsFoundAt (digest : List ℕ) (tenants : List Tenant) (place : ℕ) (t : Tenant) : Type 0 where
  first : position_or_len (has_digest digest) tenants ≡ place
  within : place < length tenants
  is_there : t ≡ get_or tenants place t
  has_it : has_digest digest t ≡ true

found_at :
    (digest : List ℕ) (tenants : List Tenant) (place : ℕ) (t : Tenant) →
    position (has_digest digest) tenants ≡ Some place → t ≡ get_or tenants place t →
    IsFoundAt digest tenants place t
found_at digest tenants place t found is_there =
    let at_place = position-Some (has_digest digest) tenants place t found in
    record {
      first = (cond_some _ _ _ found).1;
      within = at_place.0;
      is_there = is_there;
      has_it = subst (λ (t : Tenant). has_digest digest t ≡ true) (sym is_there) at_place.1;
    }

pub changed :
    (digest : List ℕ) (tables : State) (tenants : List Tenant) (place : ℕ) (t : Tenant) →
    position (has_digest digest) tenants ≡ Some place → t ≡ get_or tenants place t →
    ChangesOne digest tables tenants
    (slice_set tenants place (record { digest = t.digest; tables = tables }))
changed digest tables tenants place t found is_there =
    let f = found_at digest tenants place t found is_there in
    let new : Tenant = record { digest = t.digest; tables = tables } in
    record {
      own = rw (find-set (has_digest digest) tenants place new (sym f.first) f.within f.has_it);
      others = λ other differs.
          let fails : has_digest other t ≡ false =
          other_digest digest other t ((bytes_eq-Decides t.digest digest).0 f.has_it) differs in
          ap (option_map (λ (t : Tenant). t.tables))
          (find_past (has_digest other) tenants place new t
          (subst (λ (t : Tenant). has_digest other t ≡ false) is_there fails) fails);
    }

pub there :
    (digest : List ℕ) (tenants : List Tenant) (place : ℕ) (t : Tenant) →
    position (has_digest digest) tenants ≡ Some place → t ≡ get_or tenants place t →
    state_with digest tenants ≡ Some t.tables
there digest tenants place t found is_there =
    let f = found_at digest tenants place t found is_there in
    ap (option_map (λ (t : Tenant). t.tables))
    (find_at (has_digest digest) tenants ∙ ap (slice_get tenants) f.first
    ∙ slice_get_read tenants (length tenants) place t refl f.within is_there)

past_none : (b : Bool) (place : ℕ) → cond b (Some place) None ≡ None → b ≡ false
past_none true place none = cc
past_none false place none = refl

pub not_there :
    (digest : List ℕ) (tenants : List Tenant) → position (has_digest digest) tenants ≡ None →
    state_with digest tenants ≡ None
not_there digest tenants none =
    ap (option_map (λ (t : Tenant). t.tables))
    (find_at (has_digest digest) tenants
    ∙ slice_get_past tenants _ (ltb-false _ _ (past_none _ _ none)))
