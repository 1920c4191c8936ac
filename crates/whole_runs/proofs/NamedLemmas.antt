-- The names of the tenants of a book, behind one that joins or gets another key.
use Rattle.std.proofs.Common.{◌≡◌, ◌≢◌, ℕ, zero, suc, ◌<◌, Bool, true, false, cond, List, [], ◌∷◌, ◌++◌}
use Rattle.std.proofs.Common.{Option, Some, None, is_some, option_map, bytes_eq, length, get_or}
use Rattle.std.proofs.Common.{◌⊎◌, inl, inr, refl, sym, ap, ◌∙◌, subst, arith}
use Rattle.std.specs.Prelude.{slice_set}
use Rattle.std.specs.List.{find, position, position_or_len, slice_get}
use Rattle.std.specs.Option.{option_or}
use Rattle.std.proofs.lemmas.Bool.{cases_Bool, false_from_ne_true, ltb-false, ltb-true, true≢false}
use Rattle.std.proofs.lemmas.List.Folds.{find_at, find-set, find_past, find-append}
use Rattle.std.proofs.lemmas.List.Quantifiers.{position-Some}
use Rattle.std.proofs.lemmas.Option.{cond_some, slice_get_read, slice_get_past}
use Rattle.std.proofs.lemmas.Slice.Eq.{bytes_eq-Decides}
use Rattle.records.specs.Machine.{Machine}
use Rattle.chain.specs.Ledgers.{Tenants}
use Rattle.stored_ledgers.specs.Names.{Names, GivesName}
use Rattle.whole_runs.specs.declared.named_book.Named.{Named}
use Rattle.store.specs.Names.{AreNamed}
use Rattle.whole_runs.specs.BookNames.{has_name, names_among}

other_name :
    (name other : List ℕ) (t : Named) → has_name name t ≡ true → other ≢ name →
    has_name other t ≡ false
other_name name other t is differs =
    false_from_ne_true _
    (λ same. differs (sym ((bytes_eq-Decides t.name other).0 same) ∙ (bytes_eq-Decides t.name name).0 is))

none_at : (b : Bool) (place : ℕ) → cond b (Some place) None ≡ None → b ≡ false
none_at true place none = absurd (cc)
none_at false place none = refl

no_place : (place : Option ℕ) → is_some place ≡ false → place ≡ None
no_place None is = refl
no_place (Some place) is = absurd (true≢false is)

-- whether somebody has a name, as it was looked up
pub name_looked_up :
    (name : List ℕ) (shown tenants : List Named) (place : Option ℕ) (there known : Bool) →
    there ≡ is_some place → place ≡ position (has_name name) shown → shown ≡ tenants →
    there ≡ known → is_some (position (has_name name) tenants) ≡ known
name_looked_up name shown tenants place there known is found same told =
    sym (is ∙ ap is_some (found ∙ ap (position (has_name name)) same)) ∙ told

-- nobody has a name that stands nowhere
pub unnamed :
    (name : List ℕ) (tenants : List Named) → is_some (position (has_name name) tenants) ≡ false →
    names_among tenants name ≡ None
unnamed name tenants is =
    ap (option_map (λ (t : Named). t.digest))
    (find_at (has_name name) tenants
    ∙ slice_get_past tenants _
    (ltb-false _ _ (none_at _ _ (no_place (position (has_name name) tenants) is))))

-- somebody has one that stands somewhere
at_some : (b : Bool) (place : ℕ) → is_some (cond b (Some place) None) ≡ true → b ≡ true
at_some true place is = refl
at_some false place is = absurd (cc)

get_there : (tenants : List Named) (place : ℕ) → place < length tenants → slice_get tenants place ≢ None
get_there [] place within = absurd (omega arith)
get_there (t ∷ tenants) zero within = λ none. absurd (cc)
get_there (t ∷ tenants) (suc place) within = get_there tenants place (omega arith)

found_there : (found : Option Named) → found ≢ None → option_map (λ (t : Named). t.digest) found ≢ None
found_there None there = absurd (there refl)
found_there (Some t) there = λ none. absurd (cc)

pub is_named :
    (name : List ℕ) (tenants : List Named) → is_some (position (has_name name) tenants) ≡ true →
    names_among tenants name ≢ None
is_named name tenants is =
    let within = at_some _ _ is in
    found_there (find (has_name name) tenants)
    (λ none. get_there tenants (position_or_len (has_name name) tenants)
    (ltb-true _ _ within) (sym (find_at (has_name name) tenants) ∙ none))

-- a tenant that stands at the first place of its name
module _ (name : List ℕ) (tenants : List Named) (place : ℕ) (t : Named)
    (found : position (has_name name) tenants ≡ Some place) (there : t ≡ get_or tenants place t) where
  first : position_or_len (has_name name) tenants ≡ place
  first = (cond_some _ _ _ found).1

  within : place < length tenants
  within = (position-Some (has_name name) tenants place t found).0

  has_it : has_name name t ≡ true
  has_it =
      subst (λ (t : Named). has_name name t ≡ true) (sym there)
      (position-Some (has_name name) tenants place t found).1

  pub named_so : names_among tenants name ≡ Some t.digest
  named_so =
      ap (option_map (λ (t : Named). t.digest))
      (find_at (has_name name) tenants
      ∙ (ap (slice_get tenants) first
      ∙ slice_get_read tenants (length tenants) place t refl within there))

  -- it gets another digest
  pub rekeys_name :
      (digest : List ℕ) →
      GivesName name digest (names_among tenants)
      (names_among (slice_set tenants place (record { name = t.name; digest = digest })))
  rekeys_name digest =
      let new : Named = record { name = t.name; digest = digest } in
      record {
        own =
            ap (option_map (λ (t : Named). t.digest))
            (find-set (has_name name) tenants place new (sym first) within has_it);
        others = λ other differs.
            let fails = other_name name other t has_it differs in
            ap (option_map (λ (t : Named). t.digest))
            (find_past (has_name other) tenants place new t
            (subst (λ (t : Named). has_name other t ≡ false) there fails) fails);
      }

not_found : (found : Option Named) → option_map (λ (t : Named). t.digest) found ≡ None → found ≡ None
not_found None none = refl
not_found (Some t) none = absurd (cc)

or_none : (found : Option Named) → option_or found None ≡ found
or_none None = refl
or_none (Some t) = refl

-- a tenant comes, whose name nobody has
pub joins_name :
    (name digest : List ℕ) (tenants : List Named) → names_among tenants name ≡ None →
    GivesName name digest (names_among tenants)
    (names_among (tenants ++ record { name = name; digest = digest } ∷ []))
joins_name name digest tenants none =
    let t : Named = record { name = name; digest = digest } in
    let own : has_name name t ≡ true = (bytes_eq-Decides name name).1 refl in
    record {
      own =
          ap (option_map (λ (t : Named). t.digest))
          (find-append (has_name name) tenants (t ∷ [])
          ∙ (ap (λ (found : Option Named). option_or found (find (has_name name) (t ∷ [])))
          (not_found (find (has_name name) tenants) none)
          ∙ ap (λ b. option_or None (cond b (Some t) None)) own));
      others = λ other differs.
          ap (option_map (λ (t : Named). t.digest))
          (find-append (has_name other) tenants (t ∷ [])
          ∙ (ap (λ b. option_or (find (has_name other) tenants) (cond b (Some t) None))
          (other_name name other t own differs)
          ∙ or_none (find (has_name other) tenants)));
    }

-- a book without tenants
pub none_named : (tenants : Tenants) → ((digest : List ℕ) → tenants digest ≡ None)
    → AreNamed (names_among []) tenants
none_named tenants none = record {
  there = λ name digest is. absurd (cc);
  all = λ digest there. absurd (there (none digest));
  one = λ name other digest is also. absurd (cc);
}

some_there : (found : Option Machine) → is_some found ≡ true → found ≢ None
some_there found is none = true≢false (sym is ∙ ap is_some none)

there_some : (found : Option Machine) → found ≢ None → is_some found ≡ true
there_some (Some m) there = refl
there_some None there = absurd (there refl)

-- the names of the same tenants
pub named_still :
    (names : Names) (old new : Tenants) → AreNamed names old →
    ((digest : List ℕ) → is_some (new digest) ≡ is_some (old digest)) → AreNamed names new
named_still names old new named stay = record {
  there = λ name digest is.
      some_there (new digest) (stay digest ∙ there_some (old digest) (named.there name digest is));
  all = λ digest there.
      named.all digest (some_there (old digest) (sym (stay digest) ∙ there_some (new digest) there));
  one = named.one;
}

abbrev Is : List ℕ → List ℕ → Type 0
Is a b = (a ≡ b) ⊎ (a ≢ b)

is_or_not : (a b : List ℕ) → Is a b
is_or_not a b = elim (cases_Bool (bytes_eq a b)) [
  | inl same ↦ inl ((bytes_eq-Decides a b).0 same)
  | inr not ↦ inr (λ same. true≢false (sym ((bytes_eq-Decides a b).1 same) ∙ not))
]

-- a name is given to a digest that goes together with no other
module _ (name digest : List ℕ) (names names' : Names) (tenants' : Tenants)
    (given : GivesName name digest names names')
    (one : (a b d : List ℕ) → names a ≡ Some d → names b ≡ Some d → b ≡ a)
    (fresh : (other : List ℕ) → other ≢ name → names other ≡ Some digest → ⊥)
    (own : tenants' digest ≢ None)
    (kept : (other d : List ℕ) → other ≢ name → names other ≡ Some d → tenants' d ≢ None)
    (rest : (d : List ℕ) → d ≢ digest → tenants' d ≢ None
    → (other : List ℕ) × (other ≢ name) × (names other ≡ Some d)) where
  is_digest : (a d : List ℕ) → a ≡ name → names' a ≡ Some d → digest ≡ d
  is_digest a d same is =
      let both : Some digest ≡ Some d = sym given.own ∙ (ap names' (sym same) ∙ is) in cc

  before : (a d : List ℕ) → a ≢ name → names' a ≡ Some d → names a ≡ Some d
  before a d differs is = sym (given.others a differs) ∙ is

  there_now : (a d : List ℕ) → Is a name → names' a ≡ Some d → tenants' d ≢ None
  there_now a d (inl same) is = subst (λ (d : List ℕ). tenants' d ≢ None) (is_digest a d same is) own
  there_now a d (inr differs) is = kept a d differs (before a d differs is)

  all_now : (d : List ℕ) → Is d digest → tenants' d ≢ None → (a : List ℕ) × (names' a ≡ Some d)
  all_now d (inl same) there = (name, given.own ∙ ap Some (sym same))
  all_now d (inr differs) there =
      let other = rest d differs there in
      (other.0, given.others other.0 other.1 ∙ other.2)

  one_now : (a b d : List ℕ) → Is a name → Is b name → names' a ≡ Some d → names' b ≡ Some d → b ≡ a
  one_now a b d (inl same) (inl also) is_a is_b = also ∙ sym same
  one_now a b d (inl same) (inr differs) is_a is_b =
      absurd (fresh b differs (before b d differs is_b ∙ ap Some (sym (is_digest a d same is_a))))
  one_now a b d (inr differs) (inl same) is_a is_b =
      absurd (fresh a differs (before a d differs is_a ∙ ap Some (sym (is_digest b d same is_b))))
  one_now a b d (inr differs) (inr unlike) is_a is_b =
      one a b d (before a d differs is_a) (before b d unlike is_b)

  pub given_named : AreNamed names' tenants'
  given_named = record {
    there = λ a d is. there_now a d (is_or_not a name) is;
    all = λ d there. all_now d (is_or_not d digest) there;
    one = λ a b d is_a is_b. one_now a b d (is_or_not a name) (is_or_not b name) is_a is_b;
  }

module _ (name digest : List ℕ) (names names' : Names) (old new : Tenants)
    (given : GivesName name digest names names') (named : AreNamed names old)
    (own : new digest ≢ None) where
  -- to a tenant that joins
  module _ (unnamed : names name ≡ None) (none : old digest ≡ None)
      (others : (d : List ℕ) → d ≢ digest → new d ≡ old d) where
    joined_kept : (other d : List ℕ) → other ≢ name → names other ≡ Some d → new d ≢ None
    joined_kept other d differs is gone =
        let there = named.there other d is in
        there (sym (others d (λ same. there (ap old same ∙ none))) ∙ gone)

    joined_rest : (d : List ℕ) → d ≢ digest → new d ≢ None
        → (other : List ℕ) × (other ≢ name) × (names other ≡ Some d)
    joined_rest d differs there =
        let is = named.all d (λ gone. there (others d differs ∙ gone)) in (
          is.0,
          (λ same. let both : Some d ≡ None = sym is.1 ∙ (ap names same ∙ unnamed) in cc),
          is.1,
        )

    pub joined_named : AreNamed names' new
    joined_named =
        given_named name digest names names' new given named.one
        (λ other differs is. named.there other digest is none) own joined_kept joined_rest

  -- to one whose key is changed
  module _ (was : List ℕ) (had : names name ≡ Some was) (free : was ≢ digest → old digest ≡ None)
      (gone : was ≢ digest → new was ≡ None)
      (others : (d : List ℕ) → d ≢ was → d ≢ digest → new d ≡ old d) where
    fresh_by : Is was digest → (other : List ℕ) → other ≢ name → names other ≡ Some digest → ⊥
    fresh_by (inl same) other differs held =
        differs (named.one name other digest (had ∙ ap Some same) held)
    fresh_by (inr moved) other differs held = named.there other digest held (free moved)

    fresh : (other : List ℕ) → other ≢ name → names other ≡ Some digest → ⊥
    fresh = fresh_by (is_or_not was digest)

    kept : (other d : List ℕ) → other ≢ name → names other ≡ Some d → new d ≢ None
    kept other d differs is none =
        named.there other d is
        (sym (others d
        (λ same. differs (named.one name other was had (is ∙ ap Some same)))
        (λ same. fresh other differs (is ∙ ap Some same)))
        ∙ none)

    rest_by : (d : List ℕ) → Is d was → d ≢ digest → new d ≢ None
        → (other : List ℕ) × (other ≢ name) × (names other ≡ Some d)
    rest_by d (inl same) differs there =
        absurd (there (ap new same ∙ gone (λ still. differs (same ∙ still))))
    rest_by d (inr unlike) differs there =
        let is = named.all d (λ none. there (others d unlike differs ∙ none)) in (
          is.0,
          (λ same. unlike (let both : Some d ≡ Some was = sym is.1 ∙ (ap names same ∙ had) in cc)),
          is.1,
        )

    pub rekeyed_named : AreNamed names' new
    rekeyed_named =
        given_named name digest names names' new given named.one fresh own kept
        (λ d. rest_by d (is_or_not d was))
