-- What tables that only show records have led to, where a page is made.
use Rattle.std.proofs.Common.{◌≡◌, ℕ, ◌+◌, ◌-◌, ◌*◌, ◌<◌, ◌≤◌, max, min, ltb, Bool, true, false, Option, Ok, List, ◌∷◌, [], ◌++◌, length, take, drop, get_or, refl, sym, ap, ◌∙◌, subst, arith}
use Rattle.std.specs.List.{All}
use Rattle.std.specs.Option.{option_to_list}
use Rattle.std.proofs.lemmas.Bool.{ltb-true}
use Rattle.std.proofs.lemmas.Bool.Decides.{nat_tests}
use Rattle.std.proofs.lemmas.List.{take_more, length-take, take-append-drop, drop_all}
use Rattle.std.proofs.lemmas.List.Elements.{All-take}
use Rattle.records.specs.declared.filter.Order.TheVariants.{Oldest}
use Rattle.records.specs.declared.query.PageFilter.{PageFilter}
use Rattle.records.specs.declared.query.Span.{Span}
use Rattle.records.specs.Machine.{Machine}
use Rattle.records.specs.Queries.{Page, page_in, page_order, page_span, time_behind, most_looked_at}
use Rattle.chain.specs.Pages.{AreRecords, IsRecord, LooksThrough, LooksWithin, RunsIn, all_within, behind_last, is_full, page_of, page_on, span_behind}
use Rattle.chain.specs.Looks.{LeavesSame}
use Rattle.chain.specs.Tables.{Meaning, State}
use Rattle.chain.specs.declared.pages.Draft.{Draft}
use Rattle.chain.proofs.TableCalls.{Joins, looks_in_turn}
use Rattle.chain.proofs.PageSpans.{rest_of_span, same_order, within_all}
use Rattle.chain.proofs.PageSteps.{at_end, from_none, full_is, none_left, one_on}

-- the first of some records are looked at
pub record HasLookedAt {S A B : Type 0} (t : Meaning S) (time : A → ℕ) (shown : Machine → A → Option B) (asked : PageFilter)
    (records : List A) (count : ℕ) (old new : S) (begun draft : Draft B) : Type 0 where
  pub leaves : LeavesSame t old new (Ok (tt {0}))
  pub looked : t.is_live new → LooksThrough time (shown (t.state old).now) asked (take count records) (page_of begun) (page_of draft)

-- the page comes of its draft by the rest of a span
pub record IsMaking {S A B : Type 0} (t : Meaning S) (time : A → ℕ) (shown : Machine → A → Option B) (asked : PageFilter)
    (records : Machine → List A) (old new : S) (left : ℕ) (span : Span) (draft : Draft B) : Type 0 where
  pub leaves : LeavesSame t old new (Ok (tt {0}))
  pub page : t.is_live new →
      page_in time (shown (t.state old).now) asked (records (t.state old).now)
      ≡ page_on time (shown (t.state old).now) asked left (all_within time span (records (t.state old).now)) (page_of draft)
  pub order : span.order ≡ page_order asked
  pub some : 0 < left → 0 < span.most
  pub most : span.most ≤ left
  pub bounded : left ≤ most_looked_at

-- one record more
pub looked_at :
    {S A B X : Type 0} (t : Meaning S) (time : A → ℕ) (shown : Machine → A → Option B) (asked : PageFilter)
    (records : List A) (count : ℕ) (a b c : S) (begun mid new : Draft B) (it : A) (x : X) → Joins t →
    HasLookedAt t time shown asked records count a b begun mid → count < length records →
    it ≡ get_or records count it → is_full asked (page_of mid) ≡ false →
    (t.is_live c → new.entries.items ≡ mid.entries.items ++ option_to_list (shown (t.state b).now it)) →
    (t.is_live c → new.behind ≡ time_behind (page_order asked) (time it)) →
    LeavesSame t b c (Ok x) →
    HasLookedAt t time shown asked records (count + 1) a c begun new
looked_at t time shown asked records count a b c begun mid new it x joins so_far within is not_full entries behind leaves =
    record {
      leaves = looks_in_turn t a b c _ _ _ joins so_far.leaves leaves;
      looked = λ live.
          let before = joins.lived b c leaves.follows live in
          let m_is = ap (λ (s : State). s.now) (so_far.leaves.same before) in
          let longer = take_more records count it within ∙ ap (λ x. take count records ++ x ∷ []) (sym is) in
          subst (λ looked. LooksThrough time (shown (t.state a).now) asked looked (page_of begun) (page_of new)) (sym longer)
          (one_on time (shown (t.state a).now) asked (take count records) it (page_of begun) (page_of mid) (page_of new)
          (so_far.looked before) not_full
          (entries live ∙ ap (λ m. mid.entries.items ++ option_to_list (shown m it)) m_is) (behind live));
    }

-- what is found in a span are records
pub kept_within :
    {A : Type 0} (time : A → ℕ) (Kept : A → Type 0) (records found : List A) (span : Span) →
    found ≡ take span.most (all_within time span records) → AreRecords time Kept records →
    All (IsRecord time Kept) found
kept_within time Kept records found span is are =
    subst (λ xs. All (IsRecord time Kept) xs) (sym is)
    (All-take (IsRecord time Kept) span.most (all_within time span records)
    (within_all time (IsRecord time Kept) records span are.each))

module _ {A B : Type 0} (time : A → ℕ) (shown : A → Option B) (asked : PageFilter) (records found : List A)
    (span : Span) (old mid : Page B) (is : found ≡ take span.most (all_within time span records))
    (looked : LooksThrough time shown asked found old mid) where
  found_count : length found ≡ min span.most (length (all_within time span records))
  found_count = ap length is ∙ length-take span.most (all_within time span records)

  through :
      (left : ℕ) → span.most ≤ left →
      page_on time shown asked left (all_within time span records) old
      ≡ page_on time shown asked (left - length found) (drop span.most (all_within time span records)) mid
  through left le =
      let all = all_within time span records in
      let enough : left ≡ left - length found + length found = omega (arith, found_count) in
      let parts = ap (λ xs. xs ++ drop span.most all) is ∙ take-append-drop span.most all in
      ap (λ n. page_on time shown asked n all old) enough
      ∙ ap (λ xs. page_on time shown asked (left - length found + length found) xs old) (sym parts)
      ∙ looked.goes_on (left - length found) (drop span.most all)

  -- the page is full
  pub ends_full : is_full asked mid ≡ true → LooksWithin time shown asked records span old mid true
  ends_full full = record {
    goes_on = λ never. absurd (cc);
    ends = λ ended left le.
        through left le
        ∙ full_is time shown asked (left - length found) (drop span.most (all_within time span records)) mid full;
  }

  module _ (not_full : is_full asked mid ≡ false) (new : Page B) (count : ℕ) (counted : count ≡ length found) where
    -- nothing lies behind what was found
    ends_there :
        count < span.most → new ≡ record { entries = mid.entries; next = 0 } →
        LooksWithin time shown asked records span old new true
    ends_there less new_is = record {
      goes_on = λ never. absurd (cc);
      ends = λ ended left le.
          let all = all_within time span records in
          let short : length all ≤ span.most = omega (arith, found_count, counted) in
          let some : 0 < left - length found = omega (arith, counted) in
          through left le
          ∙ ap (λ xs. page_on time shown asked (left - length found) xs mid) (drop_all span.most all short)
          ∙ at_end time shown asked (left - length found) mid not_full some ∙ sym new_is;
    }

    -- more may lie behind it
    goes_there :
        span.most ≤ count → new ≡ mid → span.order ≡ page_order asked → 0 < span.most →
        RunsIn time Oldest records → All (λ it. 0 < time it) records →
        LooksWithin time shown asked records span old new false
    goes_there more new_is order some rise positive = record {
      goes_on = λ ended left le.
          let all = all_within time span records in
          let whole : length found ≡ span.most = omega (arith, found_count, counted) in
          let enough : span.most ≤ length all = omega (arith, found_count, whole) in
          let last : new.next ≡ behind_last time span.order old.next (take span.most all) =
          ap (λ (p : Page B). p.next) new_is ∙ looked.behind not_full
          ∙ ap (λ o. behind_last time o old.next found) (sym order)
          ∙ ap (behind_last time span.order old.next) is in
          through left le
          ∙ ap (λ n. page_on time shown asked (left - n) (drop span.most all) mid) whole
          ∙ ap (λ p. page_on time shown asked (left - span.most) (drop span.most all) p) (sym new_is)
          ∙ ap (λ xs. page_on time shown asked (left - span.most) xs new)
          (sym (ap (λ n. all_within time (span_behind span n) records) last
          ∙ rest_of_span time records span old.next span.most rise positive some enough));
      ends = λ never. absurd (cc);
    }

    pub ends_or_goes :
        (less : Bool) → less ≡ ltb count span.most →
        (count < span.most → new ≡ record { entries = mid.entries; next = 0 }) → (span.most ≤ count → new ≡ mid) →
        span.order ≡ page_order asked → 0 < span.most →
        RunsIn time Oldest records → All (λ it. 0 < time it) records →
        LooksWithin time shown asked records span old new less
    ends_or_goes true test last other order some rise positive =
        let less = ltb-true count span.most (sym test) in ends_there less (last less)
    ends_or_goes false test last other order some rise positive =
        let more : span.most ≤ count = grind (arith, nat_tests) in
        goes_there more (other more) order some rise positive

-- what was shown of a machine is shown of the same machine
pub shown_before :
    {S A B : Type 0} (t : Meaning S) (a b : S) (time : A → ℕ) (shown : Machine → A → Option B) (asked : PageFilter)
    (found : List A) (old mid : Page B) → t.state b ≡ t.state a →
    LooksThrough time (shown (t.state b).now) asked found old mid →
    LooksThrough time (shown (t.state a).now) asked found old mid
shown_before t a b time shown asked found old mid same looked =
    subst (λ (s : State). LooksThrough time (shown s.now) asked found old mid) same looked

module _ {S A B : Type 0} (t : Meaning S) (time : A → ℕ) (shown : Machine → A → Option B) (asked : PageFilter)
    (records : Machine → List A) where
  -- nothing is looked at yet
  pub making_begins :
      (a : S) (s : Span) (most : ℕ) (draft : Draft B) → t.is_usable a → t.follows a a → s ≡ page_span asked →
      most ≡ max 1 (min asked.limit most_looked_at) → page_of draft ≡ record { entries = []; next = 0 } →
      IsMaking t time shown asked records a a most_looked_at
      (record { first = s.first; last = s.last; order = s.order; most = most }) draft
  making_begins a s most draft usable stays span_is most_is empty = record {
    leaves = record { same = λ live. refl; usable = usable; follows = stays };
    page = λ live.
        let m = (t.state a).now in
        from_none time (shown m) asked (records m)
        ∙ ap (λ (w : Span). page_on time (shown m) asked most_looked_at (all_within time w (records m)) (record { entries = []; next = 0 }))
        (sym span_is)
        ∙ ap (page_on time (shown m) asked most_looked_at (all_within time s (records m))) (sym empty);
    order = ap (λ (w : Span). w.order) span_is;
    some = λ left. omega (arith, most_is);
    most = omega (arith, most_is);
    bounded = omega arith;
  }

  -- a span's first records are looked at
  pub making_goes_on :
      (a b c : S) (left : ℕ) (span s : Span) (most : ℕ) (draft new : Draft B) (ended : Bool) → Joins t →
      IsMaking t time shown asked records a b left span draft → 0 < left →
      (t.is_live c → LooksWithin time (shown (t.state b).now) asked (records (t.state b).now) span (page_of draft) (page_of new) ended)
      → ended ≡ false → LeavesSame t b c (Ok ended) →
      s ≡ span_behind span new.behind → most ≡ min (left - span.most) (2 * span.most) →
      IsMaking t time shown asked records a c (left - span.most)
      (record { first = s.first; last = s.last; order = s.order; most = most }) new
  making_goes_on a b c left span s most draft new ended joins so_far some looks going leaves span_is most_is = record {
    leaves = looks_in_turn t a b c _ _ _ joins so_far.leaves leaves;
    page = λ live.
        let before = joins.lived b c leaves.follows live in
        let m = (t.state a).now in
        let looked = subst (λ (x : State). LooksWithin time (shown x.now) asked (records x.now) span (page_of draft) (page_of new) ended)
        (so_far.leaves.same before) (looks live) in
        so_far.page before ∙ looked.goes_on going left so_far.most
        ∙ ap (λ (w : Span). page_on time (shown m) asked (left - span.most) (all_within time w (records m)) (page_of new)) (sym span_is);
    order = ap (λ (w : Span). w.order) span_is ∙ same_order span.order span new.behind ∙ so_far.order;
    some = λ more. omega (arith, most_is, so_far.some some);
    most = omega (arith, most_is);
    bounded = omega (arith, so_far.bounded);
  }

  -- no more may be looked at
  pub making_ends :
      (a b : S) (left : ℕ) (span : Span) (draft : Draft B) → IsMaking t time shown asked records a b left span draft →
      left ≤ 0 → t.is_live b →
      page_of draft ≡ page_in time (shown (t.state a).now) asked (records (t.state a).now)
  making_ends a b left span draft so_far none live =
      let m = (t.state a).now in
      let zero_left : left ≡ 0 = omega arith in
      sym (so_far.page live
      ∙ ap (λ n. page_on time (shown m) asked n (all_within time span (records m)) (page_of draft)) zero_left
      ∙ none_left time (shown m) asked (all_within time span (records m)) (page_of draft))
