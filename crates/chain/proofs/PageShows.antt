-- What is shown of all records in the span of a page, found span by span.
use Rattle.std.proofs.Common.{◌≡◌, ℕ, ◌+◌, ◌-◌, ◌*◌, ◌<◌, ◌≤◌, max, min, Bool, true, false, Option, Ok, List, [], length, take, refl, sym, ap, ◌∙◌, subst, arith}
use Rattle.std.specs.List.{filter_map}
use Rattle.std.proofs.lemmas.List.{take_all}
use Rattle.records.specs.declared.query.PageFilter.{PageFilter}
use Rattle.records.specs.declared.query.Span.{Span}
use Rattle.records.specs.Machine.{Machine}
use Rattle.records.specs.Queries.{Page, page_order, page_span}
use Rattle.chain.specs.Pages.{LooksWithin, all_within, chosen_of, first_shown, page_of, page_on, span_behind}
use Rattle.chain.specs.Looks.{LeavesSame}
use Rattle.chain.specs.Tables.{Meaning, State}
use Rattle.chain.specs.declared.pages.Draft.{Draft}
use Rattle.chain.proofs.TableCalls.{Joins, looks_in_turn}
use Rattle.chain.proofs.PageSpans.{same_order}

-- what is shown comes of a draft by the rest of a span, however much is looked at
pub record IsShowing {S A B : Type 0} (t : Meaning S) (time : A → ℕ) (shown : Machine → A → Option B) (asked : PageFilter)
    (records : Machine → List A) (old new : S) (span : Span) (draft : Draft B) : Type 0 where
  pub leaves : LeavesSame t old new (Ok (tt {0}))
  pub shows : t.is_live new → (left : ℕ) →
      length (all_within time (page_span asked) (records (t.state old).now)) ≤ left →
      (page_on time (shown (t.state old).now) asked left (all_within time span (records (t.state old).now)) (page_of draft)).entries
      ≡ first_shown time (shown (t.state old).now) asked (records (t.state old).now)
  pub order : span.order ≡ page_order asked
  pub some : 0 < span.most
  pub most : span.most ≤ 1000

module _ {S A B : Type 0} (t : Meaning S) (time : A → ℕ) (shown : Machine → A → Option B) (asked : PageFilter)
    (records : Machine → List A) where
  -- all of it comes of an empty page
  from_empty :
      (m : Machine) (left : ℕ) → length (all_within time (page_span asked) (records m)) ≤ left →
      (page_on time (shown m) asked left (all_within time (page_span asked) (records m)) (record { entries = []; next = 0 })).entries
      ≡ first_shown time (shown m) asked (records m)
  unfolding page_on
  from_empty m left le =
      let all = all_within time (page_span asked) (records m) in
      let whole : asked.limit - 0 ≡ asked.limit = omega arith in
      ap (λ n. filter_map (shown m) (chosen_of (shown m) n (take left all))) whole
      ∙ ap (λ xs. filter_map (shown m) (chosen_of (shown m) asked.limit xs)) (take_all left all le)

  pub showing_begins :
      (a : S) (s : Span) (most : ℕ) (draft : Draft B) → t.is_usable a → t.follows a a → s ≡ page_span asked →
      most ≡ max 1 (min asked.limit 1000) → page_of draft ≡ record { entries = []; next = 0 } →
      IsShowing t time shown asked records a a
      (record { first = s.first; last = s.last; order = s.order; most = most }) draft
  showing_begins a s most draft usable stays span_is most_is empty = record {
    leaves = record { same = λ live. refl; usable = usable; follows = stays };
    shows = λ live left le.
        let m = (t.state a).now in
        ap (λ (w : Span). (page_on time (shown m) asked left (all_within time w (records m)) (page_of draft)).entries) span_is
        ∙ ap (λ (d : Page B). (page_on time (shown m) asked left (all_within time (page_span asked) (records m)) d).entries) empty
        ∙ from_empty m left le;
    order = ap (λ (w : Span). w.order) span_is;
    some = omega (arith, most_is);
    most = omega (arith, most_is);
  }

  pub showing_goes_on :
      (a b c : S) (span s : Span) (most : ℕ) (draft new : Draft B) (ended : Bool) → Joins t →
      IsShowing t time shown asked records a b span draft →
      (t.is_live c → LooksWithin time (shown (t.state b).now) asked (records (t.state b).now) span (page_of draft) (page_of new) ended)
      → ended ≡ false → LeavesSame t b c (Ok ended) →
      s ≡ span_behind span new.behind → most ≡ min 1000 (2 * span.most) →
      IsShowing t time shown asked records a c
      (record { first = s.first; last = s.last; order = s.order; most = most }) new
  showing_goes_on a b c span s most draft new ended joins so_far looks going leaves span_is most_is = record {
    leaves = looks_in_turn t a b c _ _ _ joins so_far.leaves leaves;
    shows = λ live left le.
        let before = joins.lived b c leaves.follows live in
        let m = (t.state a).now in
        let looked = subst (λ (x : State). LooksWithin time (shown x.now) asked (records x.now) span (page_of draft) (page_of new) ended)
        (so_far.leaves.same before) (looks live) in
        let more : span.most ≤ left + span.most = omega arith in
        let back : left + span.most - span.most ≡ left = omega arith in
        ap (λ (w : Span). (page_on time (shown m) asked left (all_within time w (records m)) (page_of new)).entries) span_is
        ∙ sym (ap (λ n. (page_on time (shown m) asked n (all_within time (span_behind span new.behind) (records m)) (page_of new)).entries) back)
        ∙ sym (ap (λ (p : Page B). p.entries) (looked.goes_on going (left + span.most) more))
        ∙ so_far.shows before (left + span.most) (omega (arith, le));
    order = ap (λ (w : Span). w.order) span_is ∙ same_order span.order span new.behind ∙ so_far.order;
    some = omega (arith, most_is, so_far.some);
    most = omega (arith, most_is);
  }

  pub showing_ends :
      (a b c : S) (span : Span) (draft new : Draft B) (ended : Bool) → Joins t →
      IsShowing t time shown asked records a b span draft →
      (t.is_live c → LooksWithin time (shown (t.state b).now) asked (records (t.state b).now) span (page_of draft) (page_of new) ended)
      → ended ≡ true → LeavesSame t b c (Ok ended) → t.is_live c →
      new.entries.items ≡ first_shown time (shown (t.state a).now) asked (records (t.state a).now)
  showing_ends a b c span draft new ended joins so_far looks over leaves live =
      let before = joins.lived b c leaves.follows live in
      let m = (t.state a).now in
      let looked = subst (λ (x : State). LooksWithin time (shown x.now) asked (records x.now) span (page_of draft) (page_of new) ended)
      (so_far.leaves.same before) (looks live) in
      let left = length (all_within time (page_span asked) (records m)) + span.most in
      sym (ap (λ (p : Page B). p.entries) (looked.ends over left (omega arith)))
      ∙ so_far.shows before left (omega arith)
