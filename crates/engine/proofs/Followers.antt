-- A follower of a ledger gets each transfer that it asks for once.
use Rattle.std.proofs.Common.{◌≡◌, ◌≢◌, ◌<◌, ◌≤◌, ◌+◌, ◌-◌, ◌^◌, ◌&&◌, ℕ, Bool, true, false, nat_le, eqb, ltb, min, cond, List, [], ◌∷◌, ◌++◌, append_assoc, append-nil, length, take, drop, Option, Some, None, is_some, refl, sym, ap, ◌∙◌, subst, arith}
use Rattle.std.specs.List.{All, filter, filter_map, last_or}
use Rattle.std.proofs.lemmas.Bool.Decides.{nat_tests}
use Rattle.std.proofs.lemmas.List.{take-append-drop, length-take, take_all}
use Rattle.std.proofs.lemmas.List.Elements.{All-head, All-tail, All-weaker, All-filter, All-take, filter-append, filter_agree, filter_passes}
use Rattle.records.specs.declared.filter.Order.{Order}
use Rattle.records.specs.declared.filter.Order.TheVariants.{Oldest}
use Rattle.records.specs.declared.query.Tags.{Tags}
use Rattle.records.specs.declared.transfer.Transfer.{Transfer}
use Rattle.records.specs.Queries.{time_behind_record, asks_tags, transfer_tags, asked_transfer, queried_transfers, most_looked_at, chosen, page_span, within}
use Rattle.engine.specs.Following.{GoesOnBehind}
use Rattle.engine.specs.Follower.{asked_for, earlier_than, HasFollowed, number_behind, FollowersBegin, FollowersGoOn, FollowersArrive}
use Rattle.engine.proofs.CutLists.{filter_swap, ascending_filter, cut_behind, split_at, HasLast, has_last}
use Rattle.engine.proofs.EarlierLemmas.{below, below_all, below_none, all_right}
use Rattle.engine.proofs.EntriesInTurn.{transfer_time}
use Rattle.engine.proofs.EntriesOfValid.{given}
use Rattle.engine.proofs.ValidMachineLemmas.{AreAscending, transfers_ascend, clock_bound}

-- a list in order up to the last element of its middle part is that part and what is before it
cut_at : {A : Type 0} (key : A → ℕ) (whole front part rest : List A) → AreAscending key whole → whole ≡ front ++ (part ++ rest) → (l : HasLast part) → below key (key l.last + 1) whole ≡ front ++ part
cut_at key whole front part rest ascending is l =
    let parts : whole ≡ (front ++ l.before) ++ l.last ∷ rest =
    is ∙ ap (λ ys. front ++ (ys ++ rest)) l.are ∙ ap (λ ys. front ++ ys) (append_assoc l.before (l.last ∷ []) rest) ∙ sym (append_assoc front l.before (l.last ∷ rest)) in
    ap (below key (key l.last + 1)) parts
    ∙ cut_behind key (front ++ l.before) l.last rest (subst (AreAscending key) parts ascending)
    ∙ append_assoc front l.before (l.last ∷ [])
    ∙ ap (λ ys. front ++ ys) (sym l.are)

last_within : {A : Type 0} (P : A → Type 0) (whole front part rest : List A) → All P whole → whole ≡ front ++ (part ++ rest) → (l : HasLast part) → P l.last
last_within P whole front part rest all is l =
    let inner : All P (part ++ rest) = all_right P front (part ++ rest) (subst (All P) is all) in
    let ends : part ++ rest ≡ l.before ++ l.last ∷ rest = ap (λ ys. ys ++ rest) l.are ∙ append_assoc l.before (l.last ∷ []) rest in
    All-head P l.last rest (all_right P l.before (l.last ∷ rest) (subst (All P) ends inner))

-- a number that is not 0
next_number : (clock time : ℕ) → cond (eqb (time + 1) 0) (clock + 1) (time + 1) ≡ time + 1
next_number clock time = rw (more time) refl
  where
    more : (time : ℕ) → eqb (time + 1) 0 ≡ false
    more time = grind (arith, nat_tests)

differ : (a b : ℕ) → eqb a b ≡ false → a ≢ b
differ a b is same = grind (arith, nat_tests)

same : (a b : ℕ) → eqb a b ≡ true → a ≡ b
same a b is = grind (arith, nat_tests)

-- a page of what is asked for, of so many elements that are looked at, and the number behind it
module _ {A : Type 0} (key : A → ℕ) (p : A → Bool) (xs : List A) (n last clock limit most : ℕ)
  where
    abbrev from_on : List A
    from_on = filter (λ y. nat_le n (key y) && nat_le (key y) last) xs

    abbrev looked : List A
    looked = take most from_on

    abbrev shown : List A
    shown = take limit (filter p looked)

    abbrev number_by : Order → Bool → Bool → ℕ
    number_by order full bounded =
        let next = cond full (time_behind_record key order (last_or None shown)) (cond bounded (time_behind_record key order (last_or None looked)) 0) in
        cond (eqb next 0) (clock + 1) next

    pub record Reaches (number : ℕ) : Type 0 where
      pub each : filter p (below key n xs) ++ shown ≡ filter p (below key number xs)
      pub by : number ≤ clock + 1

    module _ (ascending : AreAscending key xs) (ends : All (λ y. key y ≤ clock) xs) (fits : clock ≤ last)
      where
        parts : xs ≡ below key n xs ++ (looked ++ drop most from_on)
        parts = sym (ap (λ ys. below key n xs ++ ys) (take-append-drop most from_on) ∙ split_at key n last xs ascending (All-weaker (λ y. key y ≤ clock) (λ y. key y ≤ last) (λ y h. omega arith) xs ends))

        asked_parts : filter p xs ≡ filter p (below key n xs) ++ (shown ++ (drop limit (filter p looked) ++ filter p (drop most from_on)))
        asked_parts =
            ap (filter p) parts
            ∙ filter-append p (below key n xs) (looked ++ drop most from_on)
            ∙ ap (λ ys. filter p (below key n xs) ++ ys) (filter-append p looked (drop most from_on) ∙ ap (λ ys. ys ++ filter p (drop most from_on)) (sym (take-append-drop limit (filter p looked))) ∙ append_assoc shown (drop limit (filter p looked)) (filter p (drop most from_on)))

        at_limit : (l : HasLast shown) → Reaches (key l.last + 1)
        at_limit l =
            let rest = drop limit (filter p looked) ++ filter p (drop most from_on) in
            record {
              each = sym (filter_swap p (λ y. ltb (key y) (key l.last + 1)) xs ∙ cut_at key (filter p xs) (filter p (below key n xs)) shown rest (ascending_filter key p xs ascending) asked_parts l);
              by = let h = last_within (λ y. key y ≤ clock) (filter p xs) (filter p (below key n xs)) shown rest (All-filter p (λ y. key y ≤ clock) xs ends) asked_parts l in omega (arith, h);
            }

        all_shown : length shown ≢ limit → shown ≡ filter p looked
        all_shown less = take_all limit (filter p looked) (short (length-take limit (filter p looked)) less)
          where
            short : {a b c : ℕ} → c ≡ min a b → c ≢ a → b ≤ a
            short is other = omega arith

        at_bound : length shown ≢ limit → (l : HasLast looked) → Reaches (key l.last + 1)
        at_bound less l = record {
          each = sym (ap (filter p) (cut_at key xs (below key n xs) looked (drop most from_on) ascending parts l) ∙ filter-append p (below key n xs) looked ∙ ap (λ ys. filter p (below key n xs) ++ ys) (sym (all_shown less)));
          by = let h = last_within (λ y. key y ≤ clock) xs (below key n xs) looked (drop most from_on) ends parts l in omega (arith, h);
        }

        at_end : length shown ≢ limit → length looked ≢ most → Reaches (clock + 1)
        at_end less fewer = record {
          each = sym (ap (filter p) (below_all key (clock + 1) xs (All-weaker (λ y. key y ≤ clock) (λ y. key y < clock + 1) (λ y h. omega arith) xs ends) ∙ whole) ∙ filter-append p (below key n xs) looked ∙ ap (λ ys. filter p (below key n xs) ++ ys) (sym (all_shown less)));
          by = omega arith;
        }
          where
            short : {a b c : ℕ} → c ≡ min a b → c ≢ a → b ≤ a
            short is other = omega arith

            whole : xs ≡ below key n xs ++ looked
            whole = sym (ap (λ ys. below key n xs ++ ys) (take_all most from_on (short (length-take most from_on) fewer)) ∙ split_at key n last xs ascending (All-weaker (λ y. key y ≤ clock) (λ y. key y ≤ last) (λ y h. omega arith) xs ends))

        abbrev behind : Option A → ℕ
        behind o = let next = time_behind_record key Oldest o in cond (eqb next 0) (clock + 1) next

        pub reaches : (full bounded : Bool) → eqb (length shown) limit ≡ full → eqb (length looked) most ≡ bounded → 0 < limit → 0 < most → Reaches (number_by Oldest full bounded)
        reaches true bounded is_full is_bounded some more =
            let l = has_last shown (omega (arith, same (length shown) limit is_full)) in
            subst Reaches (sym (ap behind l.is ∙ next_number clock (key l.last))) (at_limit l)
        reaches false true is_full is_bounded some more =
            let l = has_last looked (omega (arith, same (length looked) most is_bounded)) in
            subst Reaches (sym (ap behind l.is ∙ next_number clock (key l.last))) (at_bound (differ (length shown) limit is_full) l)
        reaches false false is_full is_bounded some more = at_end (differ (length shown) limit is_full) (differ (length looked) most is_bounded)

-- what was earlier than a number that is not beyond the clock still is, and nothing else
still_below : {A : Type 0} (key : A → ℕ) (n clock : ℕ) (old new : List A) → n ≤ clock + 1 → GoesOnBehind key clock old new → below key n new ≡ below key n old
still_below {A} key n clock old new le on =
    let later = All-weaker (λ (x : A). clock < key x) (λ (x : A). n ≤ key x) (λ x h. omega arith) on.more on.behind in
    rw (on.is, filter-append (λ x. ltb (key x) n) old on.more, below_none key n on.more later, append-nil (below key n old)) refl

-- a query of transfers shows what it asks for as it is
is_shown : {A : Type 0} (b : Bool) (x : A) → is_some (cond b (Some x) None) ≡ b
is_shown true x = refl
is_shown false x = refl

shown_as_is : (tags : Tags) (t : Transfer) (ts : List Transfer) (b : Bool) → asks_tags tags (transfer_tags t) ≡ b → b ≡ true → filter_map (asked_transfer tags) (t ∷ ts) ≡ t ∷ filter_map (asked_transfer tags) ts
shown_as_is tags t ts true is so = rw is refl
shown_as_is tags t ts false is so = absurd (cc)

all_shown_as_is : (tags : Tags) (ts : List Transfer) → All (λ t. asks_tags tags (transfer_tags t) ≡ true) ts → filter_map (asked_transfer tags) ts ≡ ts
all_shown_as_is tags [] all = refl
all_shown_as_is tags (t ∷ ts) all = shown_as_is tags t ts (asks_tags tags (transfer_tags t)) refl (All-head (λ t. asks_tags tags (transfer_tags t) ≡ true) t ts all) ∙ ap (λ more. t ∷ more) (all_shown_as_is tags ts (All-tail (λ t. asks_tags tags (transfer_tags t) ≡ true) t ts all))

abbrev number_of : ℕ → ℕ → Order → List Transfer → List Transfer → ℕ
number_of clock limit order told seen =
    let next = cond (eqb (length told) limit) (time_behind_record transfer_time order (last_or None told)) (cond (eqb (length seen) most_looked_at) (time_behind_record transfer_time order (last_or None seen)) 0) in
    cond (eqb next 0) (clock + 1) next

pub begin : FollowersBegin
begin m tags = record {
  each_once = sym (ap (asked_for tags) (below_none transfer_time 0 m.transfers (λ k d h. omega arith)));
  by_clock = omega arith;
}

pub arrive : FollowersArrive
arrive m tags got valid followed =
    followed.each_once ∙ ap (asked_for tags) (below_all transfer_time (m.clock + 1) m.transfers (All-weaker (λ (t : Transfer). t.timestamp ≤ m.clock) (λ (t : Transfer). t.timestamp < m.clock + 1) (λ t h. omega arith) m.transfers (given m valid).clock.transfers))

pub onward : FollowersGoOn
onward old now number got asked followed continues valid from =
    let p = λ (t : Transfer). asks_tags asked.tags (transfer_tags t) in
    let last : ℕ = 2 ^ 64 - 1 in
    let seen = looked transfer_time p now.transfers number last now.clock asked.page.limit most_looked_at in
    let told = shown transfer_time p now.transfers number last now.clock asked.page.limit most_looked_at in
    let is_seen : within transfer_time (page_span asked.page) now.transfers ≡ seen = rw (from.oldest_first, from.from, from.unbounded) refl in
    let is_told : chosen (asked_transfer asked.tags) asked.page (within transfer_time (page_span asked.page) now.transfers) ≡ told =
    ap (take asked.page.limit) (filter_agree (λ (t : Transfer). is_some (asked_transfer asked.tags t)) p (λ t. is_shown (p t) t) (within transfer_time (page_span asked.page) now.transfers) ∙ ap (filter p) is_seen) in
    let is_number : number_behind now (queried_transfers now asked) ≡ number_of now.clock asked.page.limit Oldest told seen =
    λ i. number_of now.clock asked.page.limit (from.oldest_first i) (is_told i) (is_seen i) in
    let are : (queried_transfers now asked).entries ≡ told =
    ap (filter_map (asked_transfer asked.tags)) is_told ∙ all_shown_as_is asked.tags told (All-take (λ (t : Transfer). p t ≡ true) asked.page.limit (filter p seen) (filter_passes p seen)) in
    let goes = reaches transfer_time p now.transfers number last now.clock asked.page.limit most_looked_at (transfers_ascend now valid) (given now valid).clock.transfers (omega (arith, clock_bound now valid)) (eqb (length told) asked.page.limit) (eqb (length seen) most_looked_at) refl refl from.some (omega arith) in
    let got_is : got ≡ asked_for asked.tags (earlier_than number now.transfers) = followed.each_once ∙ ap (filter p) (sym (still_below transfer_time number old.clock old.transfers now.transfers followed.by_clock continues.transfers)) in
    subst (λ (n : ℕ). HasFollowed now asked.tags n (got ++ (queried_transfers now asked).entries)) (sym is_number)
    record {
      each_once = (λ i. got_is i ++ are i) ∙ goes.each;
      by_clock = goes.by;
    }
