-- Pieces of an account's entries, as machines have them that continue one.
use Rattle.std.proofs.Common.{◌≡◌, ◌∙◌, ℕ, zero, suc, ◌+◌, ◌-◌, ◌<◌, ◌≤◌, ◌^◌, ◌&&◌, nat_eq, nat_le, min, cond, Bool, true, false, Option, Some, None, List, [], ◌∷◌, ◌++◌, length, filter, take, drop, refl, sym, ap, subst, arith, append-nil}
use Rattle.std.specs.Option.{option_map}
use Rattle.std.specs.List.{All, last_or}
use Rattle.std.proofs.Math.Seq.{take-append_seam, drop-append_seam}
use Rattle.std.proofs.lemmas.Bool.Decides.{nat_tests}
use Rattle.std.proofs.lemmas.List.{length-append, take-append-drop}
use Rattle.std.proofs.lemmas.List.Elements.{All-head, All-tail, All-take, All-weaker}
use Rattle.chain.proofs.EntriesUpToClock.{up_to_clock}
use Rattle.chain.proofs.PageSpans.{rest_of_span, within_all}
use Rattle.chain.specs.AccountEntries.{account_entries, account_entries_within, entry_time}
use Rattle.chain.specs.Pages.{IsRecord, all_within, behind_last, span_behind}
use Rattle.chain.specs.Records.{entry_records}
use Rattle.chain.specs.declared.account_entry.AccountEntry.{AccountEntry}
use Rattle.control.specs.declared.entries.Entries.{Entries}
use Rattle.control.specs.declared.piece_asked.PieceAsked.{PieceAsked}
use Rattle.records.specs.Machine.{Machine}
use Rattle.records.specs.Queries.{is_within, time_behind}
use Rattle.records.specs.Reads.{in_order}
use Rattle.records.specs.Step.{max_clock}
use Rattle.records.specs.Valid.{IsValid}
use Rattle.records.specs.declared.filter.Order.{Order}
use Rattle.records.specs.declared.query.Span.{Span}
use Rattle.records.specs.declared.transfer.Transfer.{Transfer}
use Rattle.commands.specs.Desk.{span_of}
use Rattle.commands.specs.PieceByPiece.{IsPieceOfLater, PiecesMakeTheWhole}
use Rattle.admin_client.specs.Served.{ComeBehind, entries_of, last_time, piece_behind, up_to}
use Rattle.parts.proofs.LaterEntries.{all_own, same_later}

-- tests that agree on all elements
same_by :
    (p q : AccountEntry → Bool) (x : AccountEntry) (xs : List AccountEntry) (b : Bool) → q x ≡ b
    → p x ≡ q x → filter p xs ≡ filter q xs → filter p (x ∷ xs) ≡ filter q (x ∷ xs)
same_by p q x xs true is agree same = rw (agree, is) (ap (λ (ys : List AccountEntry). x ∷ ys) same)
same_by p q x xs false is agree same = rw (agree, is) same

same_tests :
    (p q : AccountEntry → Bool) (xs : List AccountEntry) → All (λ (e : AccountEntry). p e ≡ q e) xs
    → filter p xs ≡ filter q xs
same_tests p q [] all = refl
same_tests p q (x ∷ xs) all =
    let P = λ (e : AccountEntry). p e ≡ q e in
    same_by p q x xs (q x) refl (All-head P x xs all) (same_tests p q xs (All-tail P x xs all))

-- the time behind the last of some entries
last_is :
    (order : Order) (behind : ℕ) (o : Option AccountEntry) (xs : List AccountEntry) (last : ℕ)
    → ((x : AccountEntry) → o ≡ Some x → behind ≡ time_behind order (entry_time x))
    → option_map entry_time (last_or o xs) ≡ Some last
    → behind_last entry_time order behind xs ≡ time_behind order last
last_is order behind None [] last from is = absurd (cc)
last_is order behind (Some x) [] last from is = from x refl ∙ ap (time_behind order) (cc)
last_is order behind o (x ∷ xs) last from is =
    last_is order (time_behind order (entry_time x)) (Some x) xs last
    (λ y same. let it : x ≡ y = cc in
    ap (λ (e : AccountEntry). time_behind order (entry_time e)) it) is

-- what holds of all times holds of the last
last_has :
    (P : ℕ → Type 0) (o : Option AccountEntry) (xs : List AccountEntry) (last : ℕ)
    → ((x : AccountEntry) → o ≡ Some x → P (entry_time x))
    → All (λ (e : AccountEntry). P (entry_time e)) xs
    → option_map entry_time (last_or o xs) ≡ Some last → P last
last_has P None [] last from all is = absurd (cc)
last_has P (Some x) [] last from all is = subst P (cc) (from x refl)
last_has P o (x ∷ xs) last from all is =
    let Q = λ (e : AccountEntry). P (entry_time e) in
    last_has P (Some x) xs last
    (λ y same. let it : x ≡ y = cc in subst Q it (All-head Q x xs all))
    (All-tail Q x xs all) is

-- entries that are some have a last one
some_last :
    (x : AccountEntry) (xs : List AccountEntry) → (last : ℕ) × (last_time (x ∷ xs) ≡ Some last)
some_last x [] = (entry_time x, refl)
some_last x (y ∷ xs) = some_last y xs

-- a time that an entry has
IsTime : ℕ → Type 0
IsTime time = (0 < time) × (time ≤ max_clock)

ends_by : {A : Type 0} (b : Bool) (x : A) → cond b None (Some x) ≡ None → b ≡ true
ends_by true x is = refl
ends_by false x is = absurd (cc)

goes_by : {A : Type 0} (b : Bool) (x next : A) → cond b None (Some x) ≡ Some next → next ≡ x
goes_by true x next is = absurd (cc)
goes_by false x next is = cc

-- a piece that is asked for, by its parts
abbrev piece : List ℕ → ℕ → ℕ → ℕ → Bool → PieceAsked
piece tenant account from to b =
    record { tenant = tenant; account = account; from = from; to = to; is_reversed = b }

-- behind an entry there is always more to ask for
more_behind :
    (tenant : List ℕ) (account from to : ℕ) (b : Bool) (last : ℕ) → IsTime last
    → piece_behind (piece tenant account from to b) (Some last) ≡ None → ⊥
unfolding IsTime
more_behind tenant account from to true last time none =
    let so = ends_by (nat_eq last 0) _ none in grind (arith, nat_tests)
more_behind tenant account from to false last time none =
    let so = ends_by (nat_eq last (2 ^ 64 - 1)) _ none in grind (arith, nat_tests)

-- so a piece behind which there is none has no entries
none_left :
    (asked : PieceAsked) (xs : List AccountEntry)
    → All (λ (e : AccountEntry). IsTime (entry_time e)) xs
    → piece_behind asked (last_time xs) ≡ None → xs ≡ []
none_left asked [] all none = refl
none_left asked (x ∷ xs) all none =
    let Q = λ (e : AccountEntry). IsTime (entry_time e) in
    let some = some_last x xs in
    let time = last_has IsTime None (x ∷ xs) some.0 (λ y is. absurd (cc)) all some.1 in
    absurd (more_behind asked.tenant asked.account asked.from asked.to asked.is_reversed some.0 time
    (ap (piece_behind asked) (sym some.1) ∙ none))

-- what is asked for behind a piece
record IsBehind (asked : PieceAsked) (last clock : ℕ) (next : PieceAsked) : Type 0 where
  pub span : span_of next ≡ span_behind (span_of asked) (time_behind (span_of asked).order last)
  pub account : next.account ≡ asked.account
  pub ends : asked.to ≤ clock → last ≤ clock → next.to ≤ clock

behind_by :
    (tenant : List ℕ) (account from to : ℕ) (b : Bool) (last clock : ℕ) (next : PieceAsked)
    → piece_behind (piece tenant account from to b) (Some last) ≡ Some next
    → IsBehind (piece tenant account from to b) last clock next
behind_by tenant account from to true last clock next is =
    let so : next ≡ piece tenant account from (last - 1) true =
    goes_by (nat_eq last 0) _ next is in record {
      span = ap span_of so;
      account = ap (λ (p : PieceAsked). p.account) so;
      ends = λ asked_ends last_ends. let to_is = ap (λ (p : PieceAsked). p.to) so in omega arith;
    }
behind_by tenant account from to false last clock next is =
    let so : next ≡ piece tenant account (last + 1) to false =
    goes_by (nat_eq last (2 ^ 64 - 1)) _ next is in record {
      span = ap span_of so;
      account = ap (λ (p : PieceAsked). p.account) so;
      ends = λ asked_ends last_ends. let to_is = ap (λ (p : PieceAsked). p.to) so in omega arith;
    }

-- a beginning without an entry is one of none
nothing_taken :
    {A : Type 0} (count : ℕ) (xs : List A) → 0 < count → take count xs ≡ [] → xs ≡ []
nothing_taken count [] some none = refl
nothing_taken zero (x ∷ xs) some none = absurd (omega arith)
nothing_taken (suc count) (x ∷ xs) some none = absurd (cc)

module _ (m : Machine) (valid : IsValid m) (account : ℕ) where
  abbrev own : List AccountEntry
  own = account_entries m account

  times : All (λ (e : AccountEntry). IsTime (entry_time e)) own
  unfolding IsTime
  times =
      All-weaker (IsRecord entry_time (λ e. Unit {0})) (λ (e : AccountEntry). IsTime (entry_time e))
      (λ e is. (is.positive, is.bounded)) own (entry_records m valid account).each

  past : All (λ (e : AccountEntry). entry_time e ≤ m.clock) own
  past =
      all_own account (λ (t : Transfer). t.timestamp ≤ m.clock) [] m.transfers
      (up_to_clock valid).transfers

  abbrev in_span : Span → List AccountEntry
  in_span span = all_within entry_time span own

  -- a piece and what is in the span behind its last entry are all that is in the span
  and_behind :
      (asked next : PieceAsked) (count : ℕ) (xs : List AccountEntry) → 0 < count
      → xs ≡ take count (in_span (span_of asked)) → piece_behind asked (last_time xs) ≡ Some next
      → (xs ++ in_span (span_of next) ≡ in_span (span_of asked))
      × (next.account ≡ asked.account) × (asked.to ≤ m.clock → next.to ≤ m.clock)
  and_behind asked next count [] some is behind = absurd (cc)
  and_behind asked next count (x ∷ xs) some is behind =
      let span = span_of asked in
      let all = in_span span in
      let entries = x ∷ xs in
      let rest = drop count all in
      let last = some_last x xs in
      let parts : entries ++ rest ≡ all =
      ap (λ (ys : List AccountEntry). ys ++ rest) is ∙ take-append-drop count all in
      let front : take (length entries) all ≡ entries =
      ap (take (length entries)) (sym parts) ∙ take-append_seam entries rest in
      let back : drop (length entries) all ≡ rest =
      ap (drop (length entries)) (sym parts) ∙ drop-append_seam entries rest in
      let fits : length entries ≤ length all =
      omega (arith, ap length parts, length-append entries rest) in
      let it = behind_by asked.tenant asked.account asked.from asked.to asked.is_reversed last.0 m.clock
      next (ap (piece_behind asked) (sym last.1) ∙ behind) in
      let end = λ (ys : List AccountEntry). behind_last entry_time span.order 0 ys in
      let at : end entries ≡ time_behind span.order last.0 =
      last_is span.order 0 None entries last.0 (λ y none. absurd (cc)) last.1 in
      let records = entry_records m valid account in
      let positive = All-weaker (IsRecord entry_time (λ e. Unit {0}))
      (λ (e : AccountEntry). 0 < entry_time e) (λ e is. is.positive) own records.each in
      let behind_rest = rest_of_span entry_time own span 0 (length entries) records.rise positive
      (omega arith) fits in
      let P = λ (e : AccountEntry). entry_time e ≤ m.clock in
      let all_past = All-take P count all (within_all entry_time P own span past) in
      let by_clock : last.0 ≤ m.clock =
      last_has (λ time. time ≤ m.clock) None entries last.0 (λ y none. absurd (cc))
      (subst (λ (ys : List AccountEntry). All P ys) (sym is) all_past) last.1 in (
        ap (λ (ys : List AccountEntry). entries ++ ys)
            (ap in_span (it.span ∙ ap (span_behind span) (sym at))
            ∙ ap (λ (ys : List AccountEntry). in_span (span_behind span (end ys))) (sym front)
            ∙ behind_rest ∙ back)
            ∙ parts,
        it.account,
        λ ends. it.ends ends by_clock,
      )

  -- pieces up to the clock are all that is in the span
  all_pieces :
      (asked : PieceAsked) (piece : Entries) (pieces : List Entries) → asked.account ≡ account
      → asked.to ≤ m.clock → piece.entries.items ≡ take 1000 (in_span (span_of asked))
      → ComeBehind (IsPieceOfLater m) asked piece pieces
      → entries_of (piece ∷ pieces) ≡ in_span (span_of asked)
  all_pieces asked piece [] is_own ends is none =
      let all = in_span (span_of asked) in
      let P = λ (e : AccountEntry). IsTime (entry_time e) in
      let all_times = All-take P 1000 all (within_all entry_time P own (span_of asked) times) in
      let no_more : piece.entries.items ≡ [] =
      none_left asked piece.entries.items
      (subst (λ (ys : List AccountEntry). All P ys) (sym is) all_times) none in
      append-nil piece.entries.items ∙ no_more
      ∙ sym (nothing_taken 1000 all (omega arith) (sym is ∙ no_more))
  all_pieces asked piece (next ∷ pieces) is_own ends is more =
      let behind = more.0 in
      let step = and_behind asked behind 1000 piece.entries.items (omega arith) is more.1 in
      let later = more.2.0 in
      let now_own : behind.account ≡ account = step.1 ∙ is_own in
      let now_ends = step.2 ends in
      let now_is : next.entries.items ≡ take 1000 (in_span (span_of behind)) =
      more.2.2.entries
      ∙ ap (λ (id : ℕ). account_entries_within later id (span_of behind)) now_own
      ∙ ap (take 1000) (same_later m later account (span_of behind) more.2.1 now_ends) in
      ap (λ (ys : List AccountEntry). piece.entries.items ++ ys)
      (all_pieces behind next pieces now_own now_ends now_is more.3) ∙ step.0

-- a span that ends at the clock has all entries of one that may go further
cut_within :
    (first last clock time : ℕ) → time ≤ clock
    → (nat_le first time && nat_le time (min last clock)) ≡ (nat_le first time && nat_le time last)
cut_within first last clock time by = grind (arith, nat_tests)

cut :
    (m : Machine) → IsValid m → (account : ℕ) (asked : PieceAsked)
    → all_within entry_time (span_of (up_to m.clock asked)) (account_entries m account)
    ≡ all_within entry_time (span_of asked) (account_entries m account)
cut m valid account asked =
    let own = account_entries m account in
    let cut_in = λ (e : AccountEntry). is_within (span_of (up_to m.clock asked)) (entry_time e) in
    let is_in = λ (e : AccountEntry). is_within (span_of asked) (entry_time e) in
    let P = λ (e : AccountEntry). entry_time e ≤ m.clock in
    ap (in_order (span_of asked).order) (same_tests cut_in is_in own
    (All-weaker P (λ (e : AccountEntry). cut_in e ≡ is_in e)
    (λ e by. cut_within asked.from asked.to m.clock (entry_time e) by) own (past m valid account)))

pub make_the_whole : PiecesMakeTheWhole
make_the_whole m asked first pieces are =
    let whole = cut m are.valid asked.account asked in
    let behind =
    subst (λ (clock : ℕ). ComeBehind (IsPieceOfLater m) (up_to clock asked) first pieces)
    are.begin.clock are.behind in
    all_pieces m are.valid asked.account (up_to m.clock asked) first pieces refl (omega arith)
    (are.begin.entries ∙ ap (take 1000) (sym whole)) behind
    ∙ whole
