-- What is left of a statement behind a part of it.
use Rattle.std.proofs.Common.{◌≡◌, ◌≢◌, ◌∙◌, ℕ, suc, ◌+◌, ◌-◌, ◌^◌, ◌<◌, ◌≤◌, min, Bool, true, false, cond, All, Option, Some, None, List, [], ◌∷◌, ◌++◌, length, map, filter, take, drop, refl, sym, ap, ap₂, subst, arith, append-nil}
use Rattle.std.specs.List.{slice_get}
use Rattle.std.proofs.lemmas.Bool.{ltb-true, ltb-false}
use Rattle.std.proofs.lemmas.Bool.Decides.{nat_tests}
use Rattle.std.proofs.lemmas.List.{length-map, length-take, take_all, take-map, drop-map}
use Rattle.std.proofs.lemmas.List.Elements.{All-head, All-tail, All-take, All-weaker}
use Rattle.std.proofs.lemmas.Option.{get_or_from_slice_get, slice_get_within}
use Rattle.records.specs.declared.filter.Order.TheVariants.{Oldest}
use Rattle.records.specs.declared.statement_row.StatementRow.{StatementRow}
use Rattle.records.specs.declared.transfer.Transfer.{Transfer}
use Rattle.records.specs.Facts.{account_in}
use Rattle.records.specs.Machine.{Machine}
use Rattle.records.specs.Queries.{is_within}
use Rattle.records.specs.Step.{max_clock}
use Rattle.records.specs.Valid.{IsValid}
use Rattle.statement.specs.Text.{lines_of}
use Rattle.chain.specs.AccountEntries.{account_entries, account_entries_within, entry_time, row_of}
use Rattle.chain.specs.Pages.{IsRecord, all_within, behind_last}
use Rattle.chain.specs.Records.{entry_records}
use Rattle.chain.specs.declared.account_entry.AccountEntry.{AccountEntry}
use Rattle.chain.proofs.EntriesUpToClock.{up_to_clock}
use Rattle.chain.proofs.PageSpans.{rest_of_span, within_all}
use Rattle.parts.specs.Chunks.{chunks_of, part_chunks, rows_in_a_chunk}
use Rattle.parts.specs.Parts.{IsLeftBehind, IsPart, IsPartOf, are_last, chunks_behind, chunks_in, rest_behind, rows_left, span_of}
use Rattle.parts.specs.declared.rest.Part.{Part}
use Rattle.parts.specs.declared.rest.Rest.{Rest}
use Rattle.parts.proofs.ChunkLemmas.{few, many, many_so, part_some}
use Rattle.parts.proofs.LaterEntries.{all_own}

-- the time behind the last entry
pub last_is :
    (behind : ℕ) (entries : List AccountEntry) (last : AccountEntry)
    → slice_get entries (length entries - 1) ≡ Some last
    → behind_last entry_time Oldest behind entries ≡ entry_time last + 1
last_is behind [] last is = absurd (cc)
last_is behind (x ∷ []) last is = let same : x ≡ last = cc in ap (λ (e : AccountEntry). entry_time e + 1) same
last_is behind (x ∷ y ∷ more) last is =
    let here : length (x ∷ y ∷ more) - 1 ≡ suc (length more) = omega arith in
    let there : length more ≡ length (y ∷ more) - 1 = omega arith in
    last_is (entry_time x + 1) (y ∷ more) last
    (ap (slice_get (y ∷ more)) (sym there) ∙ sym (ap (slice_get (x ∷ y ∷ more)) here) ∙ is)

pub last_bounded :
    (entries : List AccountEntry) (last : AccountEntry) (place : ℕ)
    → All (λ (entry : AccountEntry). entry_time entry ≤ max_clock) entries
    → slice_get entries place ≡ Some last → entry_time last ≤ max_clock
last_bounded entries last place all is =
    subst (λ (e : AccountEntry). entry_time e ≤ max_clock) (get_or_from_slice_get entries place last last is)
    (all place last (slice_get_within entries place last is))

-- what is left behind many entries
pub behind_is :
    (rest : Rest) (clock : ℕ) (entries : List AccountEntry) (last : AccountEntry) (first until : ℕ)
    → All (λ (entry : AccountEntry). entry_time entry ≤ max_clock) entries
    → slice_get entries (length entries - 1) ≡ Some last → rows_in_a_chunk ≤ length entries
    → first ≡ min (entry_time last + 1) (2 ^ 64 - 1) → until ≡ min rest.last clock
    → Some (record { digest = rest.digest; account = rest.account; first = first; last = until })
    ≡ rest_behind rest clock entries
behind_is rest clock entries last first until bounded is many first_is until_is =
    let by : entry_time last ≤ max_clock = last_bounded entries last (length entries - 1) bounded is in
    let from : first ≡ behind_last entry_time Oldest 0 entries = omega (arith, first_is, last_is 0 entries last is, by) in
    rw (many_so (length entries) many)
    (ap₂ (λ (f l : ℕ). Some (record { digest = rest.digest; account = rest.account; first = f; last = l })) from until_is)

-- two tests that agree on all elements
same_filter :
    {A : Type 0} (p q : A → Bool) (xs : List A) → All (λ x. p x ≡ q x) xs → filter p xs ≡ filter q xs
same_filter p q [] all = refl
same_filter {A} p q (x ∷ xs) all =
    let P = λ (y : A). p y ≡ q y in
    rw (All-head P x xs all) (ap (λ ys. cond (q x) (x ∷ ys) ys) (same_filter p q xs (All-tail P x xs all)))

module _ (m : Machine) (valid : IsValid m) (rest : Rest) where
  abbrev own : List AccountEntry
  own = account_entries m rest.account

  abbrev all : List AccountEntry
  all = all_within entry_time (span_of rest) own

  -- no entry is later than the clock
  past : All (λ (e : AccountEntry). entry_time e ≤ m.clock) own
  past = all_own rest.account (λ (t : Transfer). t.timestamp ≤ m.clock) [] m.transfers (up_to_clock valid).transfers

  to_clock : (first last time : ℕ) → time ≤ m.clock →
      is_within (span_of (record rest { first = first; last = min last m.clock })) time
      ≡ is_within (span_of (record rest { first = first; last = last })) time
  to_clock first last time by_clock = grind (arith, nat_tests)

  -- so what lies up to a time lies up to the clock
  up_to :
      (first last : ℕ) →
      all_within entry_time (span_of (record rest { first = first; last = min last m.clock })) own
      ≡ all_within entry_time (span_of (record rest { first = first; last = last })) own
  up_to first last =
      same_filter (λ (e : AccountEntry). is_within (span_of (record rest { first = first; last = min last m.clock })) (entry_time e))
      (λ (e : AccountEntry). is_within (span_of (record rest { first = first; last = last })) (entry_time e)) own
      (All-weaker (λ (e : AccountEntry). entry_time e ≤ m.clock)
      (λ (e : AccountEntry). is_within (span_of (record rest { first = first; last = min last m.clock })) (entry_time e)
      ≡ is_within (span_of (record rest { first = first; last = last })) (entry_time e))
      (λ e by_clock. to_clock first last (entry_time e) by_clock) own past)

  module _ (entries : List AccountEntry) (are : entries ≡ account_entries_within m rest.account (span_of rest)) where
    counted : length entries ≡ min rows_in_a_chunk (length all)
    counted = ap length are ∙ length-take rows_in_a_chunk all

    bounded : All (λ (e : AccountEntry). entry_time e ≤ max_clock) entries
    bounded =
        let P = λ (e : AccountEntry). entry_time e ≤ max_clock in
        subst (λ (es : List AccountEntry). All P es) (sym are)
        (All-take P rows_in_a_chunk all
        (within_all entry_time P own (span_of rest)
        (All-weaker (IsRecord entry_time (λ e. Unit {0})) P (λ e is. is.bounded) own (entry_records m valid rest.account).each)))

    -- the last part
    ends :
        (before : List ℕ) → length entries < rows_in_a_chunk →
        part_chunks true (before ++ lines_of (map (row_of rest.account) entries)) ++ [] ≡ chunks_behind before m rest
    ends before less =
        let are_all : entries ≡ all = are ∙ take_all rows_in_a_chunk all (omega (arith, counted, less)) in
        let rows_less : length (rows_left m rest) < rows_in_a_chunk =
        subst (λ n. n < rows_in_a_chunk) (ap (λ (es : List AccountEntry). length (map (row_of rest.account) es)) are_all)
        (subst (λ n. n < rows_in_a_chunk) (sym (length-map entries (row_of rest.account))) less) in
        append-nil (part_chunks true (before ++ lines_of (map (row_of rest.account) entries)))
        ∙ ap (λ (es : List AccountEntry). part_chunks true (before ++ lines_of (map (row_of rest.account) es))) are_all
        ∙ sym (few (length (rows_left m rest)) before (rows_left m rest) rows_less)

    abbrev next : Rest
    next = record rest { first = behind_last entry_time Oldest 0 entries; last = min rest.last m.clock }

    -- what is left behind one that is not the last
    left : rows_in_a_chunk ≤ length entries → rows_left m next ≡ drop rows_in_a_chunk (rows_left m rest)
    left many =
        let records = entry_records m valid rest.account in
        let positive = All-weaker (IsRecord entry_time (λ e. Unit {0})) (λ (e : AccountEntry). 0 < entry_time e) (λ e is. is.positive) own records.each in
        ap (map (row_of rest.account))
        (up_to (behind_last entry_time Oldest 0 entries) rest.last
        ∙ ap (λ (es : List AccountEntry). all_within entry_time (span_of (record rest { first = behind_last entry_time Oldest 0 es })) own) are
        ∙ rest_of_span entry_time own (span_of rest) 0 rows_in_a_chunk records.rise positive (omega arith) (omega (arith, counted, many)))
        ∙ sym (drop-map (row_of rest.account) rows_in_a_chunk all)

    goes :
        (before : List ℕ) → rows_in_a_chunk ≤ length entries →
        part_chunks false (before ++ lines_of (map (row_of rest.account) entries)) ++ chunks_behind [] m next
        ≡ chunks_behind before m rest
    goes before least =
        let rows : map (row_of rest.account) entries ≡ take rows_in_a_chunk (rows_left m rest) =
        ap (map (row_of rest.account)) are ∙ sym (take-map (row_of rest.account) rows_in_a_chunk all) in
        let size : length (rows_left m rest) ≡ length all = length-map all (row_of rest.account) in
        ap₂ (λ (rs ns : List StatementRow). part_chunks false (before ++ lines_of rs) ++ chunks_of (length ns) [] ns) rows (left least)
        ∙ sym (many before (rows_left m rest) (omega (arith, size, counted, least)))

    behind_so : (b : Bool) (part : Part) → are_last entries ≡ b → part.rest ≡ cond b None (Some next) → IsLeftBehind m rest part.rest
    behind_so true part is behind = subst (IsLeftBehind m rest) (sym behind) tt
    behind_so false part is behind =
        subst (IsLeftBehind m rest) (sym behind) (record { digest = refl; account = refl; ends = omega arith })

    told_so :
        (b : Bool) (before : List ℕ) (part : Part) → are_last entries ≡ b →
        part.chunks ≡ part_chunks b (before ++ lines_of (map (row_of rest.account) entries)) →
        part.rest ≡ cond b None (Some next) →
        part.chunks ++ chunks_in m part.rest ≡ chunks_behind before m rest
    told_so true before part is made behind =
        ap₂ (λ (cs : List ℕ) (r : Option Rest). cs ++ chunks_in m r) made behind ∙ ends before (ltb-true (length entries) rows_in_a_chunk is)
    told_so false before part is made behind =
        ap₂ (λ (cs : List ℕ) (r : Option Rest). cs ++ chunks_in m r) made behind ∙ goes before (ltb-false (length entries) rows_in_a_chunk is)

    -- with what is left it is all that was left
    pub parted :
        (before : List ℕ) (part : Part) → account_in m rest.account ≢ None →
        IsPartOf before rest m.clock entries part → IsPart before (Some m) rest part
    parted before part there of =
        let behind = of.behind bounded in
        record {
          machine = m;
          is = refl;
          there = there;
          some = subst (λ (cs : List ℕ). 0 < length cs) (sym of.made)
              (part_some (are_last entries) (before ++ lines_of (map (row_of rest.account) entries)));
          chunks = told_so (are_last entries) before part refl of.made behind;
          behind = behind_so (are_last entries) part refl behind;
        }
