-- A statement that is handed to a sink in pieces, one behind the other.
use Rattle.std.proofs.Common.{◌≡◌, ◌⊎◌, ℕ, ◌<◌, ◌≤◌, min, ltb, Bool, true, false, cond, Option, Some, None, List, [], ◌∷◌, ◌++◌, Result, Ok, Err, length, map, filter, take, drop, refl, sym, ap, ◌∙◌, subst, arith, inl, inr, append_assoc}
use Rattle.std.specs.List.{All}
use Rattle.std.proofs.lemmas.Bool.{ltb-true, ltb-false}
use Rattle.std.proofs.lemmas.Bool.Decides.{nat_tests}
use Rattle.std.proofs.lemmas.List.{length-take, map-append, take-append-drop, take_all}
use Rattle.std.proofs.lemmas.List.Elements.{All-take, All-weaker}
use Rattle.std.proofs.lemmas.Simd.{map-map}
use Rattle.records.specs.declared.account.Account.{Account}
use Rattle.records.specs.declared.filter.Order.{Order}
use Rattle.records.specs.declared.filter.Order.TheVariants.{Oldest, Newest}
use Rattle.records.specs.declared.query.Span.{Span}
use Rattle.records.specs.declared.row_sink.SinkFault.{SinkFault}
use Rattle.records.specs.declared.statement_row.StatementRow.{StatementRow}
use Rattle.records.specs.Machine.{Machine, account_with}
use Rattle.records.specs.Queries.{is_within}
use Rattle.records.specs.Reads.{Entry, answer_by, entries_of, in_order, is_entry_of, statement_answer, statement_of}
use Rattle.records.specs.Step.{max_clock}
use Rattle.records.specs.Streams.{TakesRows}
use Rattle.records.specs.Valid.{IsValid}
use Rattle.chain.specs.declared.account_entry.AccountEntry.{AccountEntry}
use Rattle.chain.specs.declared.ledgers.BatchFault.{BatchFault}
use Rattle.chain.specs.declared.ledgers.BatchFault.TheVariants as batch_fault
use Rattle.chain.specs.declared.reading.AccountFault.{AccountFault}
use Rattle.chain.specs.declared.reading.AccountFault.TheVariants as account_fault
use Rattle.chain.specs.declared.reads.Listed.{Listed}
use Rattle.chain.specs.declared.reads.ReadFault.{ReadFault}
use Rattle.chain.specs.declared.reads.ReadFault.TheVariants as fault
use Rattle.chain.specs.AccountEntries.{account_entries, account_entries_within, account_entry, entry_time, first_piece, piece_behind, row_of}
use Rattle.chain.specs.LedgerReads.{HandsOut, IsBegun, IsTold, ReadsOnly, RefusesNext, Seen, rows_of, seen_by, seen_in, seen_of_list}
use Rattle.chain.specs.Ledgers.{AreValid, Finds, IsAnswered, IsRun, KeepsAll, LeadsBy, LedgersMeaning, Tenants}
use Rattle.chain.specs.Looks.{Answers, account_answer}
use Rattle.chain.specs.Pages.{IsRecord, all_within, behind_last, span_behind}
use Rattle.chain.specs.Records.{entry_records}
use Rattle.chain.proofs.HistoryRows.{map_reversed}
use Rattle.chain.proofs.LookLemmas.{found_by, run_keeps}
use Rattle.chain.proofs.PageSpans.{keeps_all, rest_of_span, within_all}
use Rattle.chain.proofs.TakenRows.{begun_so, takes_both}

-- the rows of a statement

in_first : (order : Order) (time : ℕ) → time ≤ max_clock → is_within (first_piece order) time ≡ true
in_first order time fits = grind (arith, nat_tests)

in_order_mapped : {A B : Type 0} (f : A → B) (order : Order) (xs : List A) → map f (in_order order xs) ≡ in_order order (map f xs)
in_order_mapped f Oldest xs = refl
in_order_mapped f Newest xs = map_reversed f xs

rows_are :
    (m : Machine) → IsValid m → (account : ℕ) (order : Order) →
    map (row_of account) (all_within entry_time (first_piece order) (account_entries m account)) ≡ in_order order (statement_of m account)
rows_are m valid account order =
    let entries = account_entries m account in
    let within = λ (entry : AccountEntry). is_within (first_piece order) (entry_time entry) in
    let all = All-weaker (IsRecord entry_time (λ e. Unit {0})) (λ (entry : AccountEntry). within entry ≡ true)
    (λ entry is. in_first order (entry_time entry) is.bounded) entries (entry_records m valid account).each in
    ap (λ es. map (row_of account) (in_order order es)) (keeps_all entry_time within entries all)
    ∙ in_order_mapped (row_of account) order entries
    ∙ ap (in_order order) (map-map (row_of account) (account_entry account) (filter (λ (entry : Entry). is_entry_of account entry.transfer) (entries_of m)))

-- the rest of a tenant's statement from a span on
abbrev pub rest_in : ℕ → Span → Option Machine → List StatementRow
rest_in account span None = []
rest_in account span (Some m) = map (row_of account) (all_within entry_time span (account_entries m account))

-- a sink took all rows but the rest; none where there is no statement
abbrev pub HasHanded :
    {K : Type 0} → (K → StatementRow → K → Type 0) → Result (Seen (List StatementRow)) ReadFault → List StatementRow → K → K → Type 0
HasHanded takes (Err why) rest old new = new ≡ old
HasHanded takes (Ok seen) rest old new = (front : List StatementRow) × (front ++ rest ≡ seen.shown) × TakesRows takes old front new

-- reads that are all answered
pub record HasRead {S : Type 0} (t : LedgersMeaning S) (old new : S) : Type 0 where
  pub same : t.is_live new → KeepsAll (t.tenants old) (t.tenants new)
  pub follows : t.follows old new
  pub found : (found : Tenants) → t.may_find new found → t.may_find old found ⊎ (t.is_live old × KeepsAll (t.tenants old) found)

pub as_reads : {S : Type 0} (t : LedgersMeaning S) (old new : S) → HasRead t old new → ReadsOnly t old new
as_reads t old new read = record { same = read.same; follows = read.follows }

-- the same fault is told or not, whatever else might have been answered
pub same_fault : {A B : Type 0} (r : Result A ReadFault) (s : Result B ReadFault) (why : ReadFault) → r ≡ Err why → s ≡ Err why → IsTold r → IsTold s
same_fault {A} {B} r s why r_is s_is told =
    subst (λ (x : Result B ReadFault). IsTold x) (sym s_is) (at why (subst (λ (x : Result A ReadFault). IsTold x) r_is told))
  where
    at : (w : ReadFault) → IsTold {A = A} (Err w) → IsTold {A = B} (Err w)
    at fault.UnknownKey h = tt
    at (fault.Unavailable because) h = h
    at fault.NoAccount h = tt
    at fault.NoHistory h = tt
    at (fault.Sink because) h = h

-- what was read, and what was handed out of it
pub record IsReading {S K : Type 0} (t : LedgersMeaning S) (takes : K → StatementRow → K → Type 0) (digest : List ℕ) (account : ℕ) (order : Order)
    (old new : S) (span : Span) (sink now : K) : Type 0 where
  pub read : HasRead t old new
  pub handed : t.is_live new → HasHanded takes (seen_in (λ m. statement_answer m account order) (t.tenants old digest)) (rest_in account span (t.tenants old digest)) sink now
  pub some : t.is_live new → 0 < span.most

-- an answered piece, of an account that is there
pub record IsPiece (account : ℕ) (span : Span) (tenant : Option Machine) (entries : List AccountEntry) : Type 0 where
  pub machine : Machine
  pub there : Account
  pub is : tenant ≡ Some machine
  pub valid : IsValid machine
  pub account_is : account_with account machine.accounts ≡ Some there
  pub entries_are : entries ≡ account_entries_within machine account span

shown_by :
    (clock : ℕ) (x : Option Account) (entries : List AccountEntry) (seen : Seen (List AccountEntry)) →
    seen_by clock (answer_by x entries) ≡ Ok seen → (there : Account) × (x ≡ Some there) × (seen.shown ≡ entries)
shown_by clock None entries seen is = absurd (cc)
shown_by clock (Some there) entries seen is = (there, refl, ap rows_of (sym is))

none_by : (clock : ℕ) (x : Option Account) (entries : List AccountEntry) → seen_by clock (answer_by x entries) ≡ Err fault.NoAccount → x ≡ None
none_by clock None entries is = refl
none_by clock (Some there) entries is = absurd (cc)

no_history : (clock : ℕ) (x : Option Account) (entries : List AccountEntry) → seen_by clock (answer_by x entries) ≡ Err fault.NoHistory → ⊥
no_history clock None entries is = cc
no_history clock (Some there) entries is = cc

abbrev entries_in : Result (Listed AccountEntry) ReadFault → List AccountEntry
entries_in (Ok piece) = piece.entries.items
entries_in (Err why) = []

abbrev fault_in : Result (Listed AccountEntry) ReadFault → ReadFault
fault_in (Ok piece) = fault.NoAccount
fault_in (Err why) = why

-- the entries of a span, those behind the first of them, and the end
module _ (account : ℕ) (span : Span) (m : Machine) (valid : IsValid m) (entries : List AccountEntry)
    (are : entries ≡ account_entries_within m account span) where
  bounded : All (λ entry. entry_time entry ≤ max_clock) entries
  bounded =
      let all = account_entries m account in
      let P = λ (entry : AccountEntry). entry_time entry ≤ max_clock in
      subst (λ (es : List AccountEntry). All P es) (sym are)
      (All-take P span.most (all_within entry_time span all)
      (within_all entry_time P all span
      (All-weaker (IsRecord entry_time (λ e. Unit {0})) P (λ entry is. is.bounded) all (entry_records m valid account).each)))

  parts : map (row_of account) entries ++ map (row_of account) (drop span.most (all_within entry_time span (account_entries m account))) ≡ map (row_of account) (all_within entry_time span (account_entries m account))
  parts =
      let all = all_within entry_time span (account_entries m account) in
      ap (λ es. map (row_of account) es ++ map (row_of account) (drop span.most all)) are
      ∙ sym (map-append (row_of account) (take span.most all) (drop span.most all))
      ∙ ap (map (row_of account)) (take-append-drop span.most all)

  counted : length entries ≡ min span.most (length (all_within entry_time span (account_entries m account)))
  counted = ap length are ∙ length-take span.most (all_within entry_time span (account_entries m account))

  goes_by : (b : Bool) (behind next : Span) → cond b None (Some behind) ≡ Some next → (b ≡ false) × (next ≡ behind)
  goes_by true behind next is = absurd (grind arith)
  goes_by false behind next is = (refl, grind arith)

  ends_by : (b : Bool) (behind : Span) → cond b None (Some behind) ≡ None → b ≡ true
  ends_by true behind is = refl
  ends_by false behind is = absurd (grind arith)

  most_kept : (order : Order) (s : Span) (time : ℕ) → (Rattle.chain.specs.Pages.span_towards order s time).most ≡ s.most
  most_kept Oldest s time = refl
  most_kept Newest s time = refl

  goes :
      (next : Span) → 0 < span.most → piece_behind span entries ≡ Some next →
      (0 < next.most) × (map (row_of account) entries ++ map (row_of account) (all_within entry_time next (account_entries m account))
      ≡ map (row_of account) (all_within entry_time span (account_entries m account)))
  goes next some is =
      let all = account_entries m account in
      let went = goes_by (ltb (length entries) span.most) (span_behind span (behind_last entry_time span.order 0 entries)) next is in
      let more = ltb-false (length entries) span.most went.0 in
      let records = entry_records m valid account in
      let positive = All-weaker (IsRecord entry_time (λ e. Unit {0})) (λ (entry : AccountEntry). 0 < entry_time entry) (λ entry is. is.positive) all records.each in
      let rest = rest_of_span entry_time all span 0 span.most records.rise positive some (omega (arith, counted, more)) in
      let behind = went.1 ∙ ap (λ es. span_behind span (behind_last entry_time span.order 0 es)) are in (
        subst (λ n. 0 < n) (sym (ap (λ (s : Span). s.most) went.1 ∙ most_kept span.order span (behind_last entry_time span.order 0 entries))) some,
        ap (λ (s : Span). map (row_of account) entries ++ map (row_of account) (all_within entry_time s all)) behind
            ∙ ap (λ es. map (row_of account) entries ++ map (row_of account) es) rest ∙ parts,
      )

  ends : piece_behind span entries ≡ None → map (row_of account) entries ≡ map (row_of account) (all_within entry_time span (account_entries m account))
  ends is =
      let all = all_within entry_time span (account_entries m account) in
      let less = ltb-true (length entries) span.most (ends_by (ltb (length entries) span.most) (span_behind span (behind_last entry_time span.order 0 entries)) is) in
      ap (map (row_of account)) (are ∙ take_all span.most all (omega (arith, counted, less)))

module _ {S K : Type 0} (t : LedgersMeaning S) (takes : K → StatementRow → K → Type 0) (digest : List ℕ) (account : ℕ) (order : Order) where
  abbrev seen_of : Option Machine → Result (Seen (List StatementRow)) ReadFault
  seen_of tenant = seen_in (λ m. statement_answer m account order) tenant

  abbrev gives : Span → Machine → Result (Listed AccountEntry) AccountFault → Machine → Type 0
  gives span = Answers seen_of_list (λ m. answer_by (account_with account m.accounts) (account_entries_within m account span))

  begun_in :
      (tenant : Option Machine) → ((m : Machine) → tenant ≡ Some m → IsValid m) → (sink : K) →
      HasHanded takes (seen_of tenant) (rest_in account (first_piece order) tenant) sink sink
  begun_in None valid sink = refl
  begun_in (Some m) valid sink = by (account_with account m.accounts)
    where
      by : (x : Option Account) → HasHanded takes (seen_by m.clock (answer_by x (in_order order (statement_of m account)))) (rest_in account (first_piece order) (Some m)) sink sink
      by None = refl
      by (Some there) = ([], rows_are m (valid m refl) account order, refl)

  -- nothing is read yet
  pub reading_begins :
      (a : S) (sink : K) → t.follows a a → (t.is_live a → AreValid (t.tenants a)) →
      IsReading t takes digest account order a a (first_piece order) sink sink
  reading_begins a sink stays valid = record {
    read = record { same = λ live other. refl; follows = stays; found = λ found may. inl may };
    handed = λ live. begun_in (t.tenants a digest) (λ m is. valid live digest m is) sink;
    some = λ live. omega arith;
  }

  handed_at :
      (tenant : Option Machine) (span : Span) (sink now : K) (m : Machine) (there : Account) → tenant ≡ Some m → account_with account m.accounts ≡ Some there →
      HasHanded takes (seen_of tenant) (rest_in account span tenant) sink now →
      HasHanded takes (Ok (record { clock = m.clock; shown = in_order order (statement_of m account) })) (rest_in account span (Some m)) sink now
  handed_at tenant span sink now m there is account_is handed =
      subst (λ (x : Option Account). HasHanded takes (seen_by m.clock (answer_by x (in_order order (statement_of m account)))) (rest_in account span (Some m)) sink now) account_is
      (subst (λ (o : Option Machine). HasHanded takes (seen_of o) (rest_in account span o) sink now) is handed)

  handed_back :
      (tenant : Option Machine) (span : Span) (sink now : K) (m : Machine) (there : Account) → tenant ≡ Some m → account_with account m.accounts ≡ Some there →
      HasHanded takes (Ok (record { clock = m.clock; shown = in_order order (statement_of m account) })) (rest_in account span (Some m)) sink now →
      HasHanded takes (seen_of tenant) (rest_in account span tenant) sink now
  handed_back tenant span sink now m there is account_is handed =
      subst (λ (o : Option Machine). HasHanded takes (seen_of o) (rest_in account span o) sink now) (sym is)
      (subst (λ (x : Option Account). HasHanded takes (seen_by m.clock (answer_by x (in_order order (statement_of m account)))) (rest_in account span (Some m)) sink now) (sym account_is) handed)

  seen_is :
      (tenant : Option Machine) (m : Machine) (there : Account) → tenant ≡ Some m → account_with account m.accounts ≡ Some there →
      seen_of tenant ≡ Ok (record { clock = m.clock; shown = in_order order (statement_of m account) })
  seen_is tenant m there is account_is =
      ap seen_of is ∙ ap (λ x. seen_by m.clock (answer_by x (in_order order (statement_of m account)))) account_is

  begun_any :
      (seen : Result (Seen (List StatementRow)) ReadFault) (rest : List StatementRow) (sink now : K) → HasHanded takes seen rest sink now → IsBegun takes (rows_of seen) sink now
  begun_any (Err why) rest sink now same = record { count = 0; taken = sym same }
  begun_any (Ok seen) rest sink now handed = begun_so takes sink now handed.0 rest seen.shown handed.1 handed.2

  -- what is begun where a reading breaks off
  pub reading_begun :
      (a b : S) (span : Span) (sink now : K) → IsReading t takes digest account order a b span sink now → t.is_live b →
      IsBegun takes (rows_of (seen_of (t.tenants a digest))) sink now
  reading_begun a b span sink now so_far live = begun_any (seen_of (t.tenants a digest)) (rest_in account span (t.tenants a digest)) sink now (so_far.handed live)

  piece_is :
      (span : Span) (old new : Tenants) (result : Result (Result (Listed AccountEntry) AccountFault) BatchFault) (piece : Listed AccountEntry) →
      account_answer result ≡ Ok piece → IsRun (gives span) digest old new result → AreValid old → IsPiece account span (old digest) piece.entries.items
  piece_is span old new (Ok (Ok found)) piece told run valid =
      let m = run.before in
      let shown = shown_by m.clock (account_with account m.accounts) (account_entries_within m account span) (seen_of_list found) run.given.is in record {
        machine = m;
        there = shown.0;
        is = run.held;
        valid = valid digest m run.held;
        account_is = shown.1;
        entries_are = sym (ap entries_in told) ∙ shown.2;
      }
  piece_is span old new (Ok (Err account_fault.NoAccount)) piece told run valid = absurd (cc)
  piece_is span old new (Ok (Err account_fault.NoHistory)) piece told run valid = absurd (cc)
  piece_is span old new (Err batch_fault.UnknownKey) piece told run valid = absurd (cc)
  piece_is span old new (Err (batch_fault.Unavailable why)) piece told run valid = absurd (cc)

  pub told_answered :
      (result : Result (Result (Listed AccountEntry) AccountFault) BatchFault) (piece : Listed AccountEntry) → account_answer result ≡ Ok piece → IsAnswered result
  told_answered (Ok found) piece told = tt
  told_answered (Err batch_fault.UnknownKey) piece told = tt
  told_answered (Err (batch_fault.Unavailable because)) piece told = absurd (cc)

  -- a piece more is read
  module _ (a b c : S) (span : Span) (result : Result (Result (Listed AccountEntry) AccountFault) BatchFault)
      (then : (a b c : S) → t.follows a b → t.follows b c → t.follows a c)
      (lived : (a b : S) → t.follows a b → t.is_live b → t.is_live a)
      (run : t.is_live c → IsRun (gives span) digest (t.tenants b) (t.tenants c) result)
      (follows : t.follows b c) (finds : Finds t (IsAnswered result) (LeadsBy (gives span) digest) b c) where
    pub read_on : HasRead t a b → HasRead t a c
    read_on read = record {
      same = λ live other.
          run_keeps (gives span) (λ before output after given. given.same) digest (t.tenants b) (t.tenants c) result (run live) other
          ∙ read.same (lived b c follows live) other;
      follows = then a b c read.follows follows;
      found = λ found may.
          elim ((found_by (gives span) (λ before output after given. given.same) t digest b c result (IsAnswered result) (λ told. told) finds).found found may) [
            | inl before ↦ read.found found before
            | inr led ↦ inr (lived a b read.follows led.0, λ other. led.1 other ∙ read.same led.0 other)
          ];
    }

    pub read_finds : {Told : Type 0} → HasRead t a b → (Told → IsAnswered result) → Finds t Told KeepsAll a c
    read_finds read answered = record { found = (read_on read).found; live = λ told. finds.live (answered told) }

    module _ (refuses : K → StatementRow → SinkFault → K → Type 0) (sink mid : K) (so_far : IsReading t takes digest account order a b span sink mid) where
      -- the batch is told why not
      pub broken :
          (why : ReadFault) → account_answer result ≡ Err why → t.is_live c →
          HandsOut takes refuses (seen_of (t.tenants a digest)) sink mid (Err why)
      broken why told live =
          let before = lived b c follows live in at result told (run live) before
        where
          same_tenant : t.is_live b → t.tenants a digest ≡ t.tenants b digest
          same_tenant before = sym (so_far.read.same before digest)

          at :
              (r : Result (Result (Listed AccountEntry) AccountFault) BatchFault) → account_answer r ≡ Err why →
              IsRun (gives span) digest (t.tenants b) (t.tenants c) r → t.is_live b →
              HandsOut takes refuses (seen_of (t.tenants a digest)) sink mid (Err why)
          at (Ok (Ok found)) is ran before = absurd (cc)
          at (Ok (Err account_fault.NoAccount)) is ran before =
              let m = ran.before in
              let none = none_by m.clock (account_with account m.accounts) (account_entries_within m account span) ran.given.is in
              let seen = ap seen_of (same_tenant before ∙ ran.held) ∙ ap (λ x. seen_by m.clock (answer_by x (in_order order (statement_of m account)))) none in
              subst (λ w. HandsOut takes refuses (seen_of (t.tenants a digest)) sink mid (Err w)) (ap fault_in is)
              (seen, subst (λ s. HasHanded takes s (rest_in account span (t.tenants a digest)) sink mid) seen (so_far.handed before))
          at (Ok (Err account_fault.NoHistory)) is ran before =
              absurd (no_history ran.before.clock (account_with account ran.before.accounts) (account_entries_within ran.before account span) ran.given.is)
          at (Err batch_fault.UnknownKey) is ran before =
              let seen = ap seen_of (same_tenant before ∙ ran.0) in
              subst (λ w. HandsOut takes refuses (seen_of (t.tenants a digest)) sink mid (Err w)) (ap fault_in is)
              (seen, subst (λ s. HasHanded takes s (rest_in account span (t.tenants a digest)) sink mid) seen (so_far.handed before))
          at (Err (batch_fault.Unavailable because)) is ran before =
              subst (λ w. HandsOut takes refuses (seen_of (t.tenants a digest)) sink mid (Err w)) (ap fault_in is)
              (reading_begun a b span sink mid so_far before)

      module _ (piece : Listed AccountEntry) (told : account_answer result ≡ Ok piece) (valid : t.is_live b → AreValid (t.tenants b)) where
        this_piece : t.is_live b → t.is_live c → IsPiece account span (t.tenants b digest) piece.entries.items
        this_piece before live = piece_is span (t.tenants b) (t.tenants c) result piece told (run live) (valid before)

        -- and the sink takes its rows
        pub goes_on :
            (found : Option Span) (next : Span) (new : K) →
            (All (λ entry. entry_time entry ≤ max_clock) piece.entries.items → found ≡ piece_behind span piece.entries.items) → found ≡ Some next →
            TakesRows takes mid (map (row_of account) piece.entries.items) new →
            IsReading t takes digest account order a c next sink new
        goes_on found next new next_is is taken = record {
          read = read_on so_far.read;
          handed = λ live.
              let before = lived b c follows live in
              let p = this_piece before live in
              let tenant_is = sym (so_far.read.same before digest) ∙ p.is in
              let entries = piece.entries.items in
              let so = handed_at (t.tenants a digest) span sink mid p.machine p.there tenant_is p.account_is (so_far.handed before) in
              let went = goes account span p.machine p.valid entries p.entries_are next (so_far.some before)
              (sym (next_is (bounded account span p.machine p.valid entries p.entries_are)) ∙ is) in
              let rest = rest_in account next (Some p.machine) in
              handed_back (t.tenants a digest) next sink new p.machine p.there tenant_is p.account_is (
                so.0 ++ map (row_of account) entries,
                append_assoc so.0 (map (row_of account) entries) rest ∙ ap (λ rows. so.0 ++ rows) went.1 ∙ so.1,
                takes_both takes sink mid new so.0 (map (row_of account) entries) so.2 taken,
              );
          some = λ live.
              let before = lived b c follows live in
              let p = this_piece before live in
              (goes account span p.machine p.valid piece.entries.items p.entries_are next (so_far.some before)
              (sym (next_is (bounded account span p.machine p.valid piece.entries.items p.entries_are)) ∙ is)).0;
        }

        pub all_handed :
            (found : Option Span) (new : K) →
            (All (λ entry. entry_time entry ≤ max_clock) piece.entries.items → found ≡ piece_behind span piece.entries.items) → found ≡ None →
            TakesRows takes mid (map (row_of account) piece.entries.items) new → t.is_live c →
            HandsOut takes refuses (seen_of (t.tenants a digest)) sink new (Ok tt)
        all_handed found new next_is is taken live =
            let before = lived b c follows live in
            let p = this_piece before live in
            let tenant_is = sym (so_far.read.same before digest) ∙ p.is in
            let entries = piece.entries.items in
            let so = handed_at (t.tenants a digest) span sink mid p.machine p.there tenant_is p.account_is (so_far.handed before) in
            let last = ends account span p.machine p.valid entries p.entries_are
            (sym (next_is (bounded account span p.machine p.valid entries p.entries_are)) ∙ is) in
            let rows = in_order order (statement_of p.machine account) in record {
              answer = record { clock = p.machine.clock; shown = rows };
              is = seen_is (t.tenants a digest) p.machine p.there tenant_is p.account_is;
              taken = subst (λ (xs : List StatementRow). TakesRows takes sink xs new) (ap (λ xs. so.0 ++ xs) last ∙ so.1)
                  (takes_both takes sink mid new so.0 (map (row_of account) entries) so.2 taken);
            }

        pub sink_refused :
            (why : SinkFault) (new : K) → RefusesNext takes refuses (map (row_of account) piece.entries.items) why mid new → t.is_live c →
            RefusesNext takes refuses (rows_of (seen_of (t.tenants a digest))) why sink new
        sink_refused why new next live =
            let before = lived b c follows live in
            let p = this_piece before live in
            let tenant_is = sym (so_far.read.same before digest) ∙ p.is in
            let entries = piece.entries.items in
            let more = map (row_of account) (drop span.most (all_within entry_time span (account_entries p.machine account))) in
            let so = handed_at (t.tenants a digest) span sink mid p.machine p.there tenant_is p.account_is (so_far.handed before) in
            subst (λ s. RefusesNext takes refuses (rows_of s) why sink new) (sym (seen_is (t.tenants a digest) p.machine p.there tenant_is p.account_is))
            (record {
              front = so.0 ++ next.front;
              next = next.next;
              rest = next.rest ++ more;
              whole = append_assoc so.0 next.front (next.next ∷ next.rest ++ more)
                  ∙ ap (λ xs. so.0 ++ xs) (sym (append_assoc next.front (next.next ∷ next.rest) more))
                  ∙ ap (λ xs. so.0 ++ (xs ++ more)) next.whole
                  ∙ ap (λ xs. so.0 ++ xs) (parts account span p.machine p.valid entries p.entries_are)
                  ∙ so.1;
              last = next.last;
              taken = takes_both takes sink mid next.last so.0 next.front so.2 next.taken;
              refused = next.refused;
            })
