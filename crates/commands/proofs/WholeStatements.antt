-- What is written of pieces is what is asked for of the statement of the machine that they are of.
use Rattle.std.proofs.Common.{◌≡◌, ◌≢◌, ◌∙◌, ℕ, ◌-◌, ◌≤◌, ◌^◌, ◌&&◌, ◌||◌, nat_le, nat_lt, max, cond, Bool, true, false, Option, Some, None, List, [], ◌∷◌, Ok, length, map, filter, refl, sym, ap, subst, arith}
use Rattle.std.specs.List.{All, filter_map, flat_map}
use Rattle.std.specs.Io.KnownBytes.{Appends}
use Rattle.std.specs.Option.{option_map}
use Rattle.std.proofs.lemmas.Bool.Decides.{nat_tests}
use Rattle.std.proofs.lemmas.List.{length-map}
use Rattle.std.proofs.lemmas.List.Elements.{All-head, All-tail, All-weaker}
use Rattle.std.proofs.lemmas.Simd.{map-map}
use Rattle.sqlite_trees.proofs.ListLemmas.{filter-map, flat_map-filter}
use Rattle.chain.proofs.HistoryRows.{map_reversed}
use Rattle.chain.proofs.PageSpans.{keeps_all, within_all}
use Rattle.chain.specs.AccountEntries.{account_entries, account_entry, entry_time, row_of}
use Rattle.chain.specs.LedgerReads.{seen_by}
use Rattle.chain.specs.Pages.{IsRecord, all_within}
use Rattle.chain.specs.Records.{entry_records, transfer_records}
use Rattle.chain.specs.declared.account_entry.AccountEntry.{AccountEntry}
use Rattle.control.specs.declared.piece_asked.PieceAsked.{PieceAsked}
use Rattle.records.specs.Facts.{with_balances}
use Rattle.records.specs.Machine.{Machine, account_with, transfer_with}
use Rattle.records.specs.Queries.{is_within as is_in_span}
use Rattle.records.specs.Reads.{Entry, answer_by, entries_of as all_entries, found_transfers, in_order, is_entry_of, statement_of}
use Rattle.records.specs.Step.{max_clock}
use Rattle.records.specs.Valid.{IsValid}
use Rattle.records.specs.declared.account.Account.{Account}
use Rattle.records.specs.declared.filter.Order.{Order}
use Rattle.records.specs.declared.filter.Order.TheVariants.{Oldest, Newest}
use Rattle.records.specs.declared.statement_row.StatementRow.{StatementRow}
use Rattle.records.specs.declared.transfer.Transfer.{Transfer}
use Rattle.statement.specs.Period.{closing, is_before, is_reached, is_within, no_balances, opening, sums_after, within}
use Rattle.statement.specs.Text.{statement_text}
use Rattle.statement.specs.declared.period.Period.{Period}
use Rattle.admin_client.specs.Asking.{is_whole}
use Rattle.commands.specs.Desk.{span_of}
use Rattle.admin_client.specs.Extracts.{AreTransfersOf, IsTextAsked, ToldBy, rows_asked}
use Rattle.commands.specs.PieceByPiece.{PiecesMakeTheStatement}
use Rattle.admin_client.specs.Served.{entries_of, is_newest, text_by, transfer_within, transfers_asked}
use Rattle.admin_client.specs.Statements.{answer_in}
use Rattle.admin_client.specs.declared.asked.Asked.{Asked}
use Rattle.parts.proofs.LaterEntries.{all_own}
use Rattle.commands.proofs.WholeLemmas.{make_the_whole}

-- lists in an order
in_order_map :
    {A B : Type 0} (f : A → B) (order : Order) (xs : List A)
    → map f (in_order order xs) ≡ in_order order (map f xs)
in_order_map f Oldest xs = refl
in_order_map f Newest xs = map_reversed f xs

in_order_none : {A : Type 0} (order : Order) → in_order {A = A} order [] ≡ []
in_order_none Oldest = refl
in_order_none Newest = refl

-- the rows of the account's entries are the statement
rows_are :
    (m : Machine) (account : ℕ)
    → map (row_of account) (account_entries m account) ≡ statement_of m account
rows_are m account =
    map-map (row_of account) (account_entry account)
    (filter (λ (entry : Entry). is_entry_of account entry.transfer) (all_entries m))

-- a test that passes no more than another one gives the same behind it
kept_by :
    {B : Type 0} (f : AccountEntry → B) (p : B → Bool) (q : AccountEntry → Bool) (x : AccountEntry)
    (xs : List AccountEntry) (b c : Bool) → q x ≡ b → p (f x) ≡ c → (c ≡ true → b ≡ true)
    → filter p (map f (filter q xs)) ≡ filter p (map f xs)
    → filter p (map f (filter q (x ∷ xs))) ≡ filter p (map f (x ∷ xs))
kept_by f p q x xs true true is passes within same =
    rw (is, passes) (ap (λ (ys : List _). f x ∷ ys) same)
kept_by f p q x xs true false is passes within same = rw (is, passes) same
kept_by f p q x xs false true is passes within same = absurd (let no = within refl in cc)
kept_by f p q x xs false false is passes within same = rw (is, passes) same

kept :
    {B : Type 0} (f : AccountEntry → B) (p : B → Bool) (q : AccountEntry → Bool)
    → ((x : AccountEntry) → p (f x) ≡ true → q x ≡ true) → (xs : List AccountEntry)
    → filter p (map f (filter q xs)) ≡ filter p (map f xs)
kept f p q within [] = refl
kept f p q within (x ∷ xs) =
    kept_by f p q x xs (q x) (p (f x)) refl refl (within x) (kept f p q within xs)

-- what is read for a period has all that is in it or before it
before_read :
    (from to time : ℕ) → nat_lt time from ≡ true
    → (nat_le 0 time && nat_le time (max to from)) ≡ true
before_read from to time is = grind (arith, nat_tests)

within_read :
    (from to time : ℕ) → (nat_le from time && nat_le time to) ≡ true
    → (nat_le 0 time && nat_le time (max to from)) ≡ true
within_read from to time is = grind (arith, nat_tests)

reached_read :
    (from to time : ℕ) → (nat_lt time from || (nat_le from time && nat_le time to)) ≡ true
    → (nat_le 0 time && nat_le time (max to from)) ≡ true
reached_read from to time is = grind (arith, nat_tests)

in_whole : (time : ℕ) → time ≤ max_clock → (nat_le 0 time && nat_le time (2 ^ 64 - 1)) ≡ true
in_whole time by = grind (arith, nat_tests)

-- the transfers of entries, where they are asked for
none_asked :
    (period : Period) (account : ℕ) (xs : List AccountEntry)
    → flat_map (transfer_within false period account) xs ≡ []
none_asked period account [] = refl
none_asked period account (x ∷ xs) = none_asked period account xs

abbrev lies_in : Period → ℕ → AccountEntry → Bool
lies_in period account e = is_within period (row_of account e)

one_asked :
    (period : Period) (account : ℕ) (x : AccountEntry) (xs : List AccountEntry) (b : Bool)
    → lies_in period account x ≡ b
    → flat_map (transfer_within true period account) xs
    ≡ map (λ e. e.transfer) (filter (lies_in period account) xs)
    → flat_map (transfer_within true period account) (x ∷ xs)
    ≡ map (λ e. e.transfer) (filter (lies_in period account) (x ∷ xs))
one_asked period account x xs true is same = rw is (ap (λ (ts : List Transfer). x.transfer ∷ ts) same)
one_asked period account x xs false is same = rw is same

all_asked :
    (period : Period) (account : ℕ) (xs : List AccountEntry)
    → flat_map (transfer_within true period account) xs
    ≡ map (λ e. e.transfer) (filter (lies_in period account) xs)
all_asked period account [] = refl
all_asked period account (x ∷ xs) =
    one_asked period account x xs (lies_in period account x) refl (all_asked period account xs)

-- an entry whose transfer is found by its id
abbrev IsFound : Machine → AccountEntry → Type 0
IsFound m e = transfer_with e.transfer.id m.transfers ≡ Some e.transfer

found_each :
    (m : Machine) (xs : List AccountEntry) → All (IsFound m) xs
    → filter_map (λ id. transfer_with id m.transfers) (map (λ e. e.transfer.id) xs)
    ≡ map (λ e. e.transfer) xs
found_each m [] all = refl
found_each m (x ∷ xs) all =
    rw (All-head (IsFound m) x xs all)
    (ap (λ (ts : List Transfer). x.transfer ∷ ts) (found_each m xs (All-tail (IsFound m) x xs all)))

-- an account that is there
is_there : {A B : Type 0} (f : A → B) (x : Option A) → option_map f x ≢ None → (it : A) × (x ≡ Some it)
is_there f None some = absurd (some refl)
is_there f (Some it) some = (it, refl)

same_order : (order : Order) → cond (is_newest order) Newest Oldest ≡ order
same_order Oldest = refl
same_order Newest = refl

-- what is asked for first: a whole statement, or all up to the period's bounds
abbrev asked_by : Bool → List ℕ → ℕ → Asked → PieceAsked
asked_by b tenant account asked = record {
  tenant = tenant;
  account = account;
  from = 0;
  to = cond b (2 ^ 64 - 1) (max asked.period.to asked.period.from);
  is_reversed = cond b (is_newest asked.order) false;
}

module _ (m : Machine) (valid : IsValid m) (tenant : List ℕ) (account : ℕ) (asked : Asked)
    (there : Account) (is : account_with account m.accounts ≡ Some there) where
  abbrev own : List AccountEntry
  own = account_entries m account

  abbrev rows : List StatementRow
  rows = statement_of m account

  answered :
      (order : Order)
      → answer_in (Some m) account order ≡ Ok (record { clock = m.clock; shown = in_order order rows })
  answered order =
      ap (λ (x : Option Account). seen_by m.clock (answer_by x (in_order order rows))) is

  -- whether an entry is read
  abbrev is_read : Bool → AccountEntry → Bool
  is_read whole e = is_in_span (span_of (asked_by whole tenant account asked)) (entry_time e)

  -- the whole statement
  all_read : filter (is_read true) own ≡ own
  all_read =
      keeps_all entry_time (is_read true) own
      (All-weaker (IsRecord entry_time (λ e. Unit {0})) (λ e. is_read true e ≡ true)
      (λ e it. in_whole (entry_time e) it.bounded) own (entry_records m valid account).each)

  whole_rows :
      (entries : List AccountEntry)
      → entries ≡ all_within entry_time (span_of (asked_by true tenant account asked)) own
      → map (row_of account) entries ≡ in_order asked.order rows
  whole_rows entries are =
      let order = cond (is_newest asked.order) Newest Oldest in
      ap (map (row_of account)) (are ∙ ap (in_order order) all_read)
      ∙ in_order_map (row_of account) order own
      ∙ ap (in_order order) (rows_are m account)
      ∙ ap (λ (o : Order). in_order o rows) (same_order asked.order)

  -- the statement of a period
  same_of :
      (p : StatementRow → Bool)
      → ((e : AccountEntry) → p (row_of account e) ≡ true → is_read false e ≡ true)
      → filter p (map (row_of account) (filter (is_read false) own)) ≡ filter p rows
  same_of p within =
      kept (row_of account) p (is_read false) within own ∙ ap (filter p) (rows_are m account)

  abbrev rows_read : List StatementRow
  rows_read = map (row_of account) (filter (is_read false) own)

  opening_is : opening asked.period rows_read ≡ opening asked.period rows
  opening_is =
      ap (sums_after no_balances) (same_of (is_before asked.period)
      (λ e before. before_read asked.period.from asked.period.to (entry_time e) before))

  closing_is : closing asked.period rows_read ≡ closing asked.period rows
  closing_is =
      ap (sums_after no_balances) (same_of (is_reached asked.period)
      (λ e reached. reached_read asked.period.from asked.period.to (entry_time e) reached))

  within_is : within asked.period rows_read ≡ within asked.period rows
  within_is =
      same_of (is_within asked.period)
      (λ e lies. within_read asked.period.from asked.period.to (entry_time e) lies)

  none_unread :
      (wide : Bool) (e : AccountEntry) (b : Bool) → lies_in asked.period account e ≡ b
      → is_read false e ≡ false → transfer_within wide asked.period account e ≡ []
  none_unread true e true lies unread =
      absurd (let read = within_read asked.period.from asked.period.to (entry_time e) lies in cc)
  none_unread true e false lies unread = rw lies refl
  none_unread false e b lies unread = refl

  transfers_are :
      transfers_asked account asked (filter (is_read false) own) ≡ transfers_asked account asked own
  transfers_are =
      let wide = asked.layout.is_wide in
      flat_map-filter (transfer_within wide asked.period account) (is_read false)
      (λ e unread. none_unread wide e (lies_in asked.period account e) refl unread) own

  abbrev inside : List AccountEntry
  inside = filter (lies_in asked.period account) own

  inside_rows : within asked.period rows ≡ map (row_of account) inside
  inside_rows =
      ap (within asked.period) (sym (rows_are m account))
      ∙ filter-map (is_within asked.period) (row_of account) own

  each_found : All (IsFound m) (in_order asked.order inside)
  each_found =
      let P = λ (t : Transfer). transfer_with t.id m.transfers ≡ Some t in
      let each = All-weaker (IsRecord (λ (t : Transfer). t.timestamp) P) P (λ t it. it.kept) m.transfers
      (transfer_records m valid).each in
      within_all entry_time (IsFound m) own
      (record { first = asked.period.from; last = asked.period.to; order = asked.order; most = 0 })
      (all_own account P [] m.transfers each)

  theirs :
      (wide : Bool)
      → AreTransfersOf (Some m) wide (rows_asked asked rows)
      (in_order asked.order (flat_map (transfer_within wide asked.period account) own))
  theirs false =
      ap (in_order asked.order) (none_asked asked.period account own) ∙ in_order_none asked.order
  theirs true =
      let order = asked.order in
      let turned = in_order order inside in
      let transfer = λ (e : AccountEntry). e.transfer in
      let id = λ (row : StatementRow). row.transfer_id in
      let transfers_is =
      ap (in_order order) (all_asked asked.period account own) ∙ sym (in_order_map transfer order inside) in
      let rows_is : rows_asked asked rows ≡ map (row_of account) turned =
      ap (in_order order) inside_rows ∙ sym (in_order_map (row_of account) order inside) in (
        m.clock,
        ap (λ (ts : List Transfer). Ok (record { clock = m.clock; shown = ts }))
            (ap (λ (rs : List StatementRow). found_transfers m (map id rs)) rows_is
            ∙ ap (filter_map (λ it. transfer_with it m.transfers)) (map-map id (row_of account) turned)
            ∙ found_each m turned each_found ∙ sym transfers_is),
        ap length transfers_is ∙ length-map turned transfer
            ∙ sym (length-map turned (row_of account)) ∙ ap length (sym rows_is),
      )

  text_asked :
      (entries : List AccountEntry) → entries ≡ filter (is_read false) own
      → IsTextAsked (Some m) account asked (text_by false account asked entries)
  text_asked entries are = (
    record { clock = m.clock; shown = rows },
    answered Oldest,
    record {
      transfers = in_order asked.order (transfers_asked account asked own);
      theirs = theirs asked.layout.is_wide;
      is = ap (text_by false account asked) are
          ∙ (rw (opening_is, within_is, transfers_are, closing_is) refl);
    },
  )

  -- the one or the other
  told_by :
      (b : Bool) (entries : List AccountEntry)
      → entries ≡ all_within entry_time (span_of (asked_by b tenant account asked)) own
      → (old new : Option (List ℕ)) → Appends old new (text_by b account asked entries)
      → ToldBy b (λ bytes. bytes) (Some m) account asked old new (Ok tt)
  told_by true entries are old new written = (
    record { clock = m.clock; shown = in_order asked.order rows },
    answered asked.order,
    subst
        (λ (all : List StatementRow). Appends old new (statement_text all)) (whole_rows entries are)
        written,
  )
  told_by false entries are old new written =
      (text_by false account asked entries, text_asked entries are, written)

pub make_the_statement : PiecesMakeTheStatement
make_the_statement m tenant account asked first pieces are old new written =
    let there = is_there (with_balances m) (account_with account m.accounts) are.begin.there in
    let whole = is_whole asked in
    told_by m are.valid tenant account asked there.0 there.1 whole (entries_of (first ∷ pieces))
    (make_the_whole m (asked_by whole tenant account asked) first pieces are) old new written
