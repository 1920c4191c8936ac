-- The entries before a timestamp grow by one entry after the other.
use Rattle.std.proofs.Common.{◌≡◌, ◌≢◌, ◌<◌, ◌≤◌, ◌+◌, ℕ, false, eqb, ltb, cond, List, [], ◌∷◌, ◌++◌, append-nil, Option, Some, None, refl, sym, ap, ◌∙◌, arith}
use Rattle.std.specs.List.{All, AllPairs}
use Rattle.std.specs.Option.{option_to_list}
use Rattle.std.proofs.lemmas.Bool.{eq-eqb, ne_eqb}
use Rattle.std.proofs.lemmas.Bool.Decides.{nat_tests}
use Rattle.std.proofs.lemmas.List.Elements.{All-nil, All-cons, All-head, All-tail, All-weaker}
use Rattle.records.specs.declared.account.Account.{Account}
use Rattle.records.specs.declared.transfer.Transfer.{Transfer}
use Rattle.records.specs.Machine.{Machine}
use Rattle.records.specs.Valid.{with_account, with_transfer}
use Rattle.records.specs.EntryByEntry.{entries_before, AreTimestampsApart}
use Rattle.engine.specs.EntryLaws.{EntriesComeInTurn}
use Rattle.engine.proofs.FindByIdLemmas.{with_key}
use Rattle.engine.proofs.EarlierLemmas.{below, below_all, below_none, below_next, pairs_head, pairs_tail, All-both}

abbrev pub account_time : Account → ℕ
account_time a = a.timestamp

abbrev pub transfer_time : Transfer → ℕ
transfer_time t = t.timestamp

apart_from : (a b : ℕ) → a < b → eqb a b ≡ false
apart_from a b h = grind (arith, nat_tests)

-- where numbers rise, each element is the one with its number
behind_first : {A : Type 0} (key : A → ℕ) (x : A) (xs : List A) (y : A) → key x < key y → with_key key (key y) xs ≡ Some y → with_key key (key y) (x ∷ xs) ≡ Some y
behind_first key x xs y less found = rw (apart_from (key x) (key y) less) found

each_found : {A : Type 0} (key : A → ℕ) (xs : List A) → AllPairs (λ x y. key x < key y) xs → All (λ x. with_key key (key x) xs ≡ Some x) xs
each_found key [] rise = All-nil (λ x. with_key key (key x) [] ≡ Some x)
each_found {A} key (x ∷ xs) rise =
    let later = pairs_head (λ (y : A) (z : A). key y < key z) x xs rise in
    let rest = each_found key xs (pairs_tail (λ (y : A) (z : A). key y < key z) x xs rise) in
    All-cons (λ y. with_key key (key y) (x ∷ xs) ≡ Some y) x xs (rw (eq-eqb (key x) (key x) refl) refl)
    (All-weaker (λ y. (key x < key y) × (with_key key (key y) xs ≡ Some y)) (λ y. with_key key (key y) (x ∷ xs) ≡ Some y) (λ y h. behind_first key x xs y h.0 h.1) xs (All-both (λ y. key x < key y) (λ y. with_key key (key y) xs ≡ Some y) xs later rest))

-- a number that no element has
none_found : {A : Type 0} (key : A → ℕ) (n : ℕ) (xs : List A) → All (λ x. key x ≢ n) xs → with_key key n xs ≡ None
none_found key n [] h = refl
none_found key n (x ∷ xs) h = rw (ne_eqb (key x) n (All-head (λ y. key y ≢ n) x xs h)) (none_found key n xs (All-tail (λ y. key y ≢ n) x xs h))

-- bounds between which no element stands
same_test : (a from to : ℕ) → from ≤ to → (from ≤ a → to ≤ a) → ltb a to ≡ ltb a from
same_test a from to le h = grind (arith, nat_tests)

below_same : {A : Type 0} (key : A → ℕ) (from to : ℕ) (xs : List A) → from ≤ to → All (λ x. from ≤ key x → to ≤ key x) xs → below key to xs ≡ below key from xs
below_same key from to [] le h = refl
below_same {A} key from to (x ∷ xs) le h =
    let rest = below_same key from to xs le (All-tail (λ y. from ≤ key y → to ≤ key y) x xs h) in
    let test = same_test (key x) from to le (All-head (λ y. from ≤ key y → to ≤ key y) x xs h) in
    λ i. cond (test i) (x ∷ rest i) (rest i)

-- the entries before the next timestamp
pub before_next : (m : Machine) (timestamp clock : ℕ) (a : Option Account) (t : Option Transfer) → AreTimestampsApart m → with_key account_time timestamp m.accounts ≡ a → with_key transfer_time timestamp m.transfers ≡ t → entries_before m (timestamp + 1) clock ≡ record { accounts = below account_time timestamp m.accounts ++ option_to_list a; transfers = below transfer_time timestamp m.transfers ++ option_to_list t; clock = clock; failed = [] }
before_next m timestamp clock a t v is_a is_t = λ i. record {
  accounts = (below_next account_time timestamp m.accounts v.accounts_rise ∙ ap (λ x. below account_time timestamp m.accounts ++ option_to_list x) is_a) i;
  transfers = (below_next transfer_time timestamp m.transfers v.transfers_rise ∙ ap (λ x. below transfer_time timestamp m.transfers ++ option_to_list x) is_t) i;
  clock = clock;
  failed = [];
}

one_account : (m : Machine) (clock : ℕ) (a : Account) → AreTimestampsApart m → with_key account_time a.timestamp m.accounts ≡ Some a → All (λ t. a.timestamp ≢ t.timestamp) m.transfers → entries_before m (a.timestamp + 1) clock ≡ with_account (entries_before m a.timestamp clock) a
one_account m clock a v found apart =
    let none = none_found transfer_time a.timestamp m.transfers (All-weaker (λ t. a.timestamp ≢ t.timestamp) (λ t. t.timestamp ≢ a.timestamp) (λ t h same. h (sym same)) m.transfers apart) in
    before_next m a.timestamp clock (Some a) None v found none ∙ λ i. record { accounts = below account_time a.timestamp m.accounts ++ a ∷ []; transfers = append-nil (below transfer_time a.timestamp m.transfers) i; clock = clock; failed = [] }

one_transfer : (m : Machine) (clock : ℕ) (t : Transfer) → AreTimestampsApart m → with_key transfer_time t.timestamp m.transfers ≡ Some t → All (λ a. a.timestamp ≢ t.timestamp) m.accounts → entries_before m (t.timestamp + 1) clock ≡ with_transfer (entries_before m t.timestamp clock) t
one_transfer m clock t v found apart =
    let none = none_found account_time t.timestamp m.accounts apart in
    before_next m t.timestamp clock None (Some t) v none found ∙ λ i. record { accounts = append-nil (below account_time t.timestamp m.accounts) i; transfers = below transfer_time t.timestamp m.transfers ++ t ∷ []; clock = clock; failed = [] }

-- what each account is not, for each transfer
turned : (m : Machine) → All (λ a. All (λ t. a.timestamp ≢ t.timestamp) m.transfers) m.accounts → All (λ t. All (λ a. a.timestamp ≢ t.timestamp) m.accounts) m.transfers
turned m apart k t within j a inside = apart j a inside k t within

pub come_in_turn : EntriesComeInTurn
come_in_turn m clock v = record {
  first = λ timestamp s. λ i. record { accounts = below_none account_time timestamp m.accounts s.accounts i; transfers = below_none transfer_time timestamp m.transfers s.transfers i; clock = clock; failed = [] };
  account = All-weaker (λ a. (with_key account_time a.timestamp m.accounts ≡ Some a) × All (λ t. a.timestamp ≢ t.timestamp) m.transfers) (λ a. entries_before m (a.timestamp + 1) clock ≡ with_account (entries_before m a.timestamp clock) a) (λ a h. one_account m clock a v h.0 h.1) m.accounts (All-both (λ a. with_key account_time a.timestamp m.accounts ≡ Some a) (λ a. All (λ t. a.timestamp ≢ t.timestamp) m.transfers) m.accounts (each_found account_time m.accounts v.accounts_rise) v.apart);
  transfer = All-weaker (λ t. (with_key transfer_time t.timestamp m.transfers ≡ Some t) × All (λ a. a.timestamp ≢ t.timestamp) m.accounts) (λ t. entries_before m (t.timestamp + 1) clock ≡ with_transfer (entries_before m t.timestamp clock) t) (λ t h. one_transfer m clock t v h.0 h.1) m.transfers (All-both (λ t. with_key transfer_time t.timestamp m.transfers ≡ Some t) (λ t. All (λ a. a.timestamp ≢ t.timestamp) m.accounts) m.transfers (each_found transfer_time m.transfers v.transfers_rise) (turned m v.apart));
  between = λ from to none i. record { accounts = below_same account_time from to m.accounts none.in_order none.accounts i; transfers = below_same transfer_time from to m.transfers none.in_order none.transfers i; clock = clock; failed = [] };
  last = λ timestamp e i. record { accounts = below_all account_time timestamp m.accounts e.accounts i; transfers = below_all transfer_time timestamp m.transfers e.transfers i; clock = clock; failed = [] };
}
