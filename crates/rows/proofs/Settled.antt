-- Once all that is due is released, the rows are those of the later clock.
use Rattle.std.proofs.Common.{◌≡◌, ◌≤◌, ◌+◌, ℕ, Bool, true, false, ◌&&◌, ◌||◌, eqb, ltb, cond, List, [], ◌∷◌, map, Some, refl, sym, ap, ap₂, ◌∙◌}
use Rattle.std.specs.List.{list_any, sum_by, filter, All}
use Rattle.std.specs.List.Sorted.{IsPermutation}
use Rattle.std.proofs.lemmas.List.Elements.{All-nil, All-cons, All-head, All-tail, All-weaker, All-filter, filter_passes}
use Rattle.std.proofs.lemmas.List.Sums.{sum_by-cons}
use Rattle.std.proofs.lemmas.List.Sorted.{sum_by-IsPermutation}
use Rattle.std.proofs.Math.Bool.{or-false}
use Rattle.records.specs.declared.account.Account.{Account}
use Rattle.records.specs.declared.transfer.Transfer.{Transfer}
use Rattle.records.specs.declared.side.Side.{Side}
use Rattle.records.specs.declared.side.Side.TheVariants.{Debit, Credit}
use Rattle.records.specs.Flags.{is_pending}
use Rattle.records.specs.Sides.{account_on}
use Rattle.records.specs.Machine.{Machine, has_id, transfer_with}
use Rattle.records.specs.Due.{due_of, is_due}
use Rattle.records.specs.Fate.{posts, voids, is_open, fate_of}
use Rattle.records.specs.Balances.{amount_on, pending_amount, balances_in}
use Rattle.records.specs.Step.{at_clock}
use Rattle.rows.specs.Prescribed.{rows_for, balance_row, status_row}
use Rattle.rows.specs.Settling.{fate_when, pending_when, balances_when, balance_row_when, status_row_when, rows_when, is_past_with, rows_released, due_ids}
use Rattle.engine.proofs.ValidMachineLemmas.{come_later, found_itself, fate_by, IsSound}
use Rattle.rows.proofs.RowLists.{map_same, map_same_in}
use Rattle.rows.proofs.NextBalances.{balance_of}
use Rattle.rows.proofs.NextFates.{status_of}
use Rattle.rows.proofs.Counts.{any_by_count, counted, is_due_in, count_due}

-- before the first release the rows are the machine's own
pub none_released : (m : Machine) → rows_released m [] ≡ rows_for 3 m
unfolding rows_when rows_for
none_released m = ap (λ (is_past : Transfer → Bool). rows_when is_past m) (λ i t. or-false (is_due m.clock t) i)

-- an entry is among the released exactly if it was due
one_or_none : (due : Bool) → ltb 0 (cond due 1 0) ≡ due
one_or_none true = refl
one_or_none false = refl

is_released : (m : Machine) (clock : ℕ) (ids : List ℕ) (e : Transfer) → IsSound m → IsPermutation (due_ids clock (rows_for 3 m)) ids → transfer_with e.id m.transfers ≡ Some e → has_id e.id ids ≡ is_due_in m clock e
is_released m clock ids e s same found =
    any_by_count (λ (x : ℕ). eqb x e.id) ids
    ∙ ap (λ (n : ℕ). ltb 0 n) (sum_by-IsPermutation (λ (x : ℕ). cond (eqb x e.id) 1 0) (due_ids clock (rows_for 3 m)) ids same ∙ count_due m clock e.id s.transfers ∙ ap (counted (is_due_in m clock)) found)
    ∙ one_or_none (is_due_in m clock e)

-- a fate by what was due, and is due later
settled_by : (posted voided before after : Bool) → (before ≡ true → after ≡ true) → fate_by posted voided (before || (is_open (fate_by posted voided before) && after)) ≡ fate_by posted voided after
settled_by true voided before after h = refl
settled_by false true before after h = refl
settled_by false false true after h = ap (fate_by false false) (sym (h refl))
settled_by false false false after h = refl

-- the fate of a pending entry
settled_fate : (m : Machine) (clock : ℕ) (ids : List ℕ) (e : Transfer) → m.clock ≤ clock → has_id e.id ids ≡ is_due_in m clock e → is_pending e.flags ≡ true → fate_of m.transfers clock e ≡ fate_when (is_past_with m.clock ids) m.transfers e
settled_fate m clock ids e later released pends =
    let posted = list_any (posts e.id) m.transfers in
    let voided = list_any (voids e.id) m.transfers in
    let open_and_due = is_open (fate_of m.transfers m.clock e) && is_due clock e in
    sym (ap (λ (b : Bool). fate_by posted voided (is_due m.clock e || b)) (released ∙ ap (λ (b : Bool). b && open_and_due) pends)
    ∙ settled_by posted voided (is_due m.clock e) (is_due clock e) (come_later (due_of e) m.clock clock later))

-- what an entry counts
settled_step : (pends : Bool) (a b : Bool) (amount : ℕ) → (pends ≡ true → a ≡ b) → cond (pends && a) amount 0 ≡ cond (pends && b) amount 0
settled_step true a b amount h = ap (λ (x : Bool). cond x amount 0) (h refl)
settled_step false a b amount h = refl

-- of each entry: its fate if it is pending
record IsSettled (m : Machine) (clock : ℕ) (ids : List ℕ) (e : Transfer) : Type 0 where
  fate : is_pending e.flags ≡ true → fate_of m.transfers clock e ≡ fate_when (is_past_with m.clock ids) m.transfers e

all_settled : (m : Machine) (clock : ℕ) (ids : List ℕ) → IsSound m → m.clock ≤ clock → IsPermutation (due_ids clock (rows_for 3 m)) ids → All (IsSettled m clock ids) m.transfers
all_settled m clock ids s later same =
    All-weaker (λ (e : Transfer). transfer_with e.id m.transfers ≡ Some e) (IsSettled m clock ids) (λ e found. record { fate = settled_fate m clock ids e later (is_released m clock ids e s same found) }) m.transfers (found_itself (λ (t : Transfer). t.id) m.transfers s.transfers)

pub sum_same_in : {A : Type 0} (f g : A → ℕ) (xs : List A) → All (λ x. f x ≡ g x) xs → sum_by f xs ≡ sum_by g xs
sum_same_in f g [] all = refl
sum_same_in f g (x ∷ xs) all = sum_by-cons f x xs ∙ ap₂ ◌+◌ (All-head (λ x. f x ≡ g x) x xs all) (sum_same_in f g xs (All-tail (λ x. f x ≡ g x) x xs all)) ∙ sym (sum_by-cons g x xs)

-- the pending sums of all accounts
settled_sum : (m : Machine) (clock : ℕ) (ids : List ℕ) → All (IsSettled m clock ids) m.transfers → (side : Side) (account : ℕ) → sum_by (amount_on side account (pending_amount m.transfers clock)) m.transfers ≡ sum_by (amount_on side account (pending_when (is_past_with m.clock ids) m.transfers)) m.transfers
settled_sum m clock ids all side account =
    let now = amount_on side account (pending_amount m.transfers clock) in
    let released = amount_on side account (pending_when (is_past_with m.clock ids) m.transfers) in
    sum_same_in now released m.transfers (All-weaker (IsSettled m clock ids) (λ e. now e ≡ released e) (λ e h.
    ap (λ (x : ℕ). cond (eqb (account_on side e) account) x 0)
    (settled_step (is_pending e.flags) (is_open (fate_of m.transfers clock e)) (is_open (fate_when (is_past_with m.clock ids) m.transfers e)) e.amount (λ pends. ap is_open (h.fate pends)))) m.transfers all)

settled_balances : (m : Machine) (clock : ℕ) (ids : List ℕ) → All (IsSettled m clock ids) m.transfers → (account : ℕ) → balances_in (at_clock m clock) account ≡ balances_when (is_past_with m.clock ids) m.transfers account
settled_balances m clock ids all account =
    let sum = λ (side : Side). settled_sum m clock ids all side account in
    let now = balances_in (at_clock m clock) account in
    λ i. record { debits = record { pending = sum Debit i; posted = now.debits.posted }; credits = record { pending = sum Credit i; posted = now.credits.posted } }

both_weaker : {A : Type 0} (P Q R : A → Type 0) → ((x : A) → P x → Q x → R x) → (xs : List A) → All P xs → All Q xs → All R xs
both_weaker P Q R step [] p q = All-nil R
both_weaker P Q R step (x ∷ xs) p q = All-cons R x xs (step x (All-head P x xs p) (All-head Q x xs q)) (both_weaker P Q R step xs (All-tail P x xs p) (All-tail Q x xs q))

settled_statuses : (m : Machine) (clock : ℕ) (ids : List ℕ) → All (IsSettled m clock ids) m.transfers → map (status_row (at_clock m clock)) (filter (λ t. is_pending t.flags) m.transfers) ≡ map (status_row_when (is_past_with m.clock ids) m) (filter (λ t. is_pending t.flags) m.transfers)
settled_statuses m clock ids all =
    let pends = λ (t : Transfer). is_pending t.flags in
    map_same_in (status_row (at_clock m clock)) (status_row_when (is_past_with m.clock ids) m) (filter pends m.transfers)
    (both_weaker (IsSettled m clock ids) (λ t. pends t ≡ true) (λ t. status_row (at_clock m clock) t ≡ status_row_when (is_past_with m.clock ids) m t) (λ t h p. ap (status_of t) (h.fate p)) (filter pends m.transfers) (All-filter pends (IsSettled m clock ids) m.transfers all) (filter_passes pends m.transfers))

-- all rows
pub all_released : (m : Machine) (clock : ℕ) (ids : List ℕ) → IsSound m → m.clock ≤ clock → IsPermutation (due_ids clock (rows_for 3 m)) ids → rows_for 3 (at_clock m clock) ≡ record (rows_released m ids) { clock = clock }
unfolding rows_for rows_when
all_released m clock ids s later same =
    let all = all_settled m clock ids s later same in
    let now = rows_for 3 (at_clock m clock) in
    let balances = map_same (balance_row (at_clock m clock)) (balance_row_when (is_past_with m.clock ids) m) (λ (a : Account). ap (balance_of a.id) (settled_balances m clock ids all a.id)) m.accounts in
    let statuses = settled_statuses m clock ids all in
    λ i. record now { balances = balances i; statuses = statuses i }
