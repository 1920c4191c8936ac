-- Rows that are read off a map, in the order of its keys.
use Rattle.std.proofs.Common.{◌≡◌, ◌<◌, ℕ, Bool, true, false, eqb, cond, List, [], ◌∷◌, map, Option, Some, None, Result, Ok, Err, IfOk, refl, sym, ap, ◌∙◌, subst, arith}
use Rattle.std.specs.List.{All, filter}
use Rattle.std.specs.List.Sorted.{IsStrictlySortedBy}
use Rattle.std.specs.Map.{lookup, keys_of}
use Rattle.std.specs.Option.{option_map}
use Rattle.std.specs.Ordering.{nat_cmp}
use Rattle.std.specs.BTreeMap.{is_at}
use Rattle.std.specs.declared.cmp.Ordering.TheVariants.{Less}
use Rattle.std.proofs.lemmas.Bool.{eqb-true}
use Rattle.std.proofs.lemmas.Bool.Decides.{nat_tests}
use Rattle.std.proofs.lemmas.List.Elements.{All-nil, All-cons, All-head, All-tail, All-from_recursion}
use Rattle.std.proofs.lemmas.Map.Keys.{sorted_head, sorted_tail}
use Rattle.records.specs.declared.account.Account.{Account}
use Rattle.records.specs.declared.facts.AccountWithBalances.{AccountWithBalances}
use Rattle.records.specs.declared.transfer.Transfer.{Transfer}
use Rattle.records.specs.Flags.{is_pending}
use Rattle.records.specs.Machine.{Machine, account_with}
use Rattle.records.specs.Valid.{IsValid}
use Rattle.rows.specs.declared.balance_row.BalanceRow.{BalanceRow}
use Rattle.rows.specs.declared.status_row.StatusRow.{StatusRow}
use Rattle.rows.specs.Keyed.{row_with}
use Rattle.rows.specs.Prescribed.{rows_for, balance_row, status_row, balance_rows, status_rows}
use Rattle.rows.specs.SameRows.{account_from}
use Rattle.rows.specs.Tables.{IsAscendingBy}
use Rattle.engine.proofs.ValidMachineLemmas.{AreDistinct, found_key, sound}
use Rattle.running.specs.declared.running.Running.{Running}
use Rattle.running.specs.declared.statuses.Statuses.{Statuses}
use Rattle.running.specs.Holds.{HoldsStatuses, balance_with, status_with}
use Rattle.running.specs.Running.{IsRunning}
use Rattle.running.proofs.KeyedRows.{none_mapped, apart_mapped, apart_filtered}
use Rattle.running.proofs.HeldMaps.{at_number, flip}

-- the row with a key is made of what the map has there
by_test : {X R : Type 0} (f : ℕ × X → R) (here there : Bool) (k id : ℕ) (x : X) (rest : Option R) (found : Option X) → here ≡ there → (there ≡ true → k ≡ id) → rest ≡ option_map (λ y. f (id, y)) found → cond here (Some (f (k, x))) rest ≡ option_map (λ y. f (id, y)) (cond there (Some x) found)
by_test f here true k id x rest found same key h = ap (λ (b : Bool). cond b (Some (f (k, x))) rest) same ∙ ap (λ (n : ℕ). Some (f (n, x))) (key refl)
by_test f here false k id x rest found same key h = ap (λ (b : Bool). cond b (Some (f (k, x))) rest) same ∙ h

pub told : {X R : Type 0} (key : R → ℕ) (f : ℕ × X → R) → ((e : ℕ × X) → key (f e) ≡ e.0) → (id : ℕ) (es : List (ℕ × X)) → row_with key id (map f es) ≡ option_map (λ y. f (id, y)) (lookup (is_at (nat_cmp id)) es)
told key f is id [] = refl
told {X} key f is id (e ∷ es) =
    let same : eqb (key (f e)) id ≡ is_at (nat_cmp id) e.0 = ap (λ (n : ℕ). eqb n id) (is e) ∙ flip e.0 id ∙ sym (at_number id e.0) in
    by_test f (eqb (key (f e)) id) (is_at (nat_cmp id) e.0) e.0 id e.1 (row_with key id (map f es)) (lookup (is_at (nat_cmp id)) es) same (λ there. sym (eqb-true id e.0 (sym (at_number id e.0) ∙ there))) (told key f is id es)

-- and they stand in the order of the keys
less_is : (a b : ℕ) → nat_cmp a b ≡ Less → a < b
less_is a b h = grind (arith, nat_tests)

above_rows : {X R : Type 0} (key : R → ℕ) (f : ℕ × X → R) → ((e : ℕ × X) → key (f e) ≡ e.0) → (e : ℕ × X) (es : List (ℕ × X)) → All (λ k. nat_cmp e.0 k ≡ Less) (keys_of es) → All (λ other. key (f e) < key other) (map f es)
above_rows key f is e [] above = All-nil (λ other. key (f e) < key other)
above_rows key f is e (y ∷ ys) above =
    let less = less_is e.0 y.0 (All-head (λ k. nat_cmp e.0 k ≡ Less) y.0 (keys_of ys) above) in
    let here = is e in
    let there = is y in
    All-cons (λ other. key (f e) < key other) (f y) (map f ys) (omega (arith, less, here, there)) (above_rows key f is e ys (All-tail (λ k. nat_cmp e.0 k ≡ Less) y.0 (keys_of ys) above))

pub told_in_order : {X R : Type 0} (key : R → ℕ) (f : ℕ × X → R) → ((e : ℕ × X) → key (f e) ≡ e.0) → (es : List (ℕ × X)) → IsStrictlySortedBy nat_cmp (keys_of es) → IsAscendingBy key (map f es)
told_in_order key f is [] sorted = tt
told_in_order key f is (e ∷ es) sorted = (
  above_rows key f is e es (All-from_recursion (λ k. nat_cmp e.0 k ≡ Less) (keys_of es) (sorted_head nat_cmp e.0 (keys_of es) sorted)),
  told_in_order key f is es (sorted_tail nat_cmp e.0 (keys_of es) sorted),
)

-- the balance rows of a machine
balance_told : (found : Option Account) (row : Option BalanceRow) (id : ℕ) → (found ≡ None → row ≡ None) → ((r : BalanceRow) → row ≡ Some r → r.account ≡ id) → option_map (λ (a : AccountWithBalances). record { account = id; balances = a.balances }) (account_from found row) ≡ row
balance_told None row id none key = sym (none refl)
balance_told (Some a) None id none key = refl
balance_told (Some a) (Some r) id none key = λ i. Some (record { account = sym (key r refl) i; balances = r.balances })

pub balances_told : (m : Machine) (r : Running) (id : ℕ) → IsRunning m r → option_map (λ (a : AccountWithBalances). record { account = id; balances = a.balances }) (lookup (is_at (nat_cmp id)) r.accounts.entries) ≡ balance_with id (balance_rows m)
unfolding rows_for
balances_told m r id is =
    let row = balance_with id (balance_rows m) in
    ap (option_map (λ (a : AccountWithBalances). record { account = id; balances = a.balances })) (is.agrees.accounts id)
    ∙ balance_told (account_with id m.accounts) row id (none_mapped (λ (a : Account). a.id) (λ (x : BalanceRow). x.account) (balance_row m) (λ a. refl) id m.accounts) (λ r found. found_key (λ (x : BalanceRow). x.account) id (balance_rows m) r found)

-- and the status rows
status_told : (row : Option StatusRow) (id : ℕ) → ((r : StatusRow) → row ≡ Some r → r.transfer ≡ id) → option_map (λ (r : StatusRow). record r { transfer = id }) row ≡ row
status_told None id key = refl
status_told (Some r) id key = λ i. Some (record r { transfer = sym (key r refl) i })

pub statuses_told : (rows : List StatusRow) (s : Statuses) (id : ℕ) → HoldsStatuses rows s → option_map (λ (r : StatusRow). record r { transfer = id }) (lookup (is_at (nat_cmp id)) s.rows.entries) ≡ status_with id rows
statuses_told rows s id holds = ap (option_map (λ (r : StatusRow). record r { transfer = id })) (holds.found id) ∙ status_told (status_with id rows) id (λ r found. found_key (λ (x : StatusRow). x.transfer) id rows r found)

-- both are told apart by their keys
pub balances_apart : (m : Machine) → IsValid m → AreDistinct (λ (row : BalanceRow). row.account) (balance_rows m)
balances_apart m valid = apart_mapped (λ (a : Account). a.id) (λ (row : BalanceRow). row.account) (balance_row m) (λ a. refl) m.accounts (sound m valid).accounts

pub states_apart : (m : Machine) → IsValid m → AreDistinct (λ (row : StatusRow). row.transfer) (status_rows m)
states_apart m valid =
    apart_mapped (λ (t : Transfer). t.id) (λ (row : StatusRow). row.transfer) (status_row m) (λ t. refl) (filter (λ t. is_pending t.flags) m.transfers)
    (apart_filtered (λ (t : Transfer). t.id) (λ t. is_pending t.flags) m.transfers (sound m valid).transfers)

-- what holds of the rows that a call makes, if it makes them
pub told_ok : {V E R : Type 0} (made : Result V E) (items : V → List R) (rows : List R) (Q : List R → Type 0) → IfOk made (λ v. items v ≡ rows) → Q rows → IfOk made (λ v. Q (items v))
told_ok (Ok v) items rows Q is holds = subst Q (sym is) holds
told_ok (Err e) items rows Q is holds = is
