-- What one more entry, or a change, makes of what the maps hold.
use Rattle.std.proofs.Common.{◌≡◌, ℕ, Bool, true, false, eqb, cond, List, [], ◌∷◌, ◌++◌, Option, Some, None, refl, sym, ap, ap₂, ◌∙◌, subst, arith, Bor, IfSome}
use Rattle.std.specs.Option.{option_map, option_copied}
use Rattle.std.specs.BTreeMap as tree
use Rattle.std.specs.Ordering.{nat_cmp}
use Rattle.std.specs.BTreeMap.{is_at}
use Rattle.std.proofs.lemmas.Bool.Decides.{nat_tests}
use Rattle.std.proofs.lemmas.Bool.{eqb-true}
use Rattle.records.specs.declared.account.Account.{Account}
use Rattle.records.specs.declared.balances.Balances.{Balances}
use Rattle.records.specs.declared.facts.AccountWithBalances.{AccountWithBalances}
use Rattle.records.specs.FirstOf.{or_else}
use Rattle.records.specs.Machine.{account_with}
use Rattle.rows.specs.declared.balance_row.BalanceRow.{BalanceRow}
use Rattle.rows.specs.SameRows.{account_from}
use Rattle.rows.specs.Changes.{set_balances, new_balance, no_balances}
use Rattle.running.specs.Holds.{HoldsAccounts, balance_with}
use Rattle.running.proofs.KeyedRows.{found_push, found_changed}
use Rattle.rows.specs.Keyed.{row_with, changed}

-- whether the order finds two numbers equal
pub at_number : (a b : ℕ) → is_at (nat_cmp a) b ≡ eqb a b
at_number a b = grind (arith, nat_tests)

pub flip : (a b : ℕ) → eqb a b ≡ eqb b a
flip a b = grind (arith, nat_tests)

-- one more where none was
push_at : {A : Type 0} (here : Bool) (x : A) (found : Option A) → (here ≡ true → found ≡ None) → cond here (Some x) found ≡ or_else found (cond here (Some x) None)
push_at true x found none = ap (λ o. or_else o (Some x)) (sym (none refl))
push_at false x None none = refl
push_at false x (Some y) none = refl

pub held_push : {A : Type 0} (key : A → ℕ) (xs : List A) (y : A) (old new : tree.BTreeMap ℕ A) → ((q : ℕ) → tree.get nat_cmp old q ≡ row_with key q xs) → row_with key (key y) xs ≡ None → ((q : ℕ) → tree.get nat_cmp new q ≡ cond (is_at (nat_cmp (key y)) q) (Some y) (tree.get nat_cmp old q)) → (q : ℕ) → tree.get nat_cmp new q ≡ row_with key q (xs ++ y ∷ [])
held_push {A} key xs y old new holds none is q =
    is q ∙ ap₂ (λ (b : Bool) (o : Option A). cond b (Some y) o) (at_number (key y) q) (holds q)
    ∙ push_at (eqb (key y) q) y (row_with key q xs) (λ same. subst (λ (k : ℕ). row_with key k xs ≡ None) (eqb-true (key y) q same) none)
    ∙ sym (found_push key q xs y)

-- one changed
set_some : {A : Type 0} (there : Bool) (change : A → A) (x : A) (found : Option A) → (there ≡ true → found ≡ Some x) → cond there (Some (change x)) found ≡ cond there (option_map change found) found
set_some true change x found is = ap (option_map change) (sym (is refl))
set_some false change x found is = refl

pub held_changed : {A : Type 0} (key : A → ℕ) (change : A → A) → ((x : A) → key (change x) ≡ key x) → (k : ℕ) (xs : List A) (x : A) (old new : tree.BTreeMap ℕ A) → ((q : ℕ) → tree.get nat_cmp old q ≡ row_with key q xs) → row_with key k xs ≡ Some x → ((q : ℕ) → tree.get nat_cmp new q ≡ cond (is_at (nat_cmp k) q) (Some (change x)) (tree.get nat_cmp old q)) → (q : ℕ) → tree.get nat_cmp new q ≡ row_with key q (changed key k change xs)
held_changed {A} key change keeps k xs x old new holds found is q =
    is q ∙ ap₂ (λ (b : Bool) (o : Option A). cond b (Some (change x)) o) (at_number k q ∙ flip k q) (holds q)
    ∙ set_some (eqb q k) change x (row_with key q xs) (λ same. subst (λ (n : ℕ). row_with key n xs ≡ Some x) (sym (eqb-true q k same)) found)
    ∙ sym (found_changed key change keeps k q xs)

account_push : (here : Bool) (a : Account) (found : Option Account) (row : Option BalanceRow) → (here ≡ true → (found ≡ None) × (row ≡ None)) → cond here (Some (record { account = a; balances = no_balances })) (account_from found row) ≡ account_from (or_else found (cond here (Some a) None)) (or_else row (cond here (Some (new_balance a)) None))
account_push true a found row none = sym (ap₂ (λ (x : Option Account) (y : Option BalanceRow). account_from (or_else x (Some a)) (or_else y (Some (new_balance a)))) (none refl).0 (none refl).1)
account_push false a None None none = refl
account_push false a None (Some row) none = refl
account_push false a (Some x) None none = refl
account_push false a (Some x) (Some row) none = refl

pub accounts_push : (accounts : List Account) (balances : List BalanceRow) (a : Account) (old new : tree.BTreeMap ℕ AccountWithBalances) → HoldsAccounts accounts balances old → account_with a.id accounts ≡ None → balance_with a.id balances ≡ None → ((q : ℕ) → tree.get nat_cmp new q ≡ cond (is_at (nat_cmp a.id) q) (Some (record { account = a; balances = no_balances })) (tree.get nat_cmp old q)) → HoldsAccounts (accounts ++ a ∷ []) (balances ++ new_balance a ∷ []) new
accounts_push accounts balances a old new holds no_account no_balance is q =
    let opened : AccountWithBalances = record { account = a; balances = no_balances } in
    is q ∙ ap₂ (λ (b : Bool) (o : Option AccountWithBalances). cond b (Some opened) o) (at_number a.id q) (holds q)
    ∙ account_push (eqb a.id q) a (account_with q accounts) (balance_with q balances) (λ same.
    let id = eqb-true a.id q same in
    (subst (λ (k : ℕ). account_with k accounts ≡ None) id no_account, subst (λ (k : ℕ). balance_with k balances ≡ None) id no_balance))
    ∙ sym (ap₂ account_from (found_push (λ (x : Account). x.id) q accounts a) (found_push (λ (x : BalanceRow). x.account) q balances (new_balance a)))

-- other balances
set_found : (account : Option Account) (row : Option BalanceRow) (b : Balances) → account_from account (option_map (λ (r : BalanceRow). record r { balances = b }) row) ≡ option_map (λ (a : AccountWithBalances). record a { balances = b }) (account_from account row)
set_found None row b = refl
set_found (Some a) None b = refl
set_found (Some a) (Some row) b = refl

set_where : (there : Bool) (account : Option Account) (row : Option BalanceRow) (b : Balances) → account_from account (cond there (option_map (λ (r : BalanceRow). record r { balances = b }) row) row) ≡ cond there (option_map (λ (a : AccountWithBalances). record a { balances = b }) (account_from account row)) (account_from account row)
set_where true account row b = set_found account row b
set_where false account row b = refl

set_at : (accounts : List Account) (rows : List BalanceRow) (id : ℕ) (b : Balances) (q : ℕ) → account_from (account_with q accounts) (balance_with q (set_balances id b rows)) ≡ cond (eqb q id) (option_map (λ (a : AccountWithBalances). record a { balances = b }) (account_from (account_with q accounts) (balance_with q rows))) (account_from (account_with q accounts) (balance_with q rows))
set_at accounts rows id b q =
    ap (account_from (account_with q accounts)) (found_changed (λ (r : BalanceRow). r.account) (λ (r : BalanceRow). record r { balances = b }) (λ r. refl) id q rows)
    ∙ set_where (eqb q id) (account_with q accounts) (balance_with q rows) b

set_none : (there : Bool) (found : Option AccountWithBalances) (b : Balances) → (there ≡ true → found ≡ None) → cond there (option_map (λ (a : AccountWithBalances). record a { balances = b }) found) found ≡ found
set_none true found b none = ap (option_map (λ (a : AccountWithBalances). record a { balances = b })) (none refl) ∙ sym (none refl)
set_none false found b none = refl

pub accounts_set_none : (accounts : List Account) (rows : List BalanceRow) (id : ℕ) (b : Balances) (map : tree.BTreeMap ℕ AccountWithBalances) → HoldsAccounts accounts rows map → tree.get nat_cmp map id ≡ None → HoldsAccounts accounts (set_balances id b rows) map
accounts_set_none accounts rows id b map holds none q =
    let found = account_from (account_with q accounts) (balance_with q rows) in
    holds q ∙ sym (set_at accounts rows id b q ∙ set_none (eqb q id) found b (λ same. sym (holds q) ∙ subst (λ (k : ℕ). tree.get nat_cmp map k ≡ None) (sym (eqb-true q id same)) none))

pub accounts_set : (accounts : List Account) (rows : List BalanceRow) (id : ℕ) (b : Balances) (a : AccountWithBalances) (old new : tree.BTreeMap ℕ AccountWithBalances) → HoldsAccounts accounts rows old → tree.get nat_cmp old id ≡ Some a → ((q : ℕ) → tree.get nat_cmp new q ≡ cond (is_at (nat_cmp id) q) (Some (record a { balances = b })) (tree.get nat_cmp old q)) → HoldsAccounts accounts (set_balances id b rows) new
accounts_set accounts rows id b a old new holds found is q =
    is q ∙ ap₂ (λ (c : Bool) (o : Option AccountWithBalances). cond c (Some (record a { balances = b })) o) (at_number id q ∙ flip id q) (holds q)
    ∙ set_some (eqb q id) (λ (x : AccountWithBalances). record x { balances = b }) a (account_from (account_with q accounts) (balance_with q rows)) (λ same. sym (holds q) ∙ subst (λ (k : ℕ). tree.get nat_cmp old k ≡ Some a) (sym (eqb-true q id same)) found)
    ∙ sym (set_at accounts rows id b q)

-- what is behind a reference
pub some_copied : {X : Type 0} (P : X → Type 0) (o : Option (Bor X)) → IfSome o (λ x. P x.now) → IfSome (option_copied o) P
some_copied P None h = h
some_copied P (Some x) h = h
