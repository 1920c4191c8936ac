-- Balances that are kept, and the rows with them.
use Rattle.std.proofs.Common.{◌≡◌, ℕ, suc, zero, ◌+◌, ◌<◌, Bool, true, false, not, eqb, ltb, cond, List, [], ◌∷◌, ◌++◌, length, Option, Some, None, option_map, refl, sym, ap, ap₂, ◌∙◌, arith}
use Rattle.std.proofs.Math.Seq.{take-append_seam}
use Rattle.std.specs.List.{position, position_or_len, refill}
use Rattle.std.specs.Prelude.{slice_set, take, drop}
use Rattle.std.specs.Option.{unwrap_or}
use Rattle.std.proofs.lemmas.Bool.{eqb-true}
use Rattle.std.proofs.lemmas.Bool.Decides.{Decides-eqb, nat_tests}
use Rattle.records.specs.declared.balances.Balances.{Balances}
use Rattle.records.specs.FirstOf.{or_else}
use Rattle.rows.specs.declared.balance_row.BalanceRow.{BalanceRow}
use Rattle.rows.specs.Changes.{set_balances}
use Rattle.rows.specs.Keyed.{row_with}
use Rattle.stored_tables.specs.declared.kept.KeptRow.{KeptRow}
use Rattle.stored_tables.specs.Kept.{Kept, kept_in, with_balances, row_with_kept, with_kept}
use Rattle.stored_tables.proofs.RowMoves.{found_key}

-- the row of an account
over_step : (here : Bool) (kept : Kept) (x : BalanceRow) (rest found : Option BalanceRow) → rest ≡ option_map (row_with_kept kept) found → cond here (Some (row_with_kept kept x)) rest ≡ option_map (row_with_kept kept) (cond here (Some x) found)
over_step true kept x rest found h = refl
over_step false kept x rest found h = h

pub found_over : (kept : Kept) (id : ℕ) (xs : List BalanceRow) → row_with (λ r. r.account) id (with_kept kept xs) ≡ option_map (row_with_kept kept) (row_with (λ r. r.account) id xs)
found_over kept id [] = refl
found_over kept id (x ∷ xs) = over_step (eqb x.account id) kept x (row_with (λ r. r.account) id (with_kept kept xs)) (row_with (λ r. r.account) id xs) (found_over kept id xs)

mapped : {A B : Type 0} (f : A → B) (o : Option A) (y : B) → option_map f o ≡ Some y → (x : A) × (o ≡ Some x) × (f x ≡ y)
mapped f None y is = absurd (cc)
mapped f (Some x) y is = (x, refl, let same : f x ≡ y = cc in same)

-- what is found with what is kept is a row of the account
pub record IsFoundOver (kept : Kept) (id : ℕ) (stored : List BalanceRow) (row : BalanceRow) : Type 0 where
  pub under : BalanceRow
  pub found : row_with (λ (r : BalanceRow). r.account) id stored ≡ Some under
  pub account : under.account ≡ id
  pub is : row_with_kept kept under ≡ row

pub look_under : (kept : Kept) (id : ℕ) (stored : List BalanceRow) (row : BalanceRow) → row_with (λ (r : BalanceRow). r.account) id (with_kept kept stored) ≡ Some row → IsFoundOver kept id stored row
look_under kept id stored row found =
    let it = mapped (row_with_kept kept) (row_with (λ (r : BalanceRow). r.account) id stored) row (sym (found_over kept id stored) ∙ found) in
    record { under = it.0; found = it.1; account = found_key (λ (r : BalanceRow). r.account) id stored it.0 it.1; is = it.2 }

-- one more is kept
push_end : (here : Bool) (y : KeptRow) → option_map (λ (r : KeptRow). r.balances) (cond here (Some y) None) ≡ cond here (Some y.balances) None
push_end true y = refl
push_end false y = refl

push_step : (here : Bool) (x : KeptRow) (rest found : Option KeptRow) (more : Option Balances) → option_map (λ (r : KeptRow). r.balances) rest ≡ or_else (option_map (λ (r : KeptRow). r.balances) found) more
    → option_map (λ (r : KeptRow). r.balances) (cond here (Some x) rest) ≡ or_else (option_map (λ (r : KeptRow). r.balances) (cond here (Some x) found)) more
push_step true x rest found more h = refl
push_step false x rest found more h = h

pub kept_push : (xs : List KeptRow) (y : KeptRow) (q : ℕ) → kept_in (xs ++ y ∷ []) q ≡ or_else (kept_in xs q) (cond (eqb y.account q) (Some y.balances) None)
kept_push [] y q = push_end (eqb y.account q) y
kept_push (x ∷ xs) y q = push_step (eqb x.account q) x (row_with (λ (r : KeptRow). r.account) q (xs ++ y ∷ [])) (row_with (λ (r : KeptRow). r.account) q xs) (cond (eqb y.account q) (Some y.balances) None) (kept_push xs y q)

-- where none was
none_step : (here : Bool) (x : KeptRow) (n l : ℕ) (found : Option KeptRow) → ltb (cond (not here) (1 + n) 0) (suc l) ≡ false → (ltb n l ≡ false → found ≡ None) → cond here (Some x) found ≡ None
none_step true x n l found not_in rest = absurd (grind (arith, nat_tests))
none_step false x n l found not_in rest = rest (grind (arith, nat_tests))

none_at : (k : ℕ) (xs : List KeptRow) → ltb (position_or_len (λ x. eqb x.account k) xs) (length xs) ≡ false → row_with (λ (r : KeptRow). r.account) k xs ≡ None
none_at k [] not_in = refl
none_at k (x ∷ xs) not_in = none_step (eqb x.account k) x (position_or_len (λ x. eqb x.account k) xs) (length xs) (row_with (λ (r : KeptRow). r.account) k xs) not_in (none_at k xs)

absent : (b : Bool) (n : ℕ) → cond b (Some n) None ≡ None → b ≡ false
absent true n is = absurd (cc)
absent false n is = refl

push_keeps : (here : Bool) (v : Balances) (found : Option Balances) → (here ≡ true → found ≡ None) → or_else found (cond here (Some v) None) ≡ cond here (Some v) found
push_keeps true v found none = ap (λ o. or_else o (Some v)) (none refl)
push_keeps false v None none = refl
push_keeps false v (Some w) none = refl

pub pushed : (xs : List KeptRow) (y : KeptRow) → position (λ x. eqb x.account y.account) xs ≡ None → (q : ℕ) → kept_in (xs ++ y ∷ []) q ≡ with_balances y.account y.balances (kept_in xs) q
pushed xs y none q =
    kept_push xs y q
    ∙ push_keeps (eqb y.account q) y.balances (kept_in xs q)
    (λ same. ap (λ k. kept_in xs k) (sym (eqb-true y.account q same)) ∙ ap (option_map (λ (r : KeptRow). r.balances)) (none_at y.account xs (absent (ltb (position_or_len (λ x. eqb x.account y.account) xs) (length xs)) (position_or_len (λ x. eqb x.account y.account) xs) none)))

-- one in place of another of its account
twice : {A : Type 0} (b : Bool) (u v r : A) → cond b u r ≡ cond b u (cond b v r)
twice true u v r = refl
twice false u v r = refl

swapped : {A : Type 0} (a b : Bool) (u v r : A) → (a ≡ true → b ≡ true → false ≡ true) → cond a u (cond b v r) ≡ cond b v (cond a u r)
swapped true true u v r apart = absurd (let e : false ≡ true = apart refl refl in cc)
swapped true false u v r apart = refl
swapped false b u v r apart = refl

set_step : (here : Bool) (x y : KeptRow) (xs : List KeptRow) (i n q : ℕ) → eqb x.account y.account ≡ here → i ≡ cond (not here) (1 + n) 0 → i < suc (length xs)
    → ((j : ℕ) → j ≡ n → j < length xs → row_with (λ (r : KeptRow). r.account) q (slice_set xs j y) ≡ cond (eqb y.account q) (Some y) (row_with (λ (r : KeptRow). r.account) q xs))
    → row_with (λ (r : KeptRow). r.account) q (slice_set (x ∷ xs) i y) ≡ cond (eqb y.account q) (Some y) (cond (eqb x.account q) (Some x) (row_with (λ (r : KeptRow). r.account) q xs))
set_step true x y xs zero n q is at lt rest =
    twice (eqb y.account q) (Some y) (Some x) (row_with (λ (r : KeptRow). r.account) q xs)
    ∙ ap (λ k. cond (eqb y.account q) (Some y) (cond (eqb k q) (Some x) (row_with (λ (r : KeptRow). r.account) q xs))) (sym (eqb-true x.account y.account is))
set_step true x y xs (suc i) n q is at lt rest = absurd (omega (arith, at))
set_step false x y xs zero n q is at lt rest = absurd (omega (arith, at))
set_step false x y xs (suc i) n q is at lt rest =
    ap (λ o. cond (eqb x.account q) (Some x) o) (rest i (omega (arith, at)) (omega (arith, lt)))
    ∙ swapped (eqb x.account q) (eqb y.account q) (Some x) (Some y) (row_with (λ (r : KeptRow). r.account) q xs)
    (λ a b. sym is ∙ (Decides-eqb x.account y.account).1 (eqb-true x.account q a ∙ sym (eqb-true y.account q b)))

set_found : (xs : List KeptRow) (i : ℕ) (y : KeptRow) (q : ℕ) → i ≡ position_or_len (λ x. eqb x.account y.account) xs → i < length xs → row_with (λ (r : KeptRow). r.account) q (slice_set xs i y) ≡ cond (eqb y.account q) (Some y) (row_with (λ (r : KeptRow). r.account) q xs)
set_found [] i y q at lt = absurd (omega (arith, lt))
set_found (x ∷ xs) i y q at lt = set_step (eqb x.account y.account) x y xs i (position_or_len (λ x. eqb x.account y.account) xs) q refl at lt (λ j is inside. set_found xs j y q is inside)

at_place : (b : Bool) (n i : ℕ) → cond b (Some n) None ≡ Some i → (b ≡ true) × (i ≡ n)
at_place true n i is = (refl, let e : n ≡ i = cc in sym e)
at_place false n i is = absurd (cc)

set_keeps : (here : Bool) (y : KeptRow) (found : Option KeptRow) → option_map (λ (r : KeptRow). r.balances) (cond here (Some y) found) ≡ cond here (Some y.balances) (option_map (λ (r : KeptRow). r.balances) found)
set_keeps true y found = refl
set_keeps false y found = refl

pub replaced : (xs : List KeptRow) (i : ℕ) (y : KeptRow) → position (λ x. eqb x.account y.account) xs ≡ Some i → (q : ℕ) → kept_in (slice_set xs i y) q ≡ with_balances y.account y.balances (kept_in xs) q
replaced xs i y some q =
    let n = position_or_len (λ x. eqb x.account y.account) xs in
    let at = at_place (ltb n (length xs)) n i some in
    ap (option_map (λ (r : KeptRow). r.balances)) (set_found xs i y q at.1 (grind (arith, nat_tests, at.0, at.1)))
    ∙ set_keeps (eqb y.account q) y (row_with (λ (r : KeptRow). r.account) q xs)

-- the rows with one account more
flip : (a b : ℕ) → eqb a b ≡ eqb b a
flip a b = grind (arith, nat_tests)

set_row : (here : Bool) (v : Balances) (o : Option Balances) (x : BalanceRow) → record x { balances = unwrap_or (cond here (Some v) o) x.balances } ≡ cond here (record (record x { balances = unwrap_or o x.balances }) { balances = v }) (record x { balances = unwrap_or o x.balances })
set_row true v o x = refl
set_row false v o x = refl

pub set_over : (k : ℕ) (v : Balances) (f g : Kept) → ((q : ℕ) → g q ≡ with_balances k v f q) → (xs : List BalanceRow) → with_kept g xs ≡ set_balances k v (with_kept f xs)
set_over k v f g is [] = refl
set_over k v f g is (x ∷ xs) =
    ap₂ ◌∷◌
    (ap (λ o. record x { balances = unwrap_or o x.balances }) (is x.account ∙ ap (λ b. cond b (Some v) (f x.account)) (flip k x.account)) ∙ set_row (eqb x.account k) v (f x.account) x)
    (set_over k v f g is xs)

-- one account's balances are written
two : (o : Option Balances) (v d : Balances) → unwrap_or o v ≡ unwrap_or (or_else o (Some v)) d
two None v d = refl
two (Some b) v d = refl

one : (o : Option Balances) (d : Balances) → unwrap_or o d ≡ unwrap_or (or_else o None) d
one None d = refl
one (Some b) d = refl

flush_row : (here : Bool) (v : Balances) (f : Kept) (x : BalanceRow) → row_with_kept f (cond here (record x { balances = v }) x) ≡ record x { balances = unwrap_or (or_else (f x.account) (cond here (Some v) None)) x.balances }
flush_row true v f x = ap (λ b. record x { balances = b }) (two (f x.account) v x.balances)
flush_row false v f x = ap (λ b. record x { balances = b }) (one (f x.account) x.balances)

pub flush_over : (e : KeptRow) (f g : Kept) → ((q : ℕ) → g q ≡ or_else (f q) (cond (eqb e.account q) (Some e.balances) None)) → (xs : List BalanceRow) → with_kept f (set_balances e.account e.balances xs) ≡ with_kept g xs
flush_over e f g is [] = refl
flush_over e f g is (x ∷ xs) =
    ap₂ ◌∷◌
    (flush_row (eqb x.account e.account) e.balances f x
    ∙ ap (λ o. record x { balances = unwrap_or o x.balances }) (sym (is x.account ∙ ap (λ b. or_else (f x.account) (cond b (Some e.balances) None)) (flip e.account x.account))))
    (flush_over e f g is xs)

-- nothing is kept
pub with_none : (xs : List BalanceRow) → with_kept (kept_in []) xs ≡ xs
with_none [] = refl
with_none (x ∷ xs) = ap (λ ys. x ∷ ys) (with_none xs)

-- a list that is written back whole is what was written
pub refilled : {A : Type 0} (n : ℕ) (xs ws : List A) → n ≡ length xs → length ws ≡ length xs → refill n xs ws ≡ ws
refilled n xs ws many same = ap (λ k. take k (ws ++ drop (length ws) xs)) (many ∙ sym same) ∙ take-append_seam ws (drop (length ws) xs)
