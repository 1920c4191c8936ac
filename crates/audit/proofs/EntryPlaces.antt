-- Entries at their places, in the order of the rows and in order of time.
use Rattle.std.proofs.Common.{◌≡◌, ◌<◌, false, is_lt, drop, ◌+◌, ℕ, zero, suc, List, [], ◌∷◌, ◌++◌, map, length, get_or, slice_get, Option, Some, None, unwrap_or, IfSome, IsSome, refl, sym, ap, ap₂, ◌∙◌, subst, arith, zero-add}
use Rattle.std.specs.List.{All, enumerate_from}
use Rattle.std.specs.List.Sorted.{IsPermutation, IsSortedByKey}
use Rattle.std.specs.Option.{option_map}
use Rattle.std.specs.Ordering.{nat_cmp}
use Rattle.std.proofs.lemmas.List.{map-append, get_or-map, length-map}
use Rattle.std.proofs.lemmas.List.Elements.{All-nil, All-cons, All-head, All-tail, All-append}
use Rattle.std.proofs.lemmas.Option.{slice_get-map, slice_get_within}
use Rattle.std.proofs.lemmas.List.Sorted.{All-permutation, IsPermutation-map, IsPermutation-sym, IsPermutation-trans, length_permutation}
use Rattle.running.specs.declared.entry.Entry.{Entry}
use Rattle.running.specs.declared.entry.Entry.TheVariants.{Opened, Moved}
use Rattle.running.specs.Entries.{time_of}
use Rattle.rows.specs.TypedRows.{TypedRows}
use Rattle.audit.specs.declared.entries.EntryPlace.{EntryPlace}
use Rattle.audit.specs.declared.entries.RowPlace.{RowPlace}
use Rattle.audit.specs.declared.entries.RowPlace.TheVariants.{Account, Transfer}
use Rattle.audit.specs.declared.told.Told.{Told}
use Rattle.audit.specs.Held.{Holds, entry_at, IsTimed, places_of, ArePlacesOf}
use Rattle.audit.specs.Laws.{OneOrder}
use Rattle.audit.specs.Order.{in_order}
use Rattle.audit.specs.Table.{IsBadTime}
use Rattle.audit.specs.Told.{account_times, transfer_times, entries_told}
use Rattle.audit.proofs.EntriesApart.{entries_apart}
use Rattle.audit.proofs.InOrderLemmas.{in_order_same, in_order_up}

-- the rows of a table from a place on stand there
from_place : {A : Type 0} (make : A → Entry) (stamp : A → ℕ) → ((a : A) → stamp a ≡ time_of (make a)) → (typed : TypedRows) (row : ℕ → RowPlace) (rows : List A) (n : ℕ) → ((k : ℕ) → entry_at typed (row (n + k)) ≡ option_map make (slice_get rows k)) → ArePlacesOf typed (map make rows) (map (λ it. record { time = it.1; row = row it.0 }) (enumerate_from n (map stamp rows)))
from_place make stamp stamped typed row [] n there = record { there = refl; timed = All-nil (IsTimed typed) }
from_place make stamp stamped typed row (a ∷ rows) n there =
    let none : n + 0 ≡ n = omega arith in
    let at : entry_at typed (row n) ≡ Some (make a) = subst (λ (i : ℕ). entry_at typed (row i) ≡ Some (make a)) none (there 0) in
    let rest = from_place make stamp stamped typed row rows (n + 1) (λ k.
    let next : n + suc k ≡ n + 1 + k = omega arith in subst (λ (i : ℕ). entry_at typed (row i) ≡ option_map make (slice_get rows k)) next (there (suc k))) in
    record {
      there = ap₂ (λ o os. o ∷ os) at rest.there;
      timed = All-cons (IsTimed typed) (record { time = stamp a; row = row n }) _ (subst (λ (o : Option Entry). IfSome o (λ e. stamp a ≡ time_of e)) (sym at) (stamped a)) rest.timed;
    }

-- those of all accounts, and then of all transfers
pub stored_places : (typed : TypedRows) (told : Told) (places : List EntryPlace) → Holds told typed → places ≡ places_of Account told.account_times.items ++ places_of Transfer told.transfer_times.items → ArePlacesOf typed (map Opened typed.accounts ++ map Moved typed.transfers) places
stored_places typed told places holds same =
    let f = λ (p : EntryPlace). entry_at typed p.row in
    let before = places_of Account (account_times typed) in
    let behind = places_of Transfer (transfer_times typed) in
    let accounts = from_place Opened (λ a. a.timestamp) (λ a. refl) typed Account typed.accounts 0 (λ k. ap (λ (i : ℕ). entry_at typed (Account i)) (zero-add k)) in
    let transfers = from_place Moved (λ t. t.timestamp) (λ t. refl) typed Transfer typed.transfers 0 (λ k. ap (λ (i : ℕ). entry_at typed (Transfer i)) (zero-add k)) in
    subst (ArePlacesOf typed (map Opened typed.accounts ++ map Moved typed.transfers)) (sym (same ∙ ap₂ (λ xs ys. places_of Account xs ++ places_of Transfer ys) holds.accounts holds.transfers)) (record {
      there = map-append f before behind ∙ ap₂ ◌++◌ accounts.there transfers.there ∙ sym (map-append Some (map Opened typed.accounts) (map Moved typed.transfers));
      timed = All-append (IsTimed typed) before behind accounts.timed transfers.timed;
    })

-- the same places in another order are those of the same entries in another order
abbrev IsSomeEntry : Option Entry → Type 0
IsSomeEntry o = IsSome o

all_some : (es : List Entry) → All IsSomeEntry (map Some es)
all_some [] = All-nil IsSomeEntry
all_some (e ∷ es) = All-cons IsSomeEntry (Some e) (map Some es) refl (all_some es)

some_or : (d : Entry) (o : Option Entry) → IsSome o → o ≡ Some (unwrap_or o d)
some_or d None some = absurd cc
some_or d (Some e) some = refl

unwrapped : (d : Entry) (os : List (Option Entry)) → All IsSomeEntry os → os ≡ map Some (map (λ o. unwrap_or o d) os)
unwrapped d [] all = refl
unwrapped d (o ∷ os) all = ap₂ (λ x xs. x ∷ xs) (some_or d o (All-head IsSomeEntry o os all)) (unwrapped d os (All-tail IsSomeEntry o os all))

themselves : (d : Entry) (es : List Entry) → map (λ o. unwrap_or o d) (map Some es) ≡ es
themselves d [] = refl
themselves d (e ∷ es) = ap (λ xs. e ∷ xs) (themselves d es)

by_default : (d : Entry) (es : List Entry) (os : List (Option Entry)) → IsPermutation (map Some es) os → (fs : List Entry) × (os ≡ map Some fs) × IsPermutation es fs
by_default d es os same = (
  map (λ o. unwrap_or o d) os,
  unwrapped d os (All-permutation IsSomeEntry (map Some es) os same (all_some es)),
  subst (λ xs. IsPermutation xs (map (λ o. unwrap_or o d) os)) (themselves d es) (IsPermutation-map (λ o. unwrap_or o d) (map Some es) os same),
)

none_left : {A : Type 0} (xs : List A) → length xs ≡ 0 → xs ≡ []
none_left [] is = refl
none_left (x ∷ xs) is = absurd (omega (arith, is))

some_back : (es : List Entry) (os : List (Option Entry)) → IsPermutation (map Some es) os → (fs : List Entry) × (os ≡ map Some fs) × IsPermutation es fs
some_back [] os same = ([], none_left os (length_permutation [] os same), record { moves = []; below = tt; is = refl })
some_back (e ∷ es) os same = by_default e (e ∷ es) os same

-- their times are those of the entries
times_same : (typed : TypedRows) (es : List Entry) (ps : List EntryPlace) → ArePlacesOf typed es ps → map (λ (p : EntryPlace). p.time) ps ≡ map time_of es
times_same typed [] [] are = refl
times_same typed [] (p ∷ ps) are = absurd (let e = are.there in cc)
times_same typed (e ∷ es) [] are = absurd (let f = are.there in cc)
times_same typed (e ∷ es) (p ∷ ps) are =
    let at : entry_at typed p.row ≡ Some e = ap (λ (os : List (Option Entry)). get_or os 0 None) are.there in
    let rest : map (λ (q : EntryPlace). entry_at typed q.row) ps ≡ map Some es = ap (λ (os : List (Option Entry)). drop 1 os) are.there in
    let time = subst (λ (o : Option Entry). IfSome o (λ f. p.time ≡ time_of f)) at (All-head (IsTimed typed) p ps are.timed) in
    ap₂ (λ x xs. x ∷ xs) time (times_same typed es ps (record { there = rest; timed = All-tail (IsTimed typed) p ps are.timed }))

-- sorted by their times
sorted_as : {A B : Type 0} (f : A → ℕ) (g : B → ℕ) (xs : List A) (ys : List B) → map f xs ≡ map g ys → IsSortedByKey f nat_cmp xs → IsSortedByKey g nat_cmp ys
sorted_as f g [] ys same sorted k d low within = absurd (let long = ap length same ∙ length-map ys g in omega (arith, long, within))
sorted_as {A} {B} f g (x ∷ xs) ys same sorted k d low within =
    let all = x ∷ xs in
    let long : length ys ≡ length all = sym (length-map ys g) ∙ sym (ap length same) ∙ length-map all f in
    let at : (i : ℕ) → i < length ys → f (get_or all i x) ≡ g (get_or ys i d) =
    λ i less. sym (get_or-map f all i x 0 (omega (arith, less, long))) ∙ ap (λ ns. get_or ns i 0) same ∙ get_or-map g ys i d 0 less in
    subst (λ (n : ℕ). is_lt (nat_cmp n (g (get_or ys k d))) ≡ false) (at (k + 1) within)
    (subst (λ (n : ℕ). is_lt (nat_cmp (f (get_or all (k + 1) x)) n) ≡ false) (at k (omega (arith, within))) (sorted k x low (omega (arith, within, long))))

pub in_time : OneOrder Entry → (typed : TypedRows) (old new : List EntryPlace) → ((place : ℕ) → IsBadTime typed place → ⊥) → ArePlacesOf typed (map Opened typed.accounts ++ map Moved typed.transfers) old → IsPermutation old new → IsSortedByKey (λ (p : EntryPlace). p.time) nat_cmp new → ArePlacesOf typed (entries_told typed) new
in_time one typed old new good are same sorted =
    let stored = map Opened typed.accounts ++ map Moved typed.transfers in
    let f = λ (q : EntryPlace). entry_at typed q.row in
    let got = some_back stored (map f new) (subst (λ os. IsPermutation os (map f new)) are.there (IsPermutation-map f old new same)) in
    let here : ArePlacesOf typed got.0 new = record { there = got.1; timed = All-permutation (IsTimed typed) old new same are.timed } in
    let up = sorted_as (λ (q : EntryPlace). q.time) time_of new got.0 (times_same typed got.0 new here) sorted in
    let is = one time_of (in_order time_of stored) got.0 (in_order_up time_of stored (entries_apart typed good)) (IsPermutation-trans (in_order time_of stored) stored got.0 (IsPermutation-sym stored (in_order time_of stored) (in_order_same time_of stored)) got.2) up in
    subst (λ (es : List Entry). ArePlacesOf typed es new) (sym is) here

-- the entry at a place
inner : (o x : Option Entry) → Some x ≡ option_map Some o → x ≡ o
inner None x is = absurd cc
inner (Some e) x is = cc

pub at_place : (typed : TypedRows) (es : List Entry) (ps : List EntryPlace) (k : ℕ) (p : EntryPlace) → ArePlacesOf typed es ps → slice_get ps k ≡ Some p → entry_at typed p.row ≡ slice_get es k
at_place typed es ps k p are is =
    let f = λ (q : EntryPlace). entry_at typed q.row in
    inner (slice_get es k) (entry_at typed p.row) (sym (slice_get-map f ps k ∙ ap (option_map f) is) ∙ ap (λ (os : List (Option Entry)). slice_get os k) are.there ∙ slice_get-map Some es k)

pub as_many : (typed : TypedRows) (es : List Entry) (ps : List EntryPlace) → ArePlacesOf typed es ps → length ps ≡ length es
as_many typed es ps are = sym (length-map ps (λ (q : EntryPlace). entry_at typed q.row)) ∙ ap length are.there ∙ length-map es Some

pub is_there : {A : Type 0} (xs : List A) (k : ℕ) → k < length xs → IsSome (slice_get xs k)
is_there [] k within = absurd (omega (arith, within))
is_there (x ∷ xs) zero within = refl
is_there (x ∷ xs) (suc k) within = is_there xs k (omega (arith, within))

pub row_within : {A : Type 0} (make : A → Entry) (xs : List A) (k : ℕ) → IsSome (option_map make (slice_get xs k)) → k < length xs
row_within make [] k some = absurd cc
row_within make (x ∷ xs) zero some = omega arith
row_within make (x ∷ xs) (suc k) some = let less = row_within make xs k some in omega (arith, less)

-- and so the entry at the place that is read at one
pub some_at : (typed : TypedRows) (es : List Entry) (ps : List EntryPlace) (k : ℕ) (p : EntryPlace) → ArePlacesOf typed es ps → slice_get ps k ≡ Some p → IsSome (entry_at typed p.row)
some_at typed es ps k p are is =
    let within = slice_get_within ps k p is in
    subst (λ (o : Option Entry). IsSome o) (sym (at_place typed es ps k p are is)) (is_there es k (let long = as_many typed es ps are in omega (arith, within, long)))
