-- Rows that were met one by one are all the rows that are there.
use Rattle.std.proofs.Common.{◌≡◌, ◌≢◌, ◌<◌, ◌≤◌, ◌+◌, ℕ, zero, suc, Bool, true, false, List, [], ◌∷◌, ◌++◌, map, length, get_or, slice_get, Option, Some, None, IfSome, refl, sym, ap, ◌∙◌, subst, arith, IsPermutation}
use Rattle.std.specs.Bool.{OnTrue}
use Rattle.std.specs.List.{All}
use Rattle.std.specs.Option.{is_some}
use Rattle.std.proofs.lemmas.Bool.{both_ways}
use Rattle.std.proofs.lemmas.List.{length-append, map-append}
use Rattle.std.proofs.lemmas.List.Elements.{All-nil, All-cons, All-head, All-tail, All-weaker, All-push}
use Rattle.std.proofs.lemmas.List.Sorted.{IsPermutation-refl, IsPermutation-trans, IsPermutation-cons, IsPermutation-middle, IsPermutation-sym}
use Rattle.records.specs.Machine.{Machine}
use Rattle.rows.specs.declared.history_row.HistoryRow.{HistoryRow}
use Rattle.rows.specs.declared.history_cells.HistoryCells.{HistoryCells}
use Rattle.rows.specs.Cells.{history_cells}
use Rattle.rows.specs.Prescribed.{rows_for, history_rows}
use Rattle.rows.specs.Tables.{HasDistinctKeys, IsAscendingBy, history_key}
use Rattle.rows.specs.TypedRows.{FileRows}
use Rattle.rows.specs.Widths.{IsStorableHistory}
use Rattle.audit.specs.declared.meeting.Meeting.{Meeting}
use Rattle.audit.specs.Laws.{OneOrder}
use Rattle.audit.specs.Meeting.{AreAscending, IsAmong, IsToldOf, Met}
use Rattle.audit.specs.Order.{in_order}
use Rattle.audit.proofs.DerivedRows.{ascending_is_sorted, has_derived}
use Rattle.audit.proofs.ShapedRows.{as_long, there}
use Rattle.audit.proofs.InOrderLemmas.{in_order_same, in_order_up, first_alone, rest_alone}

-- the rows around one that stands there
record Around {A : Type 0} (values : List A) (x : A) : Type 0 where
  front : List A
  back : List A
  is : values ≡ front ++ x ∷ back

around : {A : Type 0} (values : List A) (place : ℕ) (x : A) → slice_get values place ≡ Some x → Around values x
around [] place x at = absurd cc
around (v ∷ vs) zero x at = record { front = []; back = vs; is = ap (λ y. y ∷ vs) (inner v x at) }
  where
    inner : {A : Type 0} (v x : A) → Some v ≡ Some x → v ≡ x
    inner v x at = cc
around (v ∷ vs) (suc place) x at =
    let rest = around vs place x at in
    record { front = v ∷ rest.front; back = rest.back; is = ap (λ ys. v ∷ ys) rest.is }

-- another one stands there without it too
without : {A : Type 0} (front back : List A) (x y : A) (place : ℕ) → x ≢ y → slice_get (front ++ x ∷ back) place ≡ Some y → (other : ℕ) × (slice_get (front ++ back) other ≡ Some y)
without [] back x y zero apart at = absurd (apart cc)
without [] back x y (suc place) apart at = (place, at)
without (f ∷ fs) back x y zero apart at = (zero, at)
without (f ∷ fs) back x y (suc place) apart at = let rest = without fs back x y place apart at in (suc rest.0, rest.1)

-- as many, each of them there, and told apart by their keys: so they are all
abbrev Stands : {A : Type 0} → List A → A → Type 0
Stands values x = (place : ℕ) × (slice_get values place ≡ Some x)

others : {A : Type 0} (key : A → ℕ) (front back : List A) (x : A) (xs : List A) → All (λ y. key y ≢ key x) xs → All (Stands (front ++ x ∷ back)) xs → All (Stands (front ++ back)) xs
others key front back x [] apart met = All-nil (Stands (front ++ back))
others {A} key front back x (y ∷ ys) apart met =
    let here = All-head (Stands (front ++ x ∷ back)) y ys met in
    All-cons (Stands (front ++ back)) y ys
    (without front back x y here.0 (λ same. All-head (λ (z : A). key z ≢ key x) y ys apart (ap key (sym same))) here.1)
    (others key front back x ys (All-tail (λ (z : A). key z ≢ key x) y ys apart) (All-tail (Stands (front ++ x ∷ back)) y ys met))

pub pigeons : {A : Type 0} (key : A → ℕ) (told values : List A) → HasDistinctKeys key told → All (Stands values) told → length told ≡ length values → IsPermutation told values
pigeons key [] [] once met many = IsPermutation-refl []
pigeons key [] (v ∷ vs) once met many = absurd (omega (arith, many))
pigeons {A} key (x ∷ xs) values once met many =
    let here = All-head (Stands values) x xs met in
    let a = around values here.0 x here.1 in
    let rest = others key a.front a.back x xs (first_alone key x xs once) (subst (λ (ys : List A). All (Stands ys) xs) a.is (All-tail (Stands values) x xs met)) in
    let long : length values ≡ length a.front + suc (length a.back) = ap length a.is ∙ length-append a.front (x ∷ a.back) in
    let short = length-append a.front a.back in
    let all : suc (length xs) ≡ length values = many in
    let same = pigeons key xs (a.front ++ a.back) (rest_alone key x xs once) rest (omega (arith, all, long, short)) in
    subst (IsPermutation (x ∷ xs)) (sym a.is)
    (IsPermutation-trans (x ∷ xs) (x ∷ a.front ++ a.back) (a.front ++ x ∷ a.back) (IsPermutation-cons x xs (a.front ++ a.back) same)
    (IsPermutation-sym (a.front ++ x ∷ a.back) (x ∷ a.front ++ a.back) (IsPermutation-middle a.front x a.back)))

-- so a meeting that found none strange and has none left has met its rows
pub all_met : OneOrder HistoryRow → (first meeting : Meeting) (told : List HistoryRow) → Met first meeting told → HasDistinctKeys history_key told → meeting.strange ≡ false → meeting.left ≡ 0 → AreAscending meeting.rows.now → first.rows.now ≡ map history_cells (in_order history_key told)
all_met one first meeting told met once none left up =
    let values = up.0 in
    let among = met.among none values up.1 up.2 in
    let many : length told ≡ length values = let c = among.counted in omega (arith, c, left) in
    let same = pigeons history_key told values once among.there many in
    let ordered : in_order history_key told ≡ values =
    one history_key (in_order history_key told) values (in_order_up history_key told once)
    (IsPermutation-trans (in_order history_key told) told values (IsPermutation-sym told (in_order history_key told) (in_order_same history_key told)) same)
    (ascending_is_sorted history_key values up.3) in
    sym met.same ∙ sym up.2 ∙ ap (map history_cells) (sym ordered)

-- one row more is met
pub met_more : (first old new : Meeting) (told : List HistoryRow) (row : HistoryRow) → Met first old told → new.rows.now ≡ old.rows.now → new.strange ≡ old.strange → new.left + 1 ≡ old.left → ((values : List HistoryRow) → All IsStorableHistory values → map history_cells values ≡ old.rows.now → IsAmong values row) → Met first new (told ++ row ∷ [])
met_more first old new told row met rows strange left stands = record {
  same = rows ∙ met.same;
  among = λ none values fit cells.
      let a = met.among (sym strange ∙ none) values fit (cells ∙ rows) in
      let long = length-append told (row ∷ []) in
      let c = a.counted in
      record {
        there = All-push (IsAmong values) told row a.there (stands values fit (cells ∙ rows));
        counted = omega (arith, long, left, c);
      };
}

-- the greatest key so far
abbrev pub IsTop : List HistoryRow → Option HistoryRow → Type 0
IsTop values None = values ≡ []
IsTop values (Some before) = IsStorableHistory before × All (λ (row : HistoryRow). history_key row ≤ history_key before) values

-- rows that were read, and the last of them
pub record HasRead (rows : List HistoryCells) (before : Option HistoryRow) : Type 0 where
  pub values : List HistoryRow
  pub fit : All IsStorableHistory values
  pub cells : map history_cells values ≡ rows
  pub up : IsAscendingBy history_key values
  pub top : IsTop values before

below_next : (values : List HistoryRow) (before : Option HistoryRow) (row : HistoryRow) → IsTop values before → IfSome before (λ (other : HistoryRow). IsStorableHistory other → history_key other < history_key row) → All (λ (x : HistoryRow). history_key x < history_key row) values
below_next values None row top above = subst (All (λ (x : HistoryRow). history_key x < history_key row)) (sym top) (All-nil (λ (x : HistoryRow). history_key x < history_key row))
below_next values (Some b) row top above =
    let less = above top.0 in
    All-weaker (λ (x : HistoryRow). history_key x ≤ history_key b) (λ (x : HistoryRow). history_key x < history_key row) (λ x le. below (history_key x) (history_key b) (history_key row) le less) values top.1
  where
    below : (a b c : ℕ) → a ≤ b → b < c → a < c
    below a b c le less = omega (arith, le, less)

up_more : (xs : List HistoryRow) (y : HistoryRow) → IsAscendingBy history_key xs → All (λ (x : HistoryRow). history_key x < history_key y) xs → IsAscendingBy history_key (xs ++ y ∷ [])
up_more [] y up below = (All-nil (λ (x : HistoryRow). history_key y < history_key x), tt)
up_more (x ∷ xs) y up below =
    let P = λ (z : HistoryRow). history_key z < history_key y in
    (All-push (λ (z : HistoryRow). history_key x < history_key z) xs y up.0 (All-head P x xs below), up_more xs y up.1 (All-tail P x xs below))

pub read_more : (rows : List HistoryCells) (before : Option HistoryRow) (row : HistoryRow) (cells : HistoryCells) → HasRead rows before → cells ≡ history_cells row → IsStorableHistory row → IfSome before (λ (other : HistoryRow). IsStorableHistory other → history_key other < history_key row) → HasRead (rows ++ cells ∷ []) (Some row)
read_more rows before row cells h is fits above =
    let below = below_next h.values before row h.top above in
    record {
      values = h.values ++ row ∷ [];
      fit = All-push IsStorableHistory h.values row h.fit fits;
      cells = map-append history_cells h.values (row ∷ []) ∙ (λ i. h.cells i ++ sym is i ∷ []);
      up = up_more h.values row h.up below;
      top = (fits, All-push (λ (x : HistoryRow). history_key x ≤ history_key row) h.values row (All-weaker (λ (x : HistoryRow). history_key x < history_key row) (λ (x : HistoryRow). history_key x ≤ history_key row) (λ x less. weaken (history_key x) (history_key row) less) h.values below) (itself (history_key row)));
    }
  where
    weaken : (a b : ℕ) → a < b → a ≤ b
    weaken a b less = omega (arith, less)

    itself : (a : ℕ) → a ≤ a
    itself a = omega arith

pub read_on : (rows : List HistoryCells) (before o : Option HistoryRow) (cells : HistoryCells) → HasRead rows before → is_some o ≡ true → IfSome o (λ (row : HistoryRow). cells ≡ history_cells row) → IfSome o IsStorableHistory → IfSome o (λ (row : HistoryRow). IfSome before (λ (other : HistoryRow). IsStorableHistory other → history_key other < history_key row)) → HasRead (rows ++ cells ∷ []) o
read_on rows before None cells h some is fits above = absurd (both_ways false refl some)
read_on rows before (Some row) cells h some is fits above = read_more rows before row cells h is fits above

pub ascending : (rows : List HistoryCells) (before : Option HistoryRow) → HasRead rows before → AreAscending rows
ascending rows before h = (h.values, h.fit, h.cells, h.up)

-- a row that stands at a place of the file's rows is among their values
among_values : (rows : List HistoryCells) (place : ℕ) (cells : HistoryCells) (row : HistoryRow) → place < length rows → cells ≡ get_or rows place cells → ((value : HistoryRow) → IsStorableHistory value → cells ≡ history_cells value → value ≡ row) → (values : List HistoryRow) → All IsStorableHistory values → map history_cells values ≡ rows → IsAmong values row
among_values rows place cells row within at only values fit same =
    let short = subst (λ (n : ℕ). place < n) (as_long history_cells values rows same) within in
    let found = there history_cells IsStorableHistory values rows place cells fit same at short in
    (place, found.1 ∙ ap Some (only found.0 found.2 found.3))

pub among_if : (b : Bool) (rows : List HistoryCells) (place : ℕ) (cells : HistoryCells) (row : HistoryRow) → place < length rows → cells ≡ get_or rows place cells → OnTrue b ((value : HistoryRow) → IsStorableHistory value → cells ≡ history_cells value → value ≡ row) → OnTrue b ((values : List HistoryRow) → All IsStorableHistory values → map history_cells values ≡ rows → IsAmong values row)
among_if true rows place cells row within at only = among_values rows place cells row within at only
among_if false rows place cells row within at only = tt

-- what a meeting has that is whole
abbrev pub HasAll : Meeting → Type 0
HasAll meeting =
    (first : Meeting) (told : List HistoryRow) →
    Met first meeting told → HasDistinctKeys history_key told →
    first.rows.now ≡ map history_cells (in_order history_key told)

pub whole_if : OneOrder HistoryRow → (b : Bool) (meeting : Meeting) → meeting.strange ≡ false → meeting.left ≡ 0 → OnTrue b (AreAscending meeting.rows.now) → OnTrue b (HasAll meeting)
whole_if one true meeting none left up = λ first told met once. all_met one first meeting told met once none left up
whole_if one false meeting none left up = tt

-- it has the rows that a machine prescribes, in a version that has them
pub met_if : (b : Bool) (version : ℕ) (meeting : Meeting) → 2 ≤ version → OnTrue b (HasAll meeting) → OnTrue b ((m : Machine) (rows : FileRows) → HasDistinctKeys history_key (history_rows m) → IsToldOf rows m meeting → rows.history ≡ map history_cells (in_order history_key (rows_for version m).history))
met_if true version meeting has all =
    λ m rows once told.
    sym told.1 ∙ all told.0 (history_rows m) told.2 once ∙ ap (λ (xs : List HistoryRow). map history_cells (in_order history_key xs)) (sym (has_derived version m has).history)
met_if false version meeting has all = tt
