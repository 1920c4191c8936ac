-- Rows whose cells can be read have values.
use Rattle.std.proofs.Common.{◌≡◌, ◌<◌, ◌≤◌, ◌^◌, inl, inr, ℕ, zero, suc, ℤ, pos, List, [], ◌∷◌, map, length, get_or, slice_get, IsSomeAnd, Option, Some, None, refl, sym, ap, ap₂, ◌∙◌, subst, arith}
use Rattle.std.specs.List.{All}
use Rattle.std.specs.Option.{IfNone, option_map}
use Rattle.std.proofs.lemmas.List.Elements.{All-nil, All-cons, All-head, All-tail}
use Rattle.std.proofs.lemmas.Bool.Decides.{leb_tells}
use Rattle.std.proofs.lemmas.List.{length-map}
use Rattle.std.proofs.lemmas.Option.{same_Some, slice_get-map, slice_get-get_or, slice_get_past}
use Rattle.amount.specs.Column.{column_of}
use Rattle.rows.specs.declared.account_cells.AccountCells.{AccountCells}
use Rattle.rows.specs.declared.transfer_cells.TransferCells.{TransferCells}
use Rattle.rows.specs.Cells.{account_cells, transfer_cells}
use Rattle.rows.specs.TypedRows.{TypedRows, FileRows, cells_of}
use Rattle.rows.specs.Widths.{AreStorable, IsStorableAccount, IsStorableTransfer, IsStorableBalance, IsStorableStatus, IsStorableHistory}
use Rattle.audit.specs.declared.told.Told.{Told}
use Rattle.audit.specs.Held.{IsHeld}
use Rattle.audit.specs.Order.{HasValue, lesser_place}
use Rattle.audit.specs.Shapes.{IsAccountRow, IsTransferRow, AreShaped}

-- the values of rows that each have one
pub values_of : {V R : Type 0} (cells : V → R) (Fits : V → Type 0) (rows : List R) → All (HasValue cells Fits) rows → (values : List V) × All Fits values × (map cells values ≡ rows)
values_of cells Fits [] all = ([], All-nil Fits, refl)
values_of cells Fits (row ∷ rows) all =
    let here = All-head (HasValue cells Fits) row rows all in
    let rest = values_of cells Fits rows (All-tail (HasValue cells Fits) row rows all) in
    (here.0 ∷ rest.0, All-cons Fits here.0 rest.0 here.1 rest.1, ap₂ (λ x xs. x ∷ xs) (sym here.2) rest.2)

pub has_values : {V R : Type 0} (cells : V → R) (Fits : V → Type 0) (values : List V) → All Fits values → All (HasValue cells Fits) (map cells values)
has_values cells Fits [] all = All-nil (HasValue cells Fits)
has_values cells Fits (v ∷ vs) all =
    All-cons (HasValue cells Fits) (cells v) (map cells vs) (v, All-head Fits v vs all, refl) (has_values cells Fits vs (All-tail Fits v vs all))

-- the timestamps in their cells
same_pos : (a b : ℕ) → pos a ≡ pos b → a ≡ b
same_pos a b is = cc

pub same_times : {V R : Type 0} (cells : V → R) (stamp : R → ℤ) (time : V → ℕ) → ((v : V) → stamp (cells v) ≡ pos (time v)) → (times : List ℕ) (values : List V) → map pos times ≡ map stamp (map cells values) → times ≡ map time values
same_times cells stamp time is [] [] same = refl
same_times cells stamp time is [] (v ∷ vs) same = absurd cc
same_times cells stamp time is (t ∷ ts) [] same = absurd cc
same_times cells stamp time is (t ∷ ts) (v ∷ vs) same =
    let here : pos t ≡ stamp (cells v) = cc in
    let rest : map pos ts ≡ map stamp (map cells vs) = cc in
    ap₂ (λ x xs. x ∷ xs) (same_pos t (time v) (here ∙ is v)) (same_times cells stamp time is ts vs rest)

-- so what is read of them tells
pub held : (rows : FileRows) (told : Told) → AreShaped rows → rows.clocks ≡ pos told.clock ∷ [] → told.clock < 2 ^ 63 → map pos told.account_times.items ≡ map (λ (row : AccountCells). row.timestamp) rows.accounts → map pos told.transfer_times.items ≡ map (λ (row : TransferCells). row.timestamp) rows.transfers → All (λ (id : ℕ). id < 2 ^ 128) told.failed.items → map column_of told.failed.items ≡ rows.failed → IsHeld rows told
held rows told shaped clock fits account_times transfer_times all_fit failed =
    let accounts = values_of account_cells IsStorableAccount rows.accounts shaped.accounts in
    let transfers = values_of transfer_cells IsStorableTransfer rows.transfers shaped.transfers in
    let typed : TypedRows = record { clock = told.clock; accounts = accounts.0; transfers = transfers.0; balances = []; statuses = []; history = []; failed = told.failed.items } in (
      typed,
      record {
        fits = record { clock = fits; accounts = accounts.1; transfers = transfers.1; balances = All-nil IsStorableBalance; statuses = All-nil IsStorableStatus; history = All-nil IsStorableHistory; failed = all_fit };
        cells = λ i. record { clocks = sym clock i; accounts = accounts.2 i; transfers = transfers.2 i; balances = []; statuses = []; history = []; failed = failed i };
      },
      record {
        clock = refl;
        accounts = same_times account_cells (λ (row : AccountCells). row.timestamp) (λ a. a.timestamp) (λ v. refl) told.account_times.items accounts.0 (account_times ∙ ap (map (λ (row : AccountCells). row.timestamp)) (sym accounts.2));
        transfers = same_times transfer_cells (λ (row : TransferCells). row.timestamp) (λ t. t.timestamp) (λ v. refl) told.transfer_times.items transfers.0 (transfer_times ∙ ap (map (λ (row : TransferCells). row.timestamp)) (sym transfers.2));
        failed = refl;
      },
    )

-- rows of a file that hold typed rows can be read
pub shaped : (typed : TypedRows) (rows : FileRows) → cells_of typed ≡ rows → AreStorable typed → AreShaped rows
shaped typed rows cells fit = record {
  clock = (typed.clock, ap (λ (r : FileRows). r.clocks) (sym cells));
  accounts = subst (All IsAccountRow) (ap (λ (r : FileRows). r.accounts) cells) (has_values account_cells IsStorableAccount typed.accounts fit.accounts);
  transfers = subst (All IsTransferRow) (ap (λ (r : FileRows). r.transfers) cells) (has_values transfer_cells IsStorableTransfer typed.transfers fit.transfers);
}

-- where no place is told of two, none is of each
pub none_first : (a b o : Option ℕ) → o ≡ lesser_place a b → o ≡ None → a ≡ None
none_first None b o is none = refl
none_first (Some a) None o is none = sym is ∙ none
none_first (Some a) (Some b) o is none = absurd (let e = sym is ∙ none in cc)

pub none_second : (a b o : Option ℕ) → o ≡ lesser_place a b → o ≡ None → b ≡ None
none_second None b o is none = sym is ∙ none
none_second (Some a) None o is none = refl
none_second (Some a) (Some b) o is none = absurd (let e = sym is ∙ none in cc)

pub if_none : (o : Option ℕ) (P : Type 0) → (o ≡ None → P) → IfNone o P
if_none None P p = p refl
if_none (Some x) P p = tt

pub at_none : (o : Option ℕ) (P : Type 0) → IfNone o P → o ≡ None → P
at_none o P p none = subst (λ (x : Option ℕ). IfNone x P) none p

-- the value of a row at a place
fitting : {V : Type 0} (Fits : V → Type 0) (values : List V) (k : ℕ) → All Fits values → k < length values → (value : V) × (slice_get values k ≡ Some value) × Fits value
fitting Fits [] k all within = absurd (omega (arith, within))
fitting Fits (v ∷ vs) zero all within = (v, refl, All-head Fits v vs all)
fitting Fits (v ∷ vs) (suc k) all within = fitting Fits vs k (All-tail Fits v vs all) (omega (arith, within))

pub there : {V R : Type 0} (cells : V → R) (Fits : V → Type 0) (values : List V) (rows : List R) (k : ℕ) (row : R) → All Fits values → map cells values ≡ rows → row ≡ get_or rows k row → k < length values → (value : V) × (slice_get values k ≡ Some value) × Fits value × (row ≡ cells value)
there cells Fits values rows k row all same is within =
    let found = fitting Fits values k all within in
    let within_rows : k < length rows = subst (λ n. k < n) (sym (length-map values cells) ∙ ap length same) within in
    let here = slice_get-get_or rows k row within_rows ∙ ap Some (sym is) in
    (found.0, found.1, found.2, same_Some row (cells found.0) (sym here ∙ ap (λ rs. slice_get rs k) (sym same) ∙ slice_get-map cells values k ∙ ap (option_map cells) found.1))

pub as_long : {V R : Type 0} (cells : V → R) (values : List V) (rows : List R) → map cells values ≡ rows → length rows ≡ length values
as_long cells values rows same = sym (ap length same) ∙ length-map values cells

-- a value that stands at no place of those that were looked at stands at none
pub none_same : {V : Type 0} (wanted : V) (values : List V) (end : ℕ) → length values ≤ end → ((place : ℕ) → place < end → IsSomeAnd (slice_get values place) (λ value. value ≡ wanted) → ⊥) → (place : ℕ) → IsSomeAnd (slice_get values place) (λ value. value ≡ wanted) → ⊥
none_same wanted values end all below place has = elim (leb_tells (length values) place) [
  | inl past ↦ subst (λ o. IsSomeAnd o (λ value. value ≡ wanted)) (slice_get_past values place past.1) has
  | inr less ↦ below place (let within = less.1 in omega (arith, within, all)) has
]
