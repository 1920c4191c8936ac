-- Rows that are handed to a sink, one after the other.
use Rattle.std.proofs.Common.{◌≡◌, ℕ, Bool, true, false, not, List, [], ◌∷◌, ◌++◌, map, None, Some, Ok, Err, Result, OnOk, OnErr, refl, sym, subst, inl, inr}
use Rattle.std.specs.Prelude.{IsErr}
use Rattle.records.specs.Streams.{TakesRows}
use Rattle.sqlite_value.specs.Order.{Row}
use Rattle.sqlite_trees.specs.declared.store.Store as store
use Rattle.sqlite.specs.Given.{Advances}
use Rattle.sqlite.specs.Held.{Held, state}
use Rattle.sqlite.specs.State.{HasCleanDisk, IsUnchanged, Survives, Begins}
use Rattle.ledger_sql.specs.declared.entry_cells.EntryCells.{EntryCells}
use Rattle.ledger_sql.specs.Entries.{entry_values}
use Rattle.ledger_sql.specs.Handing.{HandsRows}
use Rattle.ledger_sql.specs.Queries.{IsReading}
use Rattle.ledger_sql.proofs.StreamLemmas.{IsUnderWay, values_more, way_begins, earlier, moves, way_ends}

-- a query is under way, and the sink has taken what it has given
pub record IsHanding {S K : Type 0} (g : store.Ghosts S) (takes : K → EntryCells → K → Type 0) (sql : List ℕ) (params : Row) (first now : Held S) (old new : K) : Type 0 where
  pub handed : List EntryCells
  pub taken : TakesRows takes old handed new
  pub way : IsUnderWay g sql params first now (map entry_values handed)

takes_more : {K : Type 0} (takes : K → EntryCells → K → Type 0) (old mid new : K) (rows : List EntryCells) (row : EntryCells) → TakesRows takes old rows mid → takes mid row new → TakesRows takes old (rows ++ row ∷ []) new
takes_more takes old mid new [] row same took = (new, subst (λ k. takes k row new) (sym same) took, refl)
takes_more takes old mid new (x ∷ rows) row (next, first, rest) took = (next, first, takes_more takes next mid new rows row rest took)

pub always_err : {A E : Type 0} (P : Type 0) (r : Result A E) → P → OnErr r P
always_err P (Ok a) h = tt
always_err P (Err e) h = h

pub never_ok : {A E : Type 0} (P : Type 0) (r : Result A E) → IsErr r → OnOk r P
never_ok P (Ok a) failed = absurd (cc)
never_ok P (Err e) failed = tt

module _ {S K : Type 0} (g : store.Ghosts S) (takes : K → EntryCells → K → Type 0) (sql : List ℕ) (params : Row) (first : Held S) (old : K) where
  pub handing_begins : (now : Held S) → IsUnderWay g sql params first now [] → IsHanding g takes sql params first now old old
  handing_begins now way = record { handed = []; taken = refl; way = way }

  module _ (prev after : Held S) (mid : K) (it : IsHanding g takes sql params first prev old mid) (moved : Survives (state g prev) (state g after) (λ _. ⊥)) where
    begun : HasCleanDisk (state g after) → Begins sql params (state g first) (map entry_values it.handed)
    begun clean = way_begins g sql params first prev _ it.way (earlier g sql params first prev after _ it.way moved clean)

    -- the entry that it has given was taken
    pub handing_moves : (given : Row) (entry : EntryCells) → given ≡ entry_values entry → (HasCleanDisk (state g after) → Advances g prev after (Some given)) → (HasCleanDisk (state g after) → IsUnchanged (state g prev) (state g after))
        → (new : K) → takes mid entry new → IsHanding g takes sql params first after old new
    handing_moves given entry is advances same new took = record {
      handed = it.handed ++ entry ∷ [];
      taken = takes_more takes old mid new it.handed entry it.taken took;
      way = subst (IsUnderWay g sql params first after) (sym (values_more entry_values it.handed entry)) (moves g sql params first prev after _ it.way moved given (entry_values entry) is advances same);
    }

    -- the query is over: all was handed
    pub handed_all : {E : Type 0} (is_full : K → Bool) → IsReading sql → (HasCleanDisk (state g after) → Advances g prev after None)
        → HandsRows {E = E} takes is_full sql params (state g first) (state g after) old mid (Ok tt)
    handed_all is_full reading advances = record {
      handed = it.handed;
      taken = it.taken;
      first = λ clean. inr (begun clean);
      ended = λ clean. inr (way_ends g sql params first prev after _ it.way moved reading advances clean);
      wants = tt;
    }

    -- it broke off
    pub handed_some : {E : Type 0} (is_full : K → Bool) → is_full mid ≡ false → (r : Result (Unit {0}) E) → IsErr r → HandsRows takes is_full sql params (state g first) (state g after) old mid r
    handed_some is_full more r failed =
        record { handed = it.handed; taken = it.taken; first = λ clean. inr (begun clean); ended = λ _. never_ok _ r failed; wants = always_err _ r more }

  -- the sink is full
  pub handed_full : {E : Type 0} (is_full : K → Bool) (now : Held S) (new : K) → IsHanding g takes sql params first now old new → is_full new ≡ true
      → HandsRows {E = E} takes is_full sql params (state g first) (state g now) old new (Ok tt)
  handed_full is_full now new it full =
      record { handed = it.handed; taken = it.taken; first = λ clean. inr (way_begins g sql params first now _ it.way clean); ended = λ _. inl full; wants = tt }

  -- it broke off where it stood
  pub handed_off : {E : Type 0} (now : Held S) (new : K) → IsHanding g takes sql params first now old new → (is_full : K → Bool) → is_full new ≡ false → (e : E)
      → HandsRows takes is_full sql params (state g first) (state g now) old new (Err e)
  handed_off now new it is_full more e =
      record { handed = it.handed; taken = it.taken; first = λ clean. inr (way_begins g sql params first now _ it.way clean); ended = λ _. tt; wants = more }

-- a sink that wants no more is full
pub full_then : (more full : Bool) → more ≡ not full → more ≡ false → full ≡ true
full_then more true is stop = refl
full_then more false is stop = absurd (cc)

pub wants_then : (more full : Bool) → more ≡ not full → more ≡ true → full ≡ false
wants_then more false is goes = refl
wants_then more true is goes = absurd (cc)
