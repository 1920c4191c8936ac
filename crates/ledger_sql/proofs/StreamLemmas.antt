-- A query whose rows are read one after the other.
use Rattle.std.proofs.Common.{◌≡◌, ℕ, List, [], ◌∷◌, ◌++◌, map, Some, None, Ok, Err, Result, refl, sym, ap, subst, inl, inr, arith}
use Rattle.sqlite_value.specs.Order.{Row}
use Rattle.sqlite_trees.specs.declared.store.Store as store
use Rattle.sqlite_resolve.specs.declared.compiled.Compiled.{Compiled}
use Rattle.sqlite_resolve.specs.declared.error.CompileError.{CompileError}
use Rattle.sqlite.specs.Clock.{timed}
use Rattle.sqlite.specs.Effect.{Database}
use Rattle.sqlite.specs.Listing.{understood, reads_listing, IsSourceOf}
use Rattle.sqlite.specs.Given.{Returns, HasGiven, HasBegun, Advances}
use Rattle.sqlite.specs.Held.{Held, state}
use Rattle.sqlite.specs.State.{State, HasCleanDisk, IsStatement, IsUnchanged, Survives, Shown, ShowsRows, Begins}
use Rattle.sqlite.proofs.Callers.{given_begin, unchanged_then}
use Rattle.sqlite.proofs.StateLemmas.{survives_then}
use Rattle.ledger_sql.specs.Queries.{IsReading}
use Rattle.ledger_sql.proofs.ReadingTexts.{IsCalm, calm_text}
use Rattle.ledger_sql.proofs.QueryLemmas.{never_returns}

-- ---- what was read of one state was read of another with the same rows

statement_at : (a b : State) → b.now ≡ a.now → (sql : List ℕ) (params : Row) (c : Compiled) → IsStatement b sql params c → IsStatement a sql params c
statement_at a b same sql params c it =
    record { is = subst (λ (d : Database). understood d.schema sql ≡ Ok c) same it.is; whole = it.whole; given = it.given; now = it.now }

begins_at : (a b : State) → b.now ≡ a.now → (sql : List ℕ) (params : Row) (rows : List Row) → Begins sql params b rows → Begins sql params a rows
unfolding Begins statement_at
begins_at a b same sql params rows h =
    (h.0, statement_at a b same sql params h.0 h.1, h.2, h.3, subst (λ (d : Database). IsSourceOf (reads_listing d.schema sql) d h.3) same h.4, h.5)

shown_at : (a b c : State) → IsUnchanged a b → (sql : List ℕ) (params : Row) (rows : List Row) → IsReading sql → Shown sql params b c rows → Shown sql params a c rows
unfolding Shown statement_at
shown_at a b c same sql params rows reading h =
    let here : b.now ≡ a.now = same.0.now_is in
    let none = (subst IsCalm h.1.is (calm_text sql reading b.now.schema)).0 in
    let full = timed params h.0.formats h.1.now in
    let it = subst (ShowsRows b c sql h.0 full rows) none h.2 in
    let source : IsSourceOf (reads_listing a.now.schema sql) a.now it.0 = subst (λ (d : Database). IsSourceOf (reads_listing d.schema sql) d it.0) here it.1 in
    (h.0, statement_at a b here sql params h.0 h.1, subst (ShowsRows a c sql h.0 full rows) (sym none) (it.0, source, it.2, unchanged_then a b c same it.3))

-- ---- the rows that a query has given so far

pub record IsUnderWay {S : Type 0} (g : store.Ghosts S) (sql : List ℕ) (params : Row) (first now : Held S) (rows : List Row) : Type 0 where
  pub survives : Survives (state g first) (state g now) (λ _. ⊥)
  pub given : HasCleanDisk (state g now) → HasGiven g sql params now rows
  pub same : HasCleanDisk (state g now) → IsUnchanged (state g first) (state g now)

never_rows : (r : Result Compiled CompileError) → IsCalm r → ¬ Returns r
never_rows (Ok c) calm some = never_returns c.returning calm.0 some
never_rows (Err e) calm some = some

pub values_more : {T : Type 0} (values : T → Row) (rows : List T) (row : T) → map values (rows ++ row ∷ []) ≡ map values rows ++ values row ∷ []
values_more values [] row = refl
values_more values (x ∷ rows) row = ap (λ xs. values x ∷ xs) (values_more values rows row)

module _ {S : Type 0} (g : store.Ghosts S) (sql : List ℕ) (params : Row) (first : Held S) where
  pub starts : (now : Held S) → IsReading sql → Survives (state g first) (state g now) (λ _. ⊥) → (HasCleanDisk (state g now) → HasBegun g sql params first now) → IsUnderWay g sql params first now []
  starts now reading survives begun =
      let plain : HasCleanDisk (state g now) → HasGiven g sql params now [] × IsUnchanged (state g first) (state g now) = λ clean. elim (begun clean) [
        | inl h ↦ h
        | inr h ↦ absurd (never_rows _ (calm_text sql reading first.schema) h.0)
      ] in
      record { survives = survives; given = λ clean. (plain clean).0; same = λ clean. (plain clean).1 }

  pub way_begins : (now : Held S) (rows : List Row) → IsUnderWay g sql params first now rows → HasCleanDisk (state g now) → Begins sql params (state g first) rows
  way_begins now rows it clean = begins_at _ _ (it.same clean).0.now_is sql params rows (given_begin g sql params now rows (it.given clean))

  module _ (prev after : Held S) (rows : List Row) (it : IsUnderWay g sql params first prev rows) (moved : Survives (state g prev) (state g after) (λ _. ⊥)) where
    pub earlier : HasCleanDisk (state g after) → HasCleanDisk (state g prev)
    earlier clean = omega (arith, moved.clean, clean)

    pub moves : (given row : Row) → given ≡ row → (HasCleanDisk (state g after) → Advances g prev after (Some given)) → (HasCleanDisk (state g after) → IsUnchanged (state g prev) (state g after))
        → IsUnderWay g sql params first after (rows ++ row ∷ [])
    moves given row is advances same = record {
      survives = survives_then (state g first) (state g prev) (state g after) _ _ _ (λ _ db none. none) (λ _ db none. none) it.survives moved;
      given = λ clean. subst (λ r. HasGiven g sql params after (rows ++ r ∷ [])) is (advances clean sql params rows (it.given (earlier clean)));
      same = λ clean. unchanged_then _ _ _ (it.same (earlier clean)) (same clean);
    }

    -- there is no row more
    pub way_ends : IsReading sql → (HasCleanDisk (state g after) → Advances g prev after None) → HasCleanDisk (state g after) → Shown sql params (state g first) (state g after) rows
    way_ends reading advances clean = shown_at _ _ _ (it.same (earlier clean)) sql params rows reading (advances clean sql params rows (it.given (earlier clean)))
