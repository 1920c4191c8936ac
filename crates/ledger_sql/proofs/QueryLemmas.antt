-- What a query leaves of a connection, and what its first row tells.
use Rattle.std.proofs.Common.{◌≡◌, ℕ, inl, inr, List, [], Option, Some, None, Ok, Err, Result, IfOk, OnOk, refl, subst}
use Rattle.std.specs.Prelude.{IsSome}
use Rattle.sqlite_value.specs.Order.{Row}
use Rattle.sqlite_trees.specs.Tree.{Trees}
use Rattle.sqlite_schema.specs.declared.command.Command.{Command}
use Rattle.sqlite_schema.specs.declared.command.Command.TheVariants.{Select, Rows}
use Rattle.sqlite_schema.specs.declared.command.Returning.{Returning}
use Rattle.sqlite.specs.declared.error.Error.{Error}
use Rattle.sqlite.specs.declared.error.Error.TheVariants.{QueryReturnedNoRows}
use Rattle.sqlite.specs.Effect.{Database, RefusesToRead}
use Rattle.sqlite.specs.Listing.{understood}
use Rattle.sqlite.specs.State.{State, HasCleanDisk, IsUnchanged, IsNotRun, IsNoStatement, FailsToQuery, QueriesRow, Shown, Survives, CommitsShowing}
use Rattle.sqlite.proofs.StateLemmas.{survives_weaker}
use Rattle.ledger_sql.specs.Frames.{IsKeptOrUndone, Follows}
use Rattle.ledger_sql.specs.Queries.{IsReading, found_of, FindsFirst}
use Rattle.ledger_sql.proofs.ReadingTexts.{IsCalm, calm_text}
use Rattle.ledger_sql.proofs.RunLemmas.{never_stored, stays_left, follows_from}

pub never_returns : (o : Option Returning) → o ≡ None → ¬ IsSome o
never_returns None e h = absurd (cc)
never_returns (Some r) e h = absurd (cc)

module _ (sql : List ℕ) (params : Row) (old new : State) (reading : IsReading sql) where
  calm : IsCalm (understood old.now.schema sql)
  calm = calm_text sql reading old.now.schema

  shown_same : (rows : List Row) → Shown sql params old new rows → IsUnchanged old new
  unfolding Shown
  shown_same rows h =
      let none = (subst IsCalm h.1.is calm).0 in (rw none at h.2).3

  pub failed_kept : (e : Error) → FailsToQuery sql params old new e → IsKeptOrUndone old new
  unfolding FailsToQuery IsNotRun
  failed_kept e (inl (inl refused)) = inl refused.1
  failed_kept e (inl (inr failed)) = inr failed.3
  failed_kept e (inr h) = let none = (subst IsCalm h.1.is calm).0 in inl (rw none at h.2).3

  row_same : (row : Row) → QueriesRow sql params old new (Ok row) → IsUnchanged old new
  unfolding QueriesRow
  row_same row (inl h) = h.1
  row_same row (inr h) = shown_same h.0 h.1

  no_misfit : ¬ IsNoStatement old sql params QueryReturnedNoRows
  no_misfit (inl it) = absurd (let e = it.2 in cc)
  no_misfit (inr it) = elim it.2 [
    | inl long ↦ absurd (let e = long.1 in cc)
    | inr (inl given) ↦ absurd (let e = given.1 in cc)
    | inr (inr timed) ↦ absurd (let e = timed.1 in cc)
  ]

  no_refusal : (limit : Option ℕ) (command : Command) (db : Database) (full : Row) → ¬ RefusesToRead limit command db full QueryReturnedNoRows
  no_refusal limit (Select q names) db full (inl h) = absurd (let e = h.0 in cc)
  no_refusal limit (Select q names) db full (inr (inl h)) = absurd (let e = h.0 in cc)
  no_refusal limit (Select q names) db full (inr (inr h)) = absurd (let e = h.0 in cc)
  no_refusal limit (Rows values width names) db full h = absurd (let e = h.0 in cc)
  no_refusal limit _ db full h = absurd (cc)

  -- no row: the answer is empty
  none_shown : QueriesRow sql params old new (Err QueryReturnedNoRows) → Shown sql params old new []
  unfolding QueriesRow FailsToQuery IsNotRun
  none_shown (inr h) = h.1
  none_shown (inl (inl (inl refused))) = absurd (no_misfit refused.0)
  none_shown (inl (inl (inr failed))) = absurd (never_stored QueryReturnedNoRows refl failed.0 failed.1)
  none_shown (inl (inr h)) = let none = (subst IsCalm h.1.is calm).0 in let it = rw none at h.2 in absurd (no_refusal old.step_limit h.0.command it.0 _ it.2)

  error_kept : (e : Error) → QueriesRow sql params old new (Err e) → IsKeptOrUndone old new
  unfolding QueriesRow
  error_kept e (inl h) = failed_kept e h
  error_kept e (inr h) = inl (shown_same [] h.1)

  pub found_ok : (r : Result Row Error) → QueriesRow sql params old new r → IfOk (found_of r) (FindsFirst sql params old new)
  found_ok (Ok row) h = h
  found_ok (Err QueryReturnedNoRows) h = none_shown h
  found_ok (Err e) h = tt

  pub found_same : (r : Result Row Error) → QueriesRow sql params old new r → OnOk (found_of r) (IsUnchanged old new)
  found_same (Ok row) h = row_same row h
  found_same (Err QueryReturnedNoRows) h = shown_same [] (none_shown h)
  found_same (Err e) h = tt

  pub row_kept : (r : Result Row Error) → QueriesRow sql params old new r → IsKeptOrUndone old new
  row_kept (Ok row) h = inl (row_same row h)
  row_kept (Err e) h = error_kept e h

module _ (sql : List ℕ) (params : Row) (old new : State) (reading : IsReading sql) (survives : Survives old new (CommitsShowing sql params old)) where
  commits_none : (db : Trees) → ¬ CommitsShowing sql params old db
  unfolding CommitsShowing
  commits_none db h = never_returns h.0.returning (subst IsCalm h.1.is (calm_text sql reading old.now.schema)).0 h.2

  pub quiet : Survives old new (λ _. ⊥)
  quiet = survives_weaker old new _ _ (λ clean db. commits_none db) survives

  pub query_follows : (HasCleanDisk new → IsKeptOrUndone old new) → Follows old new
  query_follows kept = follows_from old new quiet (λ live. stays_left old new live.1 (kept live.0))
