use Rattle.std.proofs.Common.{◌≡◌, ℕ, ◌<◌, List, map, slice_get, IsSomeAnd}
use Rattle.std.specs.List.{All}
use Rattle.audit.proofs.cells.first_same.Given as goal

abbrev pub invariant-loop-place : goal.invariant-loop-place
invariant-loop-place g l =
    (values : List g.row.C-Value.Denot) → All g.C.Cells.Fits values → map g.C.Cells.cells values ≡ l.rows →
    (place : ℕ) → place < l.place → IsSomeAnd (slice_get values place) (λ value. value ≡ l.wanted) → ⊥
