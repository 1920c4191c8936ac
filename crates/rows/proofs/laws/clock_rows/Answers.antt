use Rattle.std.proofs.Common.{ℕ, List, [], ap, ◌∙◌, subst}
use Rattle.std.specs.List.Sorted.{IsPermutation}
use Rattle.std.proofs.lemmas.List.Sorted.{IsPermutation-refl}
use Rattle.engine.proofs.ValidMachineLemmas.{sound}
use Rattle.rows.specs.TypedRows.{TypedRows}
use Rattle.rows.specs.Prescribed.{rows_for}
use Rattle.rows.specs.Settling.{due_ids}
use Rattle.rows.proofs.Counts.{is_releasing}
use Rattle.rows.proofs.Releasing.{next_release}
use Rattle.rows.proofs.Settled.{none_released, all_released}
use Rattle.rows.proofs.laws.clock_rows.Goals as goal

pub returns-clause-first : goal.returns-clause-first
returns-clause-first c m = none_released m

pub returns-clause-next : goal.returns-clause-next
returns-clause-next c m clock done rest id valid same =
    let s = sound m valid in
    let found = is_releasing m clock done rest id s.transfers same in
    (found.0, _, _, next_release m clock done id found.0 s found.1)

pub returns-clause-last : goal.returns-clause-last
returns-clause-last c m clock ids valid later same = all_released m clock ids (sound m valid) later same

pub returns-clause-nothing_due : goal.returns-clause-nothing_due
returns-clause-nothing_due c m clock valid later none =
    let same = subst (λ (ids : List ℕ). IsPermutation (due_ids clock (rows_for 3 m)) ids) none (IsPermutation-refl (due_ids clock (rows_for 3 m))) in
    all_released m clock [] (sound m valid) later same ∙ ap (λ (rows : TypedRows). record rows { clock = clock }) (none_released m)
