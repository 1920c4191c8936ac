-- What stands first in a list, by the list's front.
use Rattle.std.proofs.Common.{◌≡◌, ℕ, List, ◌++◌, length, take, drop, sym, ap, ◌∙◌}
use Rattle.std.proofs.lemmas.List.{take-append-drop, take_at}
use Rattle.ledger_shape.specs.Starts.{Starts}

pub starts_alike : {A : Type 0} (first all : List A) (n : ℕ) → length first ≡ n
    → (take n all ≡ first → Starts first all) × (Starts first all → take n all ≡ first)
starts_alike first all n long = (
  λ same. (drop n all, sym (take-append-drop n all) ∙ ap (λ front. front ++ drop n all) same),
  λ starts. ap (take n) starts.1 ∙ take_at first starts.0 n long,
)
