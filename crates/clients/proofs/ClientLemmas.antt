-- One client and all others.
use Rattle.std.proofs.Common.{◌≡◌, ◌≢◌, ⊎_elim, refl, ap, sym, subst, ℕ, List, [], nat_eq, if◌then◌else◌}
use Rattle.std.proofs.lemmas.Bool.{cases_eq, eq-eqb, ne_eqb}
use Rattle.clients.specs.Deeds.{if_own}

-- what holds of one client, and of all others, holds of each
pub by_client :
    (P : ℕ → Type 0) (client : ℕ) → P client → ((other : ℕ) → other ≢ client → P other) →
    (each : ℕ) → P each
by_client P client own others each =
    ⊎_elim (λ (same : each ≡ client). subst P (sym same) own) (λ (other : each ≢ client). others each other)
    (cases_eq each client)

-- what is otherwise for one client alone
pub at_own :
    {A : Type 0} (client : ℕ) (own : A) (others : ℕ → A) →
    (if nat_eq client client then own else others client) ≡ own
at_own client own others = ap (λ b. if b then own else others client) (eq-eqb client client refl)

pub at_other :
    {A : Type 0} (client other : ℕ) (own : A) (others : ℕ → A) → other ≢ client →
    (if nat_eq client other then own else others other) ≡ others other
at_other client other own others differ =
    ap (λ b. if b then own else others other)
    (ne_eqb client other (λ (same : client ≡ other). differ (sym same)))

pub if_own-own : {A : Type 0} (client : ℕ) (items : List A) → if_own client client items ≡ items
if_own-own client items = at_own client items (λ each. [])

pub if_own-other :
    {A : Type 0} (client other : ℕ) (items : List A) → other ≢ client → if_own other client items ≡ []
if_own-other client other items = at_other client other items (λ each. [])
