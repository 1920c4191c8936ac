-- Steps, one after the other, and their events.
use Rattle.std.specs.Prelude.{List, [], ◌∷◌, ◌++◌}
use Rattle.chain.specs.Ledgers.{LedgersMeaning, Tenants}
use Rattle.service.specs.Courses.{Event}

-- steps lead from the first state to this one, and tell these things, in order
pub data InTurn (X E : Type 0) (Steps : X → E → X → Type 0) (first : X) : List E → X → Type 0 where
  Nothing : InTurn X E Steps first [] first
  More :
      (told : List E) (last : X) (tells : E) (next : X) →
      InTurn X E Steps first told last → Steps last tells next →
      InTurn X E Steps first (told ++ tells ∷ []) next

module _ {X E : Type 0} {Steps : X → E → X → Type 0}
    (events : (old : X) (tells : E) (new : X) → Steps old tells new → List Event) where
  -- the events of all steps
  abbrev pub events_along :
      {first last : X} {told : List E} → InTurn X E Steps first told last → List Event
  events_along Nothing = []
  events_along (More told last tells next before step) =
      events_along before ++ events last tells next step

  -- this is so of the events of all steps, as long as the ledgers are live
  abbrev pub OfSteps :
      {S : Type 0} → LedgersMeaning S → (X → S) → (Tenants → List Event → Tenants → Type 0) → Type 0
  OfSteps t ledgers IsSo =
      (first last : X) (told : List E) (steps : InTurn X E Steps first told last)
      → t.is_live (ledgers last)
      → IsSo (t.tenants (ledgers first)) (events_along steps) (t.tenants (ledgers last))
