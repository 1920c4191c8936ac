-- What is known of an answer of a search, also once it was judged.
use Rattle.std.proofs.Common.{◌≡◌, Result, Ok, arith}
use Rattle.std.proofs.lemmas.Result.{MatchResult-at_ok}
use Rattle.records.specs.declared.unavailable.Unavailable.{Unavailable}
use Rattle.sqlite_trees.specs.Tree.{Trees}
use Rattle.sqlite.specs.State.{State, HasCleanDisk}
use Rattle.ledger_sql.specs.Calls.{LeavesFound}
use Rattle.ledger_sql.specs.Effects.{IsLedger}
use Rattle.ledger_sql.specs.Frames.{Follows}
use Rattle.stored_ledgers.specs.Ledger.{HoldsLedgers}
use Rattle.stored_ledgers.specs.Resting.{HoldsHere}

-- what was found, where the disk was honest to the end of the search
pub was_found : {A E : Type 0} {Fits : A → Type 0} {Answer : Trees → A → Type 0} (old found : State)
    (answer : A) → LeavesFound {A = A} {E = E} Fits Answer old found (Ok answer) → HasCleanDisk found
    → HasCleanDisk old × (found.now ≡ old.now) × (IsLedger old.now.schema → Answer old.now.trees answer)
was_found old found answer finds clean =
    (omega (arith, finds.reads.follows.survives.clean, clean), (finds.reads.same clean).0.now_is, finds.ok clean)

-- what was found of a database that rests, and stands after it was judged, is so of its ledgers
pub found_at_rest : {A : Type 0} {Fits : A → Type 0} {Answer : Trees → A → Type 0}
    (old found judged : State) (result : Result A Unavailable) (answer : A)
    → LeavesFound Fits Answer old found result → result ≡ Ok answer → Follows found judged
    → HoldsHere old → HasCleanDisk judged → HoldsLedgers old.now × Answer old.now.trees answer
found_at_rest old found judged result answer finds is follows here clean =
    let mid : HasCleanDisk found = omega (arith, follows.survives.clean, clean) in
    let before : HasCleanDisk old = omega (arith, finds.reads.follows.survives.clean, mid) in
    let ledgers = (here before).2 in
    (ledgers, MatchResult-at_ok _ _ _ is (finds.ok mid ledgers.schema))
