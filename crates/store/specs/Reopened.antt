-- What the opening of a store again leaves of it.
use Rattle.std.specs.Prelude.{◌≡◌, ℕ, false, Result, IfErr, OnOk, OnErr}
use Rattle.sqlite_disk.specs.declared.Disk as disk
use Rattle.openings.specs.Damage.{IfOpeningDamaged, IsDamagedIn}
use Rattle.openings.specs.declared.refused.Refused.{Refused}
use Rattle.store.specs.Stores.{StoreFinds, IsHonest, IsLive, AnswersCalls, IsUsable, LeavesStore, MayHold, may_find}
use Rattle.store.specs.declared.store.Store.{Store}

-- a store is opened again: answered, it has what a crash may have left of it, and answers calls;
-- refused, it is told whether a later opening finds that, and which damage there is, and it answers
-- no more
pub record OpensAgain {D A : Type 0} {g : disk.Ghosts D} (version : ℕ) (old new : Store D g)
    (result : Result A Refused) : Type 0 where
  pub usable : IsUsable new
  pub ready : OnOk result (AnswersCalls new)
  pub found : IsHonest new → OnOk result (StoreFinds new (may_find old))
  pub honest : IsHonest new → OnOk result (IsHonest old)
  pub damaged :
      IsHonest new → IfErr result (λ refused. IfOpeningDamaged refused.fault
      (λ damage. MayHold old (IsDamagedIn version damage)))
  pub left : IfErr result (λ refused. LeavesStore refused old new)
  pub refused : OnErr result (new.ready ≡ false)
  pub shut : OnErr result (IsLive new → ⊥)
