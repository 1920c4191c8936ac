-- A store as ledgers that can be opened again.
use Rattle.std.proofs.Common.{Result, Ok, Err, IfErr, OnOk, OnErr}
use Rattle.std.proofs.Math.Logic.{∥∥₁_map}
use Rattle.sqlite_disk.specs.declared.Disk as disk
use Rattle.chain.specs.Backends.{in_use}
use Rattle.openings.specs.declared.refused.Refused.{Refused}
use Rattle.store.specs.declared.store.Store.{Store}
use Rattle.store.specs.StoreLaws.{store_meaning, finds_itself, opened_is_found, opened_is_live}
use Rattle.store.specs.Stores.{IsLive, IsHonest, IsSettledStore, IsUsable, may_find, StoreFinds, LeavesStore}
use Rattle.service.specs.Openings.{run_meaning}
use Rattle.service.specs.OpeningLaws.{is_opened}
use Rattle.whole_runs.specs.Reopenings.{Reopens}

module _ {D : Type 0} {g : disk.Ghosts D} where
  -- a reopening, as a step of a run
  pub reopens_so :
      (old new : Store D g) (result : Result (Unit {0}) Refused) →
      (IsHonest new → OnOk result (StoreFinds new (may_find old))) →
      (IsHonest new → OnOk result (IsHonest old)) →
      OnErr result (IsLive new → ⊥) →
      IfErr result (λ refused. LeavesStore refused old new) →
      IsSettledStore new → IsUsable new →
      Reopens (run_meaning (in_use store_meaning)) LeavesStore old result new
  reopens_so old new (Ok done) finds honest shut left settled usable =
      is_opened (run_meaning (in_use store_meaning)) old new
      (λ live. opened_is_found old new finds honest live.0)
      (λ found f. (opened_is_live old new finds found f, usable))
      (λ live. finds_itself new settled usable live.0)
  reopens_so old new (Err refused) finds honest shut left settled usable = record {
    shut = λ live. shut live.0;
    refuses = left;
    kept = λ is found f. ∥∥₁_map ((left.stand is).found f.honest f.db f.may) (λ may. record {
      honest = (left.stand is).honest f.honest;
      db = f.db;
      may = may;
      agrees = f.agrees;
    });
  }
