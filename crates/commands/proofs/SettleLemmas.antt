-- Settling a tenant between turns, as what happens then.
use Rattle.std.proofs.Common.{◌≡◌, inl, inr, ℕ, List, [], Option, Some, Result, Ok, Err, refl, sym, ap, ◌∙◌, subst}
use Rattle.sqlite_disk.specs.declared.Disk as disk
use Rattle.records.specs.Machine.{Machine}
use Rattle.wire.specs.declared.request.Request.TheVariants as asks
use Rattle.chain.specs.Backends.{in_use}
use Rattle.chain.specs.Ledgers.{Tenants, IsDone, IsRun, Finds, IsAnswered, LeadsBy}
use Rattle.chain.specs.declared.ledgers.BatchFault.{BatchFault}
use Rattle.chain.specs.declared.ledgers.BatchFault.TheVariants as batch_fault
use Rattle.service.specs.Attending.{Settles}
use Rattle.service.specs.Courses.{Happens, Tried}
use Rattle.service.specs.Deeds.{IsDeedDone}
use Rattle.service.specs.Openings.{run_meaning, FoundAfter, As_now, As_before, As_done, IsSettled, Moves}
use Rattle.service.specs.Served.{served_to}
use Rattle.store.specs.StoreLaws.{store_meaning}
use Rattle.store.specs.Stores.{Continues, FindsTenants, IsLive, IsUsable, tenants_of}
use Rattle.store.specs.declared.store.Store.{Store}
use Rattle.commands.specs.Kept.{Attends, Tries, Looks}
use Rattle.commands.specs.Settling.{GivesSettled, SettlesBy, batch_ending, settling}
use Rattle.commands.specs.declared.kept.Kept.TheVariants.{Open}
use Rattle.commands.proofs.OrderLemmas.{moves_kept, rest_kept}

module _ (digest : List ℕ) (moment : ℕ) (old new : Tenants) where
  -- it is done as the tenant's own batch would be
  settled_is_done :
      (unheard : Unit {0}) → IsDone (GivesSettled moment) digest old new unheard →
      IsDeedDone (settling digest moment) old new
  settled_is_done unheard done = record {
    may = tt;
    own =
        subst
        (λ (tenant : Option Machine).
        new digest ≡ (served_to tenant (Ok (asks.Transfers [])) moment).left) (sym done.held)
        (done.holds ∙ ap Some done.given);
    others = done.others;
  }

  -- what it makes of the machines
  settled_happens :
      (settled : Result (Unit {0}) BatchFault) →
      IsRun (GivesSettled moment) digest old new settled →
      Happens old (Tried (settling digest moment) (batch_ending settled)) new
  settled_happens (Ok unheard) run = settled_is_done unheard run
  settled_happens (Err batch_fault.UnknownKey) run = run.1
  settled_happens (Err (batch_fault.Unavailable why)) run = run

module _ {D : Type 0} {g : disk.Ghosts D} where
  module _ (digest : List ℕ) (moment : ℕ) (old new : Store D g) where
    -- what may be found behind it
    settled_finds :
        (settled : Result (Unit {0}) BatchFault) →
        Finds (in_use store_meaning) (IsAnswered settled) (LeadsBy (GivesSettled moment) digest) old new →
        IsSettled (run_meaning (in_use store_meaning)) new → (found : Tenants) → FindsTenants new found →
        FoundAfter (run_meaning (in_use store_meaning)) old
        (Tried (settling digest moment) (batch_ending settled)) new found
    settled_finds (Ok unheard) finds rests found may =
        let live = finds.live tt found may in
        As_now live (rests live found may)
    settled_finds (Err batch_fault.UnknownKey) finds rests found may =
        let live = finds.live tt found may in
        As_now live (rests live found may)
    settled_finds (Err (batch_fault.Unavailable why)) finds rests found may =
        elim (finds.found found may) [
          | inl before ↦ As_before tt before
          | inr led ↦
              As_done (settling digest moment) [] refl led.0 (
                found,
                settled_is_done digest moment (tenants_of old) found led.1.0 led.1.1,
                λ other. refl,
              )
        ]

    pub settled_moves :
        (settled : Result (Unit {0}) BatchFault) →
        (IsLive new × IsUsable new
        → IsRun (GivesSettled moment) digest (tenants_of old) (tenants_of new) settled) →
        Finds (in_use store_meaning) (IsAnswered settled) (LeadsBy (GivesSettled moment) digest) old new →
        IsSettled (run_meaning (in_use store_meaning)) new →
        Continues old new × (IsUsable new → IsUsable old) →
        Moves (run_meaning (in_use store_meaning)) old
        (Tried (settling digest moment) (batch_ending settled)) new
    settled_moves settled run finds rests follows = record {
      happens = λ live.
          settled_happens digest moment (tenants_of old) (tenants_of new) settled (run live);
      lived = λ live. (follows.0.follows.lived live.0, follows.1 live.1);
      found = settled_finds settled finds rests;
    }

  -- what it makes of a store that may not be there
  pub settling_renews :
      (moment : ℕ) (old new : Store D g) → SettlesBy moment old new
      → Attends (Some moment) (Open old) (Open new)
  settling_renews moment old new settles =
      elim settles [
        | inl rest ↦ Looks tt (rest_kept old new rest)
        | inr settled ↦
            Tries (settling settled.0 settled.1) settled.3
            (Settles settled.0 moment settled.1 refl settled.2) tt
            (moves_kept old (Tried (settling settled.0 settled.1) settled.3) new settled.4)
      ]
