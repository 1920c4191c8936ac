-- Equal rows are those of equal machines.
use Rattle.std.proofs.Common.{◌≡◌, ℕ, ℤ, List, Option, Some, None, option_map, refl, sym, ap, ◌∙◌}
use Rattle.std.proofs.Common.{Bool, subst}
use Rattle.std.proofs.lemmas.List.Sorted.{IsPermutation-sym, IsPermutation-trans}
use Rattle.sqlite_disk.specs.declared.Disk as disk
use Rattle.sqlite_trees.specs.Tree.{Trees}
use Rattle.sqlite.specs.Effect.{Database}
use Rattle.records.specs.Machine.{Machine}
use Rattle.stored_tables.specs.Holds.{HoldsMachine}
use Rattle.stored_tables.specs.MachineOf.{machine_of}
use Rattle.service.specs.Responds.{Isolates}
use Rattle.openings.specs.OpenTables.{open_state}
use Rattle.store.specs.declared.place.Place.{Place}
use Rattle.store.specs.declared.place.Place.TheVariants as at
use Rattle.store.specs.declared.store.Store.{Store}
use Rattle.stored_ledgers.specs.Directory.{number_of, tenants_in}
use Rattle.stored_ledgers.specs.DueSets.{DueSets}
use Rattle.stored_ledgers.specs.Ledger.{HoldsLedgers}
use Rattle.store.specs.Stores.{IsUsable, IsUsableAt, IsLive, IsLiveAt, tenants_of, tenants_at}
use Rattle.whole_runs.specs.SameRows.{HasSameRows, AgreeAs, Agree, AgreeAt, StoresAgree}
use Rattle.whole_runs.specs.SameRows.{StoresIsolate, StoresStay}

-- a tenant's machine is the one that its rows tell
abbrev pub HeldMachines : Type 0
HeldMachines =
    (tenant : ℤ) (m : Machine) (trees : Trees) → HoldsMachine tenant m trees
    → machine_of tenant trees ≡ m

-- the same rows are those of one machine
machines_same :
    HeldMachines → (n n' : ℤ) (trees trees' : Trees) (m m' : Machine) → HoldsMachine n m trees →
    HoldsMachine n' m' trees' → HasSameRows n trees n' trees' →
    machine_of n trees ≡ machine_of n' trees'
machines_same law n n' trees trees' m m' held held' same =
    law n m' trees (record {
      valid = held'.valid;
      rows = record {
        clock = same.clock ∙ held'.rows.clock;
        accounts =
            IsPermutation-trans _ _ _ held'.rows.accounts (IsPermutation-sym _ _ same.accounts);
        transfers =
            IsPermutation-trans _ _ _ held'.rows.transfers (IsPermutation-sym _ _ same.transfers);
        balances =
            IsPermutation-trans _ _ _ held'.rows.balances (IsPermutation-sym _ _ same.balances);
        statuses =
            IsPermutation-trans _ _ _ held'.rows.statuses (IsPermutation-sym _ _ same.statuses);
        history =
            IsPermutation-trans _ _ _ held'.rows.history (IsPermutation-sym _ _ same.history);
        failed = IsPermutation-trans _ _ _ held'.rows.failed (IsPermutation-sym _ _ same.failed);
      };
    })
    ∙ sym (law n' m' trees' held')

-- one machine has the same rows
rows_same :
    (n n' : ℤ) (trees trees' : Trees) (m : Machine) → HoldsMachine n m trees →
    HoldsMachine n' m trees' → HasSameRows n trees n' trees'
rows_same n n' trees trees' m held held' = record {
  clock = held.rows.clock ∙ sym held'.rows.clock;
  accounts =
      IsPermutation-trans _ _ _ (IsPermutation-sym _ _ held.rows.accounts) held'.rows.accounts;
  transfers =
      IsPermutation-trans _ _ _ (IsPermutation-sym _ _ held.rows.transfers) held'.rows.transfers;
  balances =
      IsPermutation-trans _ _ _ (IsPermutation-sym _ _ held.rows.balances) held'.rows.balances;
  statuses =
      IsPermutation-trans _ _ _ (IsPermutation-sym _ _ held.rows.statuses) held'.rows.statuses;
  history =
      IsPermutation-trans _ _ _ (IsPermutation-sym _ _ held.rows.history) held'.rows.history;
  failed = IsPermutation-trans _ _ _ (IsPermutation-sym _ _ held.rows.failed) held'.rows.failed;
}

module _ (law : HeldMachines) (digest : List ℕ) (db db' : Database) (ledgers : HoldsLedgers db)
    (ledgers' : HoldsLedgers db') where
  tenant_by :
      (found found' : Option ℤ) → number_of digest db.trees ≡ found →
      number_of digest db'.trees ≡ found' → AgreeAs found db.trees found' db'.trees →
      option_map (λ n. machine_of n db.trees) found
      ≡ option_map (λ n. machine_of n db'.trees) found'
  tenant_by None None is is' agree = refl
  tenant_by None (Some n') is is' agree = absurd agree
  tenant_by (Some n) None is is' agree = absurd agree
  tenant_by (Some n) (Some n') is is' agree =
      ap (λ (m : Machine). Some m)
      (machines_same law n n' db.trees db'.trees (machine_of n db.trees) (machine_of n' db'.trees)
      (ledgers.machines digest n is) (ledgers'.machines digest n' is') agree)

  -- who agrees on rows agrees on machines
  tenant_same :
      Agree digest db.trees db'.trees →
      tenants_in db.trees digest ≡ tenants_in db'.trees digest
  tenant_same = tenant_by (number_of digest db.trees) (number_of digest db'.trees) refl refl

  agree_by :
      (found found' : Option ℤ) → number_of digest db.trees ≡ found →
      number_of digest db'.trees ≡ found' →
      option_map (λ n. machine_of n db.trees) found
      ≡ option_map (λ n. machine_of n db'.trees) found' →
      AgreeAs found db.trees found' db'.trees
  agree_by None None is is' same = tt
  agree_by None (Some n') is is' same = absurd (cc)
  agree_by (Some n) None is is' same = absurd (cc)
  agree_by (Some n) (Some n') is is' same =
      let one : machine_of n db.trees ≡ machine_of n' db'.trees = cc in
      rows_same n n' db.trees db'.trees (machine_of n' db'.trees)
      (subst (λ (m : Machine). HoldsMachine n m db.trees) one (ledgers.machines digest n is))
      (ledgers'.machines digest n' is')

  -- and the other way round
  agree_same :
      tenants_in db.trees digest ≡ tenants_in db'.trees digest →
      Agree digest db.trees db'.trees
  agree_same = agree_by (number_of digest db.trees) (number_of digest db'.trees) refl refl

module _ {D E : Type 0} {g : disk.Ghosts D} {h : disk.Ghosts E} (law : HeldMachines)
    (digest : List ℕ) where
  machine_at :
      (ready ready' : Bool) (sets sets' : DueSets) (place : Place D g) (place' : Place E h) →
      IsUsableAt ready sets place → IsUsableAt ready' sets' place' → IsLiveAt place →
      IsLiveAt place' → AgreeAt digest place place' →
      tenants_at place digest ≡ tenants_at place' digest
  machine_at ready ready' sets sets' (at.Open tables) (at.Open tables') usable usable' live live'
      agree =
      tenant_same law digest (open_state tables).now (open_state tables').now (usable.0 live).ledgers
      (usable'.0 live').ledgers agree
  machine_at ready ready' sets sets' (at.Open tables) (at.Shut files) usable usable' live live'
      agree = absurd live'
  machine_at ready ready' sets sets' (at.Shut files) place' usable usable' live live' agree =
      absurd live

  agree_at :
      (ready ready' : Bool) (sets sets' : DueSets) (place : Place D g) (place' : Place E h) →
      IsUsableAt ready sets place → IsUsableAt ready' sets' place' → IsLiveAt place →
      IsLiveAt place' → tenants_at place digest ≡ tenants_at place' digest →
      AgreeAt digest place place'
  agree_at ready ready' sets sets' (at.Open tables) (at.Open tables') usable usable' live live' same =
      agree_same law digest (open_state tables).now (open_state tables').now (usable.0 live).ledgers
      (usable'.0 live').ledgers same
  agree_at ready ready' sets sets' (at.Open tables) (at.Shut files) usable usable' live live' same =
      absurd live'
  agree_at ready ready' sets sets' (at.Shut files) place' usable usable' live live' same =
      absurd live

  stores_same :
      (a : Store D g) (b : Store E h) → IsUsable a → IsUsable b → IsLive a → IsLive b →
      StoresAgree digest a b → tenants_of a digest ≡ tenants_of b digest
  stores_same a b = machine_at a.ready b.ready a.due b.due a.place b.place

  stores_agree :
      (a : Store D g) (b : Store E h) → IsUsable a → IsUsable b → IsLive a → IsLive b →
      tenants_of a digest ≡ tenants_of b digest → StoresAgree digest a b
  stores_agree a b = agree_at a.ready b.ready a.due b.due a.place b.place

-- isolation, in terms of rows
pub stores_isolate :
    {D E : Type 0} (g : disk.Ghosts D) (h : disk.Ghosts E) → HeldMachines → Isolates →
    StoresIsolate g h
stores_isolate g h law isolates old new old' new' bytes moment reply reply' r r' agree available
    available' =
    let same =
    isolates (tenants_of old) (tenants_of new) (tenants_of old') (tenants_of new') bytes moment
    reply reply' r.responds r'.responds
    (λ digest caller.
    stores_same law digest old old' r.lived.1 r'.lived.1 r.lived.0 r'.lived.0
    (agree digest caller))
    available available' in
    record {
      same_reply = same.same_reply;
      same_rows = λ digest caller.
          stores_agree law digest new new' r.live.1 r'.live.1 r.live.0 r'.live.0
          (same.same_machine digest caller);
      others = λ digest not_caller.
          stores_agree law digest old new r.lived.1 r.live.1 r.lived.0 r.live.0
          (sym (same.others digest not_caller));
      others' = λ digest not_caller.
          stores_agree law digest old' new' r'.lived.1 r'.live.1 r'.lived.0 r'.live.0
          (sym (same.others' digest not_caller));
    }

-- where nothing was done no row moves
pub stores_stay : {D : Type 0} (g : disk.Ghosts D) → HeldMachines → StoresStay g
stores_stay g law old new bytes moment reply r untold digest =
    stores_agree law digest old new r.lived.1 r.live.1 r.lived.0 r.live.0
    (sym (r.responds.same untold digest))
