-- What carrying out an operator's order makes of a store.
use Rattle.std.specs.Prelude.{◌≡◌, ℕ, List, Result, Ok, Err}
use Rattle.sqlite_disk.specs.declared.Disk as disk
use Rattle.chain.specs.Backends.{in_use}
use Rattle.service.specs.Courses.{Tried}
use Rattle.service.specs.Deeds.{Joined, Keyed}
use Rattle.service.specs.Openings.{run_meaning, Moves}
use Rattle.polling.specs.Courses.{IsAtRest}
use Rattle.stored_ledgers.specs.Listing.{AreListed}
use Rattle.store.specs.StoreLaws.{store_meaning}
use Rattle.store.specs.Stores.{IsLive, OfDatabase, OfDatabases}
use Rattle.store.specs.declared.store.Store.{Store}
use Rattle.command_texts.specs.declared.fault.Fault.{Fault}
use Rattle.command_texts.specs.declared.fault.Fault.TheVariants.{Unavailable}
use Rattle.commands.specs.Changing.{IsChangedAs}
use Rattle.commands.specs.Endings.{ending_told}
use Rattle.commands.specs.Pieces.{IsPieceTold, IsReadForOperator, machine_named}
use Rattle.commands.specs.declared.changing.TenantChange.{TenantChange}
use Rattle.commands.specs.declared.changing.TenantChange.TheVariants.{Adding, Keying}
use Rattle.commands.specs.declared.kept.Kept.{Kept}
use Rattle.commands.specs.declared.kept.Kept.TheVariants.{Open, Closed}
use Rattle.commands.specs.declared.orders.Order.{Order}
use Rattle.commands.specs.declared.orders.Order.TheVariants.{Tenants, AddTenant, ChangeKey, Statement}
use Rattle.commands.specs.declared.orders.Done.{Done}
use Rattle.commands.specs.declared.orders.Done.TheVariants.{Listed, Changed, Read}

-- what is told without what was done
abbrev pub told_only : {T : Type 0} → Result T Fault → Result (Unit {0}) Fault
told_only (Ok done) = Ok tt
told_only (Err fault) = Err fault

module _ {D : Type 0} {g : disk.Ghosts D} where
  -- a tenant's joining, or the change of some tenant's key, to this digest was tried, and what is
  -- told of it is how it ended
  abbrev pub IsChangeTried :
      {T : Type 0} → TenantChange → List ℕ → Store D g → Result T Fault → Store D g → Type 0
  IsChangeTried Adding digest old result new =
      Moves (run_meaning (in_use store_meaning)) old (Tried (Joined digest) (ending_told result)) new
  IsChangeTried Keying digest old result new =
      (was : List ℕ)
      × Moves (run_meaning (in_use store_meaning)) old (Tried (Keyed was digest) (ending_told result)) new

  -- a change was tried, and this is told of it
  abbrev pub CarriesOutChange :
      TenantChange → List ℕ → List ℕ → Store D g → Result Done Fault → Store D g → Type 0
  CarriesOutChange change name digest old result new =
      (IsLive new → OfDatabases
      (λ before after. IsChangedAs change name digest before after (told_only result)) old new)
      × IsChangeTried change digest old result new

  -- the tenants are listed, if they could be read
  abbrev pub IsListingTold : Store D g → Result Done Fault → Type 0
  IsListingTold store (Ok (Listed tenants)) =
      OfDatabase (λ db. AreListed db.trees tenants.items) store
  IsListingTold store (Ok Changed) = ⊥
  IsListingTold store (Ok (Read piece)) = ⊥
  IsListingTold store (Err fault) = fault ≡ Unavailable

  -- what an order comes to: the tenants are listed, or a piece of a statement is read, and nothing
  -- has changed for any; or a deed was tried, and what is told of it is how it ended
  abbrev pub CarriesOut : Order → Store D g → Result Done Fault → Store D g → Type 0
  CarriesOut Tenants old result new =
      (IsLive new → IsListingTold old result) × IsAtRest (run_meaning (in_use store_meaning)) old new
  CarriesOut (AddTenant name digest) old result new =
      CarriesOutChange Adding name digest old result new
  CarriesOut (ChangeKey name digest) old result new =
      CarriesOutChange Keying name digest old result new
  CarriesOut (Statement tenant account span) old result new =
      (IsLive new
      → OfDatabase (λ db. IsPieceTold account span (machine_named tenant db.trees) result) old)
      × IsReadForOperator account old result new

  -- so it is of a store that may not be there: then something is unavailable
  abbrev pub CarriesOutKept :
      Order → Kept (Store D g) → Result Done Fault → Kept (Store D g) → Type 0
  CarriesOutKept order (Open old) result (Open new) = CarriesOut order old result new
  CarriesOutKept order (Open old) result Closed = ⊥
  CarriesOutKept order Closed result new = (result ≡ Err Unavailable) × (new ≡ Closed)

  -- an order was carried out, and whoever gave it was told what it came to, and nothing else
  pub record IsToldOfOrder {O : Type 0} (tells : O → Order → Result Done Fault → O → Type 0)
      (order : Order) (orders : O) (old : Kept (Store D g)) (orders_now : O)
      (new : Kept (Store D g)) : Type 0 where
    pub done : Result Done Fault
    pub carried_out : CarriesOutKept order old done new
    pub told : tells orders order done orders_now
