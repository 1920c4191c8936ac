-- An operator's order on a store, as what happens between turns.
use Rattle.std.proofs.Common.{◌≡◌, ◌⊎◌, inl, inr, None, Result, subst₂, sym}
use Rattle.sqlite_disk.specs.declared.Disk as disk
use Rattle.records.specs.declared.unavailable.Unavailable.{Unavailable}
use Rattle.chain.specs.Backends.{in_use}
use Rattle.chain.specs.Ledgers.{Tenants}
use Rattle.service.specs.Attending.{Joins, Changes_key, Reads_part}
use Rattle.service.specs.Courses.{Event, Tried}
use Rattle.service.specs.Deeds.{Joined, Keyed}
use Rattle.service.specs.Openings.{run_meaning, FoundAfter, As_now, As_before, As_done, Moves}
use Rattle.polling.specs.Courses.{IsAtRest}
use Rattle.store.specs.StoreLaws.{store_meaning}
use Rattle.store.specs.Stores.{FindsTenants, IsHonest, IsUsable, ReadsStore, may_find}
use Rattle.store.specs.declared.store.Store.{Store}
use Rattle.command_texts.specs.declared.fault.Fault.{Fault}
use Rattle.commands.specs.Kept.{kept_store, Attends, Tries, Looks}
use Rattle.commands.specs.Endings.{ending_told}
use Rattle.commands.specs.Orders.{CarriesOut}
use Rattle.commands.specs.Pieces.{asked_for}
use Rattle.commands.specs.declared.kept.Kept.TheVariants.{Open}
use Rattle.commands.specs.declared.orders.Done.{Done}
use Rattle.commands.specs.declared.orders.Order.{Order}
use Rattle.commands.specs.declared.orders.Order.TheVariants as order

module _ {D : Type 0} {g : disk.Ghosts D} where
  -- what may be found after an event of a store, where the store may not be there
  found_kept :
      (old : Store D g) (event : Event) (new : Store D g) (found : Tenants) →
      FoundAfter (run_meaning (in_use store_meaning)) old event new found →
      FoundAfter kept_store (Open old) event (Open new) found
  found_kept old event new found (As_now live keeps) = As_now live keeps
  found_kept old event new found (As_before still before) = As_before still before
  found_kept old event new found (As_done deed more untold live done) =
      As_done deed more untold live done

  pub moves_kept :
      (old : Store D g) (event : Event) (new : Store D g) →
      Moves (run_meaning (in_use store_meaning)) old event new → Moves kept_store (Open old) event (Open new)
  moves_kept old event new moves = record {
    happens = moves.happens;
    lived = moves.lived;
    found = λ found may. found_kept old event new found (moves.found found may);
  }

  pub rest_kept :
      (old new : Store D g) → IsAtRest (run_meaning (in_use store_meaning)) old new →
      IsAtRest kept_store (Open old) (Open new)
  rest_kept old new rest =
      record { lived = rest.lived; same = rest.same; found = rest.found }

  found_read :
      (old new : Store D g) (found : Tenants) → (IsHonest new → IsHonest old) →
      (f : FindsTenants new found) → may_find old f.db ⊎ ⊥ → FindsTenants old found
  found_read old new found honest f (inl before) =
      record { honest = honest f.honest; db = f.db; may = before; agrees = f.agrees }
  found_read old new found honest f (inr none) = absurd none

  -- a call that only reads changes nothing for any tenant
  pub rest_so :
      {T : Type 0} (old new : Store D g) (result : Result T Unavailable) → IsUsable old →
      ReadsStore old new result →
      IsAtRest (run_meaning (in_use store_meaning)) old new
  rest_so old new result usable reads = record {
    lived = λ live. (reads.answers.follows.lived live.0, usable);
    same = λ live. reads.same live.0;
    found = λ found f.
        ∣ (inl (found_read old new found reads.answers.follows.honest f
        (reads.finds f.honest f.db f.may))) ∣₁;
  }

  -- what carrying out an order makes of a store that may not be there
  pub order_renews :
      (asked : Order) (old new : Store D g) (done : Result Done Fault) →
      CarriesOut asked old done new → Attends None (Open old) (Open new)
  order_renews order.Tenants old new done carried = Looks tt (rest_kept old new carried.1)
  order_renews (order.AddTenant name digest) old new done carried =
      Tries (Joined digest) (ending_told done) (Joins digest) tt
      (moves_kept old (Tried (Joined digest) (ending_told done)) new carried.1)
  order_renews (order.ChangeKey name digest) old new done carried =
      Tries (Keyed carried.1.0 digest) (ending_told done) (Changes_key carried.1.0 digest) tt
      (moves_kept old (Tried (Keyed carried.1.0 digest) (ending_told done)) new carried.1.1)
  order_renews (order.Statement tenant account span) old new done carried =
      elim carried.1 [
        | inl rest ↦ Looks tt (rest_kept old new rest)
        | inr read ↦
            Tries (asked_for read.0 account) (ending_told done) (Reads_part read.0 account) tt
            (moves_kept old (Tried (asked_for read.0 account) (ending_told done)) new read.1)
      ]

  -- an order is carried out, where it is this one and this is told of it
  pub carried_as :
      (asked is : Order) (old new : Store D g) (done : Result Done Fault) (told : Result Done Fault) →
      asked ≡ is → done ≡ told → CarriesOut is old told new → CarriesOut asked old done new
  carried_as asked is old new done told same told_so carried =
      subst₂ (λ (o : Order) (r : Result Done Fault). CarriesOut o old r new) (sym same) (sym told_so) carried
