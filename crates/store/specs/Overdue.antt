-- What a search of a store for holds that are due tells.
use Rattle.std.specs.Prelude.{◌≡◌, ◌⊎◌, ℕ, ℤ, None}
use Rattle.sqlite_disk.specs.declared.Disk as disk
use Rattle.stored_ledgers.specs.Directory.{first_digest, with_number}
use Rattle.stored_ledgers.specs.Overdue.{FindsNone, FindsUnlisted}
use Rattle.stored_ledgers.specs.declared.due_search.Search.{Search}
use Rattle.store.specs.Stores.{IsLive, OfDatabase}
use Rattle.store.specs.declared.store.Store.{Store}

module _ {D : Type 0} {g : disk.Ghosts D} where
  -- no tenant has this number
  abbrev pub IsUnlisted : Store D g → Store D g → ℤ → Type 0
  IsUnlisted old new number =
      IsLive new → OfDatabase (λ db. first_digest (with_number number db.trees) ≡ None) old

  -- none of those that were looked at is overdue, but for a number that no tenant has
  abbrev pub FindsNoneListed : ℕ → Search → Search → Store D g → Store D g → Type 0
  FindsNoneListed moment search searched old new =
      FindsNone old.due moment search searched
      ⊎ FindsUnlisted old.due moment search searched (IsUnlisted old new)
