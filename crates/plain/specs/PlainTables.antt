-- What the lists of a tenant mean, and what is true of them.
use Rattle.std.specs.Prelude.{◌≡◌, ℕ, ◌≤◌, List, [], ◌∷◌, length, take, IfSome}
use Rattle.std.specs.Option.{option_map}
use Rattle.records.specs.declared.account.Account.{Account}
use Rattle.records.specs.declared.transfer.Transfer.{Transfer}
use Rattle.records.specs.Machine.{Machine, with_id}
use Rattle.records.specs.Valid.{IsValid}
use Rattle.chain.specs.Tables.{State, Meaning}
use Rattle.plain.specs.declared.plain_tables.Beginning.{Beginning}
use Rattle.plain.specs.declared.plain_tables.Copied.{Copied}
use Rattle.plain.specs.declared.plain_tables.PlainTables.TheInside.{Inside}

-- ids in ascending order, each once, behind ids that are so already
abbrev pub ascending_behind : List ℕ → List ℕ → List ℕ
ascending_behind ids [] = ids
ascending_behind ids (id ∷ more) = ascending_behind (with_id id ids) more

-- ids in ascending order, each once
abbrev pub ascending : List ℕ → List ℕ
ascending ids = ascending_behind [] ids

-- the machine of whole lists
abbrev pub machine_now : Inside → Machine
machine_now t = record {
  accounts = t.accounts.items;
  transfers = t.transfers.items;
  clock = t.clock;
  failed = ascending t.failed.items;
}

-- the machine with which a batch began: the first entries of the lists that there are now
abbrev pub machine_begun : Beginning → List Account → List Transfer → List ℕ → Machine
machine_begun b accounts transfers failed = record {
  accounts = take b.accounts accounts;
  transfers = take b.transfers transfers;
  clock = b.clock;
  failed = ascending (take b.failed failed);
}

-- the machine of a copy, with the failed ids that there are now
abbrev pub machine_copied : Copied → List ℕ → Machine
machine_copied c failed =
    record {
      accounts = c.accounts.items;
      transfers = c.transfers.items;
      clock = c.clock;
      failed = failed;
    }

-- what the fields stand for
abbrev pub state_in : Inside → State
state_in t = record {
  now = machine_now t;
  begun = machine_begun t.begun t.accounts.items t.transfers.items t.failed.items;
  marked = option_map (λ c. machine_copied c (ascending t.failed.items)) t.mark;
}

-- lists that have the first entries with which the batch began
pub record HasBeginning (b : Beginning) (accounts : List Account) (transfers : List Transfer) :
    Type 0 where
  pub has_accounts : b.accounts ≤ length accounts
  pub has_transfers : b.transfers ≤ length transfers

-- a copy that was taken in the batch
pub record IsMark (b : Beginning) (begun : Machine) (failed : List ℕ) (c : Copied) : Type 0 where
  pub valid : IsValid (machine_copied c (ascending failed))
  pub lists : HasBeginning b c.accounts.items c.transfers.items
  pub same : machine_begun b c.accounts.items c.transfers.items failed ≡ begun

-- the lists, those with which the batch began and those of the mark are each a valid machine's
pub record IsKept (t : Inside) : Type 0 where
  pub now : IsValid (machine_now t)
  pub begun : IsValid (state_in t).begun
  pub lists : HasBeginning t.begun t.accounts.items t.transfers.items
  pub failed : t.begun.failed ≤ length t.failed.items
  pub mark : IfSome t.mark (IsMark t.begun (state_in t).begun t.failed.items)

-- lists are always live, may be called where they hold a valid machine, and keep the machine with
-- which the batch began
abbrev pub plain_meaning : Meaning State
plain_meaning = record {
  state = λ s. s;
  is_usable = λ s. IsValid s.now;
  is_live = λ s. Unit {0};
  follows = λ a b. b.begun ≡ a.begun;
}
