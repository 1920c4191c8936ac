-- What a store says of names.
use Rattle.sqlite_disk.specs.declared.Disk as disk
use Rattle.store.specs.Names.{FindsNames, names_of}
use Rattle.store.specs.declared.store.Store.{Store}
use Rattle.whole_runs.specs.Names.{NamesMeaning}

abbrev pub store_names : {D : Type 0} {g : disk.Ghosts D} → NamesMeaning (Store D g)
store_names = record {
  named = λ store. names_of store;
  may_find = λ store found. FindsNames store found;
}
