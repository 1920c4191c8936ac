-- The names of a copy.
use Rattle.std.specs.Prelude.{◌≡◌, ℕ, List, ◌++◌, codes, string_bytes}
use Rattle.copies.specs.declared.names.Names.{Names}

-- those at a path: of the copy, and of it and its log before it is whole
pub record AreAt (path : List ℕ) (names : Names) : Type 0 where
  pub db : string_bytes names.db ≡ path
  pub part : string_bytes names.part ≡ path ++ codes ".part"
  pub log : string_bytes names.log ≡ path ++ codes ".part-wal"
