-- The paths of copies, and their faults.
use Rattle.std.specs.Prelude.{◌≡◌, ◌++◌, ◌∷◌, ℕ, List, true, false}
use Rattle.copies.specs.declared.fault.CopyFault.{CopyFault}
use Rattle.copies.specs.declared.fault.CopyFault.TheVariants as copy
use Rattle.command_texts.specs.declared.fault.Fault.{Fault}
use Rattle.command_texts.specs.declared.fault.Fault.TheVariants.{Exists, Output, Unavailable}
use Rattle.control.specs.Orders.{is_from_root}

-- a path that begins at the root stays as it is, any other is one in some folder
pub record IsPathOf (path found : List ℕ) : Type 0 where
  pub root : is_from_root path ≡ true → found ≡ path
  pub other : is_from_root path ≡ false → (folder : List ℕ) × (found ≡ folder ++ 47 ∷ path)

-- the fault that the program tells where no copy is made
abbrev pub copy_fault : CopyFault → Fault
copy_fault copy.Exists = Exists
copy_fault copy.Failed = Output
copy_fault copy.Memory = Unavailable
