-- A number as it is passed.
use Rattle.std.proofs.Common.{◌≡◌, ℤ, w64, to_z, of_z, FitsSigned}
use Rattle.std.proofs.lemmas.Int.{to_z-of_z}

pub passed : (number : ℤ) → FitsSigned w64 number → to_z w64 (of_z w64 number) ≡ number
passed number fits = to_z-of_z w64 number fits
