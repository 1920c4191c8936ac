-- What an error of `clap` is to us.
use Rattle.std.specs.Prelude.{◌≡◌, ◌≢◌}
use Rattle.clap.specs.Words.{kind_of}
use Rattle.clap.specs.declared.error.Error.{Error}
use Rattle.clap.specs.declared.error.kind.ErrorKind.TheVariants.{DisplayVersion, OutOfMemory}
use Rattle.command_line.specs.declared.fault.LineFault.{LineFault}
use Rattle.command_line.specs.declared.fault.LineFault.TheVariants.{Refused, Version, Memory}

-- want of memory stays that, and so does a call for the version; any other error is the refusal
abbrev pub IsFaultBy : Error → LineFault → Type 0
IsFaultBy error (Refused e) = (e ≡ error) × (kind_of error ≢ OutOfMemory)
IsFaultBy error Version = kind_of error ≡ DisplayVersion
IsFaultBy error Memory = kind_of error ≡ OutOfMemory
