-- Keys and addresses on the command line.
use Rattle.std.specs.Prelude.{◌≡◌, ℕ, List, Option, Some, None, Result, Ok, Err}
use Rattle.std.specs.Net.Grammar.{IsIpText}
use Rattle.std.specs.declared.net.ip_addr.IpAddr.{IpAddr}
use Rattle.sha2.specs.Sha256.{sha256}
use Rattle.command_texts.specs.declared.fault.Fault.{Fault}
use Rattle.command_texts.specs.declared.fault.Fault.TheVariants.{BadAddress, BadKey}

-- the digest of the key that is read, or the fault where none is
abbrev pub IsDigestOfKey : Option (List ℕ) → Result (List ℕ) Fault → Type 0
IsDigestOfKey (Some key) result = result ≡ Ok (sha256 key)
IsDigestOfKey None result = result ≡ Err BadKey

-- the address that a text spells, in digits, is read; or it spells none
abbrev pub ReadsAddress : List ℕ → Result IpAddr Fault → Type 0
ReadsAddress text (Ok address) = IsIpText text address
ReadsAddress text (Err fault) =
    (fault ≡ BadAddress) × ((address : IpAddr) → ¬ IsIpText text address)
