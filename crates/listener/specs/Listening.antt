-- The address that is listened on.
use Rattle.std.specs.Prelude.{◌≡◌, ℕ, List, [], ◌∷◌, Option, Some, None, Result, Ok, Err}
use Rattle.std.specs.Net.Addr.{ipv4_octets}
use Rattle.std.specs.declared.net.ip_addr.IpAddr.{IpAddr}
use Rattle.std.specs.declared.net.ip_addr.IpAddr.TheVariants.{V4, V6}
use Rattle.command_texts.specs.Words.{ReadsAddress}
use Rattle.command_texts.specs.declared.fault.Fault.{Fault}

-- 127.0.0.1, which this machine alone can reach
abbrev pub IsOwn : IpAddr → Type 0
IsOwn (V4 a) = ipv4_octets a ≡ 127 ∷ 0 ∷ 0 ∷ 1 ∷ []
IsOwn (V6 a) = ⊥

-- the address that a word spells, or 127.0.0.1 without a word
abbrev pub ReadsListening : Option (List ℕ) → Result IpAddr Fault → Type 0
ReadsListening (Some text) result = ReadsAddress text result
ReadsListening None (Ok address) = IsOwn address
ReadsListening None (Err fault) = ⊥

-- the word spells no address
abbrev pub IsNoAddress : Option (List ℕ) → Type 0
IsNoAddress word = (address : IpAddr) → ¬ ReadsListening word (Ok address)
