-- Whose events are told under a token.
use Rattle.std.specs.Prelude.{ℕ, ◌-◌, nat_eq, if◌then◌else◌}
use Rattle.sockets.specs.declared.tokens.Owner.{Owner}
use Rattle.sockets.specs.declared.tokens.Owner.TheVariants.{Door, Operator, Client}

-- the first is the listening socket's, the second the operator's, and all others are clients'
abbrev pub owner_of : ℕ → Owner
owner_of token =
    if nat_eq token 0 then Door else if nat_eq token 1 then Operator else Client (token - 2)
