-- What of a statement is asked for.
use Rattle.std.specs.Prelude.{◌≡◌, ◌⊎◌, ◌==◌, ◌^◌, ℕ, Bool, List, [], ◌∷◌, codes, decimal, Option, Some, None}
use Rattle.std.specs.Prelude.{option_and_then, if◌then◌else◌}
use Rattle.serde_json.specs.Data.{Data, boolean, string}
use Rattle.serde_json.specs.Find.{as_bool, get}
use Rattle.tenants.specs.NameText.{IsTenantName}
use Rattle.wire.specs.Body.{json_of}
use Rattle.wire.specs.Fields.{given}
use Rattle.wire.specs.Reply.{object_with}
use Rattle.command_texts.specs.declared.fault.Fault.TheVariants.{BadName, Unavailable}
use Rattle.control.specs.Numbers.{number_at}
use Rattle.control.specs.Members.{members_in, text_at}
use Rattle.control.specs.declared.piece_asked.PieceAsked.{PieceAsked}
use Rattle.control.specs.declared.refusal.Refusal.{Refusal}
use Rattle.control.specs.declared.refusal.Refusal.TheVariants.{BadRequest, Judged}

-- a tenant's name, an account, two times, and whether it is reversed
abbrev pub Wanted : Type 0
Wanted = List ℕ × ℕ × ℕ × ℕ × Bool

-- what the five members of an object tell
abbrev pub all_in : Data → Option Wanted
all_in d =
    given (text_at (codes "tenant") d) (λ tenant.
    given (number_at (2 ^ 128) (codes "account") d) (λ account.
    given (number_at (2 ^ 64) (codes "from") d) (λ from.
    given (number_at (2 ^ 64) (codes "to") d) (λ to.
    given (option_and_then as_bool (get (codes "reversed") d)) (λ is_reversed.
    Some (tenant, account, from, to, is_reversed))))))

-- the same of one that has nothing else
abbrev pub wanted_in : Data → Option Wanted
wanted_in d = option_and_then (λ n. if n == 5 then all_in d else None) (members_in d)

-- the same of a body
abbrev pub wanted_of : List ℕ → Option Wanted
wanted_of body = option_and_then wanted_in (json_of body)

-- a piece is what is wanted, of a tenant with a name
abbrev pub IsWantedPiece : Wanted → PieceAsked → Type 0
IsWantedPiece (tenant, account, from, to, is_reversed) piece =
    IsTenantName tenant
    × (piece ≡ record {
      tenant = tenant;
      account = account;
      from = from;
      to = to;
      is_reversed = is_reversed;
    })

-- the piece that a body asks for
abbrev pub IsPieceIn : List ℕ → PieceAsked → Type 0
IsPieceIn body piece =
    (wanted : Wanted) × (wanted_of body ≡ Some wanted) × IsWantedPiece wanted piece

-- it asks for none, or memory ran out
abbrev pub IsNoPieceIn : List ℕ → Refusal → Type 0
IsNoPieceIn body refusal =
    (refusal ≡ Judged Unavailable)
    ⊎ (((refusal ≡ BadRequest) × (wanted_of body ≡ None))
    ⊎ ((wanted : Wanted) × (wanted_of body ≡ Some wanted)
    × (refusal ≡ Judged BadName) × ¬ IsTenantName wanted.0))

-- the body that asks for a piece
abbrev pub piece_data : PieceAsked → Data
piece_data piece = object_with (
    (codes "tenant", string piece.tenant)
    ∷ (codes "account", string (decimal piece.account))
    ∷ (codes "from", string (decimal piece.from))
    ∷ (codes "to", string (decimal piece.to))
    ∷ (codes "reversed", boolean piece.is_reversed)
    ∷ [])
