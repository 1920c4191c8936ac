-- What a message orders, or why it is refused.
use Rattle.std.specs.Prelude.{◌≡◌, ◌⊎◌, ◌==◌, ℕ, Bool, false, List, [], ◌∷◌, codes, String, string_bytes, Option, Some, None, option_map, option_and_then, Ok, Err, if◌then◌else◌}
use Rattle.std.specs.declared.alloc.Global.{Global}
use Rattle.serde_json.specs.Data.{Data}
use Rattle.sha2.specs.Sha256.{sha256}
use Rattle.tenants.specs.KeyText.{key_of}
use Rattle.tenants.specs.NameText.{IsTenantName}
use Rattle.wire.specs.Body.{json_of}
use Rattle.command_texts.specs.declared.fault.Fault.TheVariants.{BadName, BadKey, Unavailable}
use Rattle.control.specs.Calls.{asked_at}
use Rattle.control.specs.Members.{members_in, text_at}
use Rattle.control.specs.Parts.{HasNoParts, HasParts}
use Rattle.control.specs.PieceAsked.{IsNoPieceIn, IsPieceIn}
use Rattle.control.specs.declared.asked.Asked.{Asked}
use Rattle.control.specs.declared.asked.Asked.TheVariants as asks
use Rattle.control.specs.declared.orders.NamedKey.{NamedKey}
use Rattle.control.specs.declared.orders.Order.{Order}
use Rattle.control.specs.declared.orders.Order.TheVariants as orders
use Rattle.control.specs.declared.piece_asked.PieceAsked.{PieceAsked}
use Rattle.control.specs.declared.refusal.Refusal.{Refusal}
use Rattle.control.specs.declared.refusal.Refusal.TheVariants.{BadRequest, Judged}

-- the name and the key of an object
abbrev pub both_texts : Data → Option (List ℕ × List ℕ)
both_texts d =
    option_and_then (λ name. option_map (λ key. (name, key)) (text_at (codes "key") d))
    (text_at (codes "name") d)

-- the same of one that has nothing else
abbrev pub texts_in : Data → Option (List ℕ × List ℕ)
texts_in d = option_and_then (λ n. if n == 2 then both_texts d else None) (members_in d)

-- the same of a body
abbrev pub texts_of : List ℕ → Option (List ℕ × List ℕ)
texts_of body = option_and_then texts_in (json_of body)

-- a path from the root on, which is the same in any folder
abbrev pub is_from_root : List ℕ → Bool
is_from_root [] = false
is_from_root (byte ∷ bytes) = byte == 47

-- such a path in an object
abbrev pub path_at : Data → Option (List ℕ)
path_at d =
    option_and_then (λ path. if is_from_root path then Some path else None)
    (text_at (codes "to") d)

-- the same of one that has nothing else
abbrev pub path_in : Data → Option (List ℕ)
path_in d = option_and_then (λ n. if n == 1 then path_at d else None) (members_in d)

-- the same of a body
abbrev pub path_of : List ℕ → Option (List ℕ)
path_of body = option_and_then path_in (json_of body)

-- the name is a tenant's, and the digest is that of the key
abbrev pub IsNamedKey : List ℕ → List ℕ → NamedKey → Type 0
IsNamedKey name key named =
    IsTenantName name × (named.name ≡ name) × (option_map sha256 (key_of key) ≡ Some named.digest)

-- the name is none, or the key is none
abbrev pub IsRefusedKey : List ℕ → List ℕ → Refusal → Type 0
IsRefusedKey name key refusal =
    ((refusal ≡ Judged BadName) × ¬ IsTenantName name)
    ⊎ ((refusal ≡ Judged BadKey) × IsTenantName name × (key_of key ≡ None))

-- what a body tells of a tenant
abbrev pub IsNamedIn : List ℕ → NamedKey → Type 0
IsNamedIn body named =
    (texts : List ℕ × List ℕ) × (texts_of body ≡ Some texts) × IsNamedKey texts.0 texts.1 named

-- it tells of none, or memory ran out
abbrev pub IsRefusedIn : List ℕ → Refusal → Type 0
IsRefusedIn body refusal =
    (refusal ≡ Judged Unavailable)
    ⊎ (((refusal ≡ BadRequest) × (texts_of body ≡ None))
    ⊎ ((texts : List ℕ × List ℕ) × (texts_of body ≡ Some texts)
    × IsRefusedKey texts.0 texts.1 refusal))

-- a body tells of no path, or memory ran out
abbrev pub IsNoPathIn : List ℕ → Refusal → Type 0
IsNoPathIn body refusal =
    (refusal ≡ Judged Unavailable) ⊎ ((refusal ≡ BadRequest) × (path_of body ≡ None))

-- what is ordered, by what is asked and the body
abbrev pub IsOrderBy : Asked → List ℕ → Order → Type 0
IsOrderBy asks.Tenants body order = order ≡ orders.Tenants
IsOrderBy asks.AddTenant body order =
    (named : NamedKey) × IsNamedIn body named × (order ≡ orders.AddTenant named.name named.digest)
IsOrderBy asks.ChangeKey body order =
    (named : NamedKey) × IsNamedIn body named × (order ≡ orders.ChangeKey named.name named.digest)
IsOrderBy asks.Status body order = order ≡ orders.Status
IsOrderBy asks.Copy body order =
    (path : String Global) × (path_of body ≡ Some (string_bytes path)) × (order ≡ orders.Copy path)
IsOrderBy asks.Statement body order =
    (piece : PieceAsked) × IsPieceIn body piece × (order ≡ orders.Statement piece)
IsOrderBy asks.Stop body order = order ≡ orders.Stop

-- why it is refused; only bodies that tell of a tenant, a path or a piece are
-- looked at
abbrev pub IsRefusedBy : Asked → List ℕ → Refusal → Type 0
IsRefusedBy asks.Tenants body refusal = ⊥
IsRefusedBy asks.AddTenant body refusal = IsRefusedIn body refusal
IsRefusedBy asks.ChangeKey body refusal = IsRefusedIn body refusal
IsRefusedBy asks.Status body refusal = ⊥
IsRefusedBy asks.Copy body refusal = IsNoPathIn body refusal
IsRefusedBy asks.Statement body refusal = IsNoPieceIn body refusal
IsRefusedBy asks.Stop body refusal = ⊥

-- what a message orders
abbrev pub IsOrderOf : List ℕ → Order → Type 0
IsOrderOf message order =
    (method path body : List ℕ) × HasParts message method path body
    × (asked : Asked) × (asked_at method path ≡ Ok asked) × IsOrderBy asked body order

-- why it is refused: it is none, no call is at its method and path, or its body is not good
abbrev pub IsRefusedOf : List ℕ → Refusal → Type 0
IsRefusedOf message refusal =
    ((refusal ≡ BadRequest) × HasNoParts message)
    ⊎ ((method path body : List ℕ) × HasParts message method path body
    × ((asked_at method path ≡ Err refusal)
    ⊎ ((asked : Asked) × (asked_at method path ≡ Ok asked) × IsRefusedBy asked body refusal)))
