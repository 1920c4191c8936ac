-- The bodies that tell what was done.
use Rattle.std.specs.Prelude.{◌≡◌, ℕ, List, [], ◌∷◌, codes, decimal, true, Option, Some, option_and_then}
use Rattle.serde_json.specs.Data.{Data, boolean, string}
use Rattle.serde_json.specs.Find.{as_bool, get}
use Rattle.wire.specs.Body.{json_of}
use Rattle.wire.specs.Reply.{object_with}
use Rattle.control.specs.Members.{text_at}

-- an object with one text
abbrev pub named_data : List ℕ → List ℕ → Data
named_data member text = object_with ((member, string text) ∷ [])

-- a tenant was added
abbrev pub added_data : List ℕ → Data
added_data name = named_data (codes "added") name

-- it has another key
abbrev pub changed_data : List ℕ → Data
changed_data name = named_data (codes "changed") name

-- a copy is made, and has so many bytes
abbrev pub copied_data : ℕ → Data
copied_data bytes = named_data (codes "copied") (decimal bytes)

-- a service has ended
abbrev pub stopped_data : Data
stopped_data = object_with ((codes "stopped", boolean true) ∷ [])

-- the text that a body tells under a name
abbrev pub text_told : List ℕ → List ℕ → Option (List ℕ)
text_told member body = option_and_then (text_at member) (json_of body)

-- a body tells that the tenant of this name was added
abbrev pub IsAddedIn : List ℕ → List ℕ → Type 0
IsAddedIn name body = text_told (codes "added") body ≡ Some name

-- it tells that the tenant has another key
abbrev pub IsChangedIn : List ℕ → List ℕ → Type 0
IsChangedIn name body = text_told (codes "changed") body ≡ Some name

-- it tells that a service has ended
abbrev pub IsStoppedIn : List ℕ → Type 0
IsStoppedIn body =
    option_and_then as_bool (option_and_then (get (codes "stopped")) (json_of body)) ≡ Some true
