-- How many members an object has.
use Rattle.std.proofs.Common.{◌≡◌, List, [], ◌∷◌, String, Global, ap, length, refl, suc}
use Rattle.serde_json.specs.View.{members_view}
use Rattle.serde_json.specs.declared.value.Value.{Value}
use Rattle.control.specs.Members.{count}

pub count_is : (es : List (String Global × Value)) → count (members_view es) ≡ length es
count_is [] = refl
count_is (e ∷ es) = ap suc (count_is es)
