-- The counts of a service, as a body and as lines.
use Rattle.std.specs.Prelude.{◌≡◌, ℕ, List, [], ◌∷◌, ◌++◌, codes, decimal, map, Option, Some, option_map, option_and_then}
use Rattle.serde_json.specs.Data.{Data, string, Members, no_members, member}
use Rattle.serde_json.specs.Find.{as_object, as_str, get}
use Rattle.wire.specs.Body.{json_of}
use Rattle.wire.specs.Reply.{object_with}
use Rattle.command_texts.specs.Lines as lines
use Rattle.control.specs.declared.counting.Count.{Count}
use Rattle.control.specs.declared.counting.CountForm.{CountForm}
use Rattle.control.specs.declared.counting.CountForm.TheVariants.{Plain, Metric}

-- a count under its name, as a text
abbrev pub count_member : Count → List ℕ × Data
count_member count = (count.name.now, string (decimal count.value))

-- the counts in their order
abbrev pub counts_data : List Count → Data
counts_data counts =
    object_with ((codes "status", object_with (map count_member counts)) ∷ [])

-- the line of a count
abbrev pub line_of : CountForm → List ℕ → List ℕ → List ℕ
line_of Plain name count = lines.count_line name count
line_of Metric name count = lines.metric_line name count

-- the line of a member
abbrev pub line_in : CountForm → List ℕ → Data → Option (List ℕ)
line_in form name d = option_map (line_of form name) (as_str d)

-- the lines of all
abbrev pub lines_in : CountForm → Members → Option (List ℕ)
lines_in form no_members = Some []
lines_in form (member name d ms) =
    option_and_then (λ line. option_map (λ rest. line ++ rest) (lines_in form ms))
    (line_in form name d)

-- a body has these lines
abbrev pub IsCounted : CountForm → List ℕ → List ℕ → Type 0
IsCounted form body lines =
    option_and_then (lines_in form) (option_and_then as_object
    (option_and_then (get (codes "status")) (json_of body))) ≡ Some lines
