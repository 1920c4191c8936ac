-- Why a body is refused, and where, as `lint` tells it.
use Rattle.std.specs.Prelude.{ℕ, List, [], ◌∷◌, ◌++◌, codes}
use Rattle.std.specs.Fmt.{decimal}
use Rattle.std.specs.Option.{option_map_or}
use Rattle.wire.specs.declared.body_fault.BodyFault.{BodyFault}
use Rattle.wire.specs.declared.wanted.Wanted.{Wanted}
use Rattle.wire.specs.declared.wanted.Wanted.TheVariants as wanted
use Rattle.wire.specs.Wants.{want_text}

-- what is there in place of what is wanted
abbrev pub lack_text : Wanted → List ℕ
lack_text wanted.Few = codes "more than 1,000 events or ids"
lack_text wanted.KnownName = codes "a field that nobody knows"
lack_text other = codes "not " ++ want_text other

-- what stands in a list: events, or in a look-up ids, which are digits themselves
abbrev pub noun_for : Wanted → List ℕ
noun_for wanted.Digits128 = codes "id"
noun_for other = codes "event"

abbrev pub noun : BodyFault → List ℕ
noun fault = option_map_or (λ name. codes "event") fault.field (noun_for fault.wanted)

-- the event or id, counted from 1
abbrev pub place_text : BodyFault → List ℕ
place_text fault =
    option_map_or (λ number. noun fault ++ 32 ∷ decimal number ++ codes ": ") fault.event []

-- the field
abbrev pub field_text : BodyFault → List ℕ
field_text fault = option_map_or (λ name. name ++ codes ": ") fault.field []

-- the line: the event, the field, and what is there in place of what is wanted
abbrev pub body_line : BodyFault → List ℕ
body_line fault =
    place_text fault
    ++ field_text fault
    ++ lack_text fault.wanted
    ++ 10 ∷ []
