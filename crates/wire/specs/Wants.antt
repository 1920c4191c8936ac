-- What is wanted of a body, in words.
use Rattle.std.specs.Prelude.{ℕ, List, ◌++◌, codes}
use Rattle.std.specs.Fmt.{decimal}
use Rattle.wire.specs.declared.wanted.Wanted.{Wanted}
use Rattle.wire.specs.declared.wanted.Wanted.TheVariants.{Json, List as AList, Few, Object}
use Rattle.wire.specs.declared.wanted.Wanted.TheVariants.{KnownName, Digits128, Digits64, WholeBelow}
use Rattle.wire.specs.declared.wanted.Wanted.TheVariants.{Limit}

-- what a body, an event or a field is to be
abbrev pub want_text : Wanted → List ℕ
want_text Json = codes "JSON"
want_text AList = codes "a list"
want_text Few = codes "at most 1,000 events or ids"
want_text Object = codes "an object"
want_text KnownName = codes "known fields only"
want_text Digits128 = codes "a string of decimal digits, with no zero in front, below 2^128"
want_text Digits64 = codes "a string of decimal digits, with no zero in front, below 2^64"
want_text (WholeBelow bound) = codes "a whole number below " ++ decimal bound
want_text Limit = codes "a whole number from 1 to 1,000"
