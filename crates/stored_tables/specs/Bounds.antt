-- The bounds of a span of time, as a file's numbers can have them.
use Rattle.std.specs.Prelude.{ℕ, ℤ, pos, min}
use Rattle.records.specs.declared.filter.Order.{Order}
use Rattle.records.specs.declared.filter.Order.TheVariants.{Oldest, Newest}
use Rattle.records.specs.declared.query.Span.{Span}

-- the greatest whole number in a file
abbrev pub max_time : ℕ
max_time = 9223372036854775807

-- where a span of time begins, in its order
abbrev pub begin_in : Order → Span → ℕ
begin_in Oldest span = span.first
begin_in Newest span = span.last

abbrev pub begin_of : Span → ℤ
begin_of span = pos (min (begin_in span.order span) max_time)
