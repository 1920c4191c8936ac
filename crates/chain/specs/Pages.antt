-- A page that is made step by step: of a draft, by looking at more records.
use Rattle.std.specs.Prelude.{◌≡◌, ℕ, ◌+◌, ◌-◌, ◌<◌, ◌≤◌, ◌==◌, nat_le, if◌then◌else◌, Bool, true, false}
use Rattle.std.specs.Prelude.{All, is_some, Option, List, [], ◌∷◌, ◌++◌, length, filter, take}
use Rattle.std.specs.List.{filter_map}
use Rattle.records.specs.declared.filter.Order.{Order}
use Rattle.records.specs.declared.filter.Order.TheVariants.{Oldest, Newest}
use Rattle.records.specs.declared.query.PageFilter.{PageFilter}
use Rattle.records.specs.declared.query.Span.{Span}
use Rattle.records.specs.Queries.{Page, is_within, page_order, page_span}
use Rattle.records.specs.Queries.{time_behind}
use Rattle.records.specs.Reads.{in_order}
use Rattle.records.specs.Step.{max_clock}
use Rattle.chain.specs.declared.pages.Draft.{Draft}

-- a record of a machine: its time is one that records have, and this holds of it
pub record IsRecord {A : Type 0} (time : A → ℕ) (Kept : A → Type 0) (it : A) : Type 0 where
  pub positive : 0 < time it
  pub bounded : time it ≤ max_clock
  pub kept : Kept it

-- whether a time comes before another one in an order
abbrev pub ComesBefore : Order → ℕ → ℕ → Type 0
ComesBefore Oldest time later = time < later
ComesBefore Newest time later = later < time

-- records whose times run in an order
abbrev pub RunsIn : {A : Type 0} → (A → ℕ) → Order → List A → Type 0
RunsIn time order [] = Unit {0}
RunsIn time order (it ∷ more) =
    All (λ later. ComesBefore order (time it) (time later)) more × RunsIn time order more

-- the records of a machine, whose times rise
pub record AreRecords {A : Type 0} (time : A → ℕ) (Kept : A → Type 0) (records : List A) :
    Type 0 where
  pub rise : RunsIn time Oldest records
  pub each : All (IsRecord time Kept) records

-- what a draft is: what the page shows so far, and the time behind what it has looked at
abbrev pub page_of : {B : Type 0} → Draft B → Page B
page_of draft = record { entries = draft.entries.items; next = draft.behind }

-- the time behind the last of some records, or this one behind none
abbrev pub behind_last : {A : Type 0} → (A → ℕ) → Order → ℕ → List A → ℕ
behind_last time order behind [] = behind
behind_last time order behind (it ∷ more) =
    behind_last time order (time_behind order (time it)) more

-- of the records that are looked at, those that a page shows that has room for so many
abbrev pub chosen_of : {A B : Type 0} → (A → Option B) → ℕ → List A → List A
chosen_of shown room looked = take room (filter (λ it. is_some (shown it)) looked)

-- the time with which the next page is asked for, by what is looked at and what is chosen of it
abbrev pub next_after : {A : Type 0} → (A → ℕ) → Order → ℕ → ℕ → ℕ → List A → List A → ℕ
next_after time order room left behind chosen looked =
    if length chosen == room then behind_last time order behind chosen
    else if length looked == left then behind_last time order behind looked
    else 0

-- the page that comes of a draft by looking at the rest of the records, at so many at most
unfoldable pub page_on :
    {A B : Type 0} → (A → ℕ) → (A → Option B) → PageFilter → ℕ → List A → Page B → Page B
page_on time shown asked left rest draft =
    let room = asked.limit - length draft.entries in
    let looked = take left rest in
    let chosen = chosen_of shown room looked in
    record {
      entries = draft.entries ++ filter_map shown chosen;
      next = next_after time (page_order asked) room left draft.next chosen looked;
    }

-- whether a page has as many records as are asked for
abbrev pub is_full : {B : Type 0} → PageFilter → Page B → Bool
is_full asked draft = nat_le asked.limit (length draft.entries)

-- a draft that has looked at these records, or is full: the page comes of it by looking at the rest
pub record LooksThrough {A B : Type 0} (time : A → ℕ) (shown : A → Option B) (asked : PageFilter)
    (looked : List A) (old new : Page B) : Type 0 where
  pub goes_on :
      (left : ℕ) (rest : List A) →
      page_on time shown asked (left + length looked) (looked ++ rest) old
      ≡ page_on time shown asked left rest new
  pub behind :
      is_full asked new ≡ false →
      new.next ≡ behind_last time (page_order asked) old.next looked

-- the span with the rest of the times of another, from this one on in this order
abbrev pub span_towards : Order → Span → ℕ → Span
span_towards Oldest span time = record span { first = time }
span_towards Newest span time = record span { last = time }

-- in its own order
abbrev pub span_behind : Span → ℕ → Span
span_behind span time = span_towards span.order span time

-- all records in a span of time, in its order
abbrev pub all_within : {A : Type 0} → (A → ℕ) → Span → List A → List A
all_within time span records =
    in_order span.order (filter (λ it. is_within span (time it)) records)

-- a draft that has looked at the first records of a span: the page comes of it by looking at those
-- behind them, or, where it has ended, is it
pub record LooksWithin {A B : Type 0} (time : A → ℕ) (shown : A → Option B) (asked : PageFilter)
    (records : List A) (span : Span) (old new : Page B) (ended : Bool) : Type 0 where
  pub goes_on :
      ended ≡ false → (left : ℕ) → span.most ≤ left →
      page_on time shown asked left (all_within time span records) old
      ≡ page_on time shown asked (left - span.most)
      (all_within time (span_behind span new.next) records) new
  pub ends :
      ended ≡ true → (left : ℕ) → span.most ≤ left →
      page_on time shown asked left (all_within time span records) old ≡ new

-- what is shown of all records in the span of a page, up to its limit
abbrev pub first_shown :
    {A B : Type 0} → (A → ℕ) → (A → Option B) → PageFilter → List A → List B
first_shown time shown asked records =
    filter_map shown (chosen_of shown asked.limit (all_within time (page_span asked) records))
