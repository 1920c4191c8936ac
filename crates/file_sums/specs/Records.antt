-- What records say of a file and its log. Lists of records have the newest first.
use Rattle.std.specs.Prelude.{ℕ, max, Bool, true, false, List, [], ◌∷◌}
use Rattle.file_sums.specs.declared.record.Record.{Record}
use Rattle.file_sums.specs.declared.record.Record.TheVariants.{Pages, Log, NoLog, Mark, Doubt}
use Rattle.file_sums.specs.declared.noted.LogNoted.{LogNoted}
use Rattle.file_sums.specs.declared.noted.LogNoted.TheVariants.{Unnamed, InUse, Done}
use Rattle.file_sums.specs.declared.noted.Noted.{Noted}

-- the same log, once what it had stands in the file
abbrev pub done : LogNoted → LogNoted
done Unnamed = Unnamed
done (InUse salt) = Done salt
done (Done salt) = Done salt

-- the log that is in use, or was last, by the newest record that speaks of one
abbrev pub log_of : List Record → LogNoted
log_of [] = Unnamed
log_of (Pages ∷ records) = done (log_of records)
log_of (Log salt ∷ records) = InUse salt
log_of (NoLog ∷ records) = done (log_of records)
log_of (Mark moment ∷ records) = log_of records
log_of (Doubt place ∷ records) = log_of records

-- the latest moment that is marked, and 0 where none is
abbrev pub mark_of : List Record → ℕ
mark_of [] = 0
mark_of (Pages ∷ records) = mark_of records
mark_of (Log salt ∷ records) = mark_of records
mark_of (NoLog ∷ records) = mark_of records
mark_of (Mark moment ∷ records) = max (mark_of records) moment
mark_of (Doubt place ∷ records) = mark_of records

-- whether a page was found to be damaged
abbrev pub has_doubt : List Record → Bool
has_doubt [] = false
has_doubt (Pages ∷ records) = has_doubt records
has_doubt (Log salt ∷ records) = has_doubt records
has_doubt (NoLog ∷ records) = has_doubt records
has_doubt (Mark moment ∷ records) = has_doubt records
has_doubt (Doubt place ∷ records) = true

-- all of that
abbrev pub noted_of : List Record → Noted
noted_of records = record {
  log = log_of records;
  mark = mark_of records;
  has_doubt = has_doubt records;
}
