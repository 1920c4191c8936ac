-- What the words of a command ask for.
use Rattle.std.specs.Prelude.{◌≡◌, ◌&&◌, ◌==◌, ◌^◌, ◌-◌, not, if◌then◌else◌, ℕ, Bool, true, false}
use Rattle.std.specs.Prelude.{◌<◌, List, Option, Some, None, ok_or, Result, Ok, Err}
use Rattle.amount.specs.Decimal.{decimal_of}
use Rattle.command_line.specs.Values.{text_in}
use Rattle.command_line.specs.declared.commands.StatementWords.{StatementWords}
use Rattle.command_texts.specs.Dates.{ReadsMoment, first_of_day, last_of_day}
use Rattle.command_texts.specs.declared.fault.Fault.{Fault}
use Rattle.command_texts.specs.declared.fault.Fault.TheVariants.{BadFormat, BadTime}
use Rattle.records.specs.declared.filter.Order.TheVariants.{Oldest, Newest}
use Rattle.statement.specs.Form.{form_of}
use Rattle.statement.specs.declared.form.Form.{Form}
use Rattle.statement.specs.declared.form.Form.TheVariants.{Csv, Sheet, Json}
use Rattle.statement.specs.declared.period.Period.{Period}
use Rattle.admin_client.specs.declared.asked.Asked.{Asked}

-- the moment from which entries are asked for: 0 without a word
abbrev pub ReadsFrom : Option (List ℕ) → Result ℕ Fault → Type 0
ReadsFrom None result = result ≡ Ok 0
ReadsFrom (Some text) result = ReadsMoment first_of_day text result

-- the moment up to which they are: the latest without a word
abbrev pub ReadsTo : Option (List ℕ) → Result ℕ Fault → Type 0
ReadsTo None result = result ≡ Ok (2 ^ 64 - 1)
ReadsTo (Some text) result = ReadsMoment last_of_day text result

-- the form in which they are written: CSV without a word
abbrev pub read_form : Option (List ℕ) → Result Form Fault
read_form None = Ok Csv
read_form (Some name) = ok_or (form_of name) BadFormat

-- the period that the words mean
pub record MeansPeriod (words : StatementWords) (period : Period) : Type 0 where
  pub from : ReadsFrom (text_in words.from) (Ok period.from)
  pub to : ReadsTo (text_in words.to) (Ok period.to)

-- what the words ask for
pub record IsAskedInWords (words : StatementWords) (asked : Asked) : Type 0 where
  pub period : MeansPeriod words asked.period
  pub order : asked.order ≡ (if words.reversed then Newest else Oldest)
  pub form : read_form (text_in words.format) ≡ Ok asked.layout.form
  pub wide : asked.layout.is_wide ≡ words.wide
  pub sums : asked.layout.with_sums ≡ words.balances

-- why words ask for nothing: a bound is no moment; or else the form is none
abbrev pub IsUnasked : StatementWords → Fault → Type 0
IsUnasked words BadTime = (period : Period) → ¬ MeansPeriod words period
IsUnasked words BadFormat = ((period : Period) × MeansPeriod words period)
    × (read_form (text_in words.format) ≡ Err BadFormat)
IsUnasked words fault = ⊥

-- whether a form is that of the service
abbrev pub is_csv : Form → Bool
is_csv Csv = true
is_csv Sheet = false
is_csv Json = false

-- whether the whole statement is asked for, as the service tells it
abbrev pub is_whole : Asked → Bool
is_whole asked =
    ((asked.period.from == 0) && (asked.period.to == 2 ^ 64 - 1))
    && is_csv asked.layout.form && not asked.layout.is_wide && not asked.layout.with_sums

-- an account's id, in canonical decimal
abbrev pub IsAccountId : List ℕ → Type 0
IsAccountId text = (id : ℕ) × (id < 2 ^ 128) × (text ≡ decimal_of id)
