-- What a service counts of what it has done.
use Rattle.std.specs.Prelude.{◌+◌, ◌-◌, ◌^◌, ℕ, Option, Some, None, min}
use Rattle.command_texts.specs.Faults.{status_of}
use Rattle.command_texts.specs.declared.fault.Fault.{Fault}
use Rattle.polling.specs.declared.batch.Batch.{Batch}
use Rattle.polling.specs.declared.batch.Batch.TheVariants.{Accounts, Transfers}
use Rattle.listener.specs.declared.events.Events.{Events}
use Rattle.listener.specs.declared.tally.Tally.{Tally}

-- a count, which stays at the greatest number that it can be
abbrev pub up_to_most : ℕ → ℕ
up_to_most count = min count (2 ^ 64 - 1)

-- one opening more, which has succeeded, or was refused, as the last one so far
abbrev pub tried : Option Fault → Tally → Tally
tried None tally = record tally { reopened = up_to_most (tally.reopened + 1) }
tried (Some fault) tally =
    record tally { closed = up_to_most (tally.closed + 1); last_refusal = status_of fault }

-- those of one and the other
abbrev pub together : Events → Events → Events
together one other = record {
  accepted = up_to_most (one.accepted + other.accepted);
  refused = up_to_most (one.refused + other.refused);
}

-- a batch with these events more
abbrev pub with_events : Batch → Events → Tally → Tally
with_events Accounts events tally =
    record tally { accounts = together tally.accounts events }
with_events Transfers events tally =
    record tally { transfers = together tally.transfers events }
