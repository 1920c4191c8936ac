-- The pieces of a statement, as a ledger has them that goes on between them.
use Rattle.std.specs.Prelude.{◌≡◌, ◌∷◌, ℕ, List, Option, Some, Ok}
use Rattle.std.specs.Io.KnownBytes.{Appends}
use Rattle.chain.specs.AccountEntries.{account_entries, entry_time}
use Rattle.chain.specs.Pages.{all_within}
use Rattle.control.specs.declared.entries.Entries.{Entries}
use Rattle.control.specs.declared.piece_asked.PieceAsked.{PieceAsked}
use Rattle.engine.specs.Following.{ContinuesAfter}
use Rattle.records.specs.Machine.{Machine}
use Rattle.records.specs.Valid.{IsValid}
use Rattle.commands.specs.Desk.{span_of}
use Rattle.admin_client.specs.Extracts.{IsAskedTold}
use Rattle.parts.specs.Pieces.{IsPiece}
use Rattle.admin_client.specs.Served.{ComeBehind, entries_of, first_asked, served_text, up_to}
use Rattle.admin_client.specs.declared.asked.Asked.{Asked}

-- a piece is what a tenant's machine has of it, as the service reads it
abbrev pub IsPieceRead : Machine → PieceAsked → Entries → Type 0
IsPieceRead m asked piece =
    IsPiece asked.account (span_of asked) m
    (record { clock = piece.clock; entries = piece.entries })

-- it is what a machine has of it that continues this one
abbrev pub IsPieceOfLater : Machine → PieceAsked → Entries → Type 0
IsPieceOfLater m asked piece =
    (later : Machine) × ContinuesAfter m later × IsPieceRead later asked piece

-- the first piece is what a tenant's machine has of it, and each that comes behind, up to its
-- clock, is what a machine has of it that continues this one
pub record AreReadFrom (m : Machine) (asked : PieceAsked) (first : Entries) (pieces : List Entries)
    : Type 0 where
  pub valid : IsValid m
  pub begin : IsPieceRead m asked first
  pub behind : ComeBehind (IsPieceOfLater m) (up_to first.clock asked) first pieces

-- such pieces have the account's entries in the span that is asked for, as they are in the first
-- machine: each once, and in order
abbrev pub PiecesMakeTheWhole : Type 0
PiecesMakeTheWhole =
    (m : Machine) (asked : PieceAsked) (first : Entries) (pieces : List Entries)
    → AreReadFrom m asked first pieces
    → entries_of (first ∷ pieces)
    ≡ all_within entry_time (span_of asked) (account_entries m asked.account)

-- and what is written of them is what is asked for of the account's statement in that machine, as
-- where nobody serves the file
abbrev pub PiecesMakeTheStatement : Type 0
PiecesMakeTheStatement =
    (m : Machine) (tenant : List ℕ) (account : ℕ) (asked : Asked) (first : Entries)
    (pieces : List Entries) → AreReadFrom m (first_asked tenant account asked) first pieces
    → (old new : Option (List ℕ))
    → Appends old new (served_text account asked (entries_of (first ∷ pieces)))
    → IsAskedTold (λ bytes. bytes) (Some m) account asked old new (Ok tt)
