-- A ledger of an older version between two calls, and one that was brought to a newer version.
use Rattle.std.proofs.Common.{◌≡◌, ◌<◌, ◌≤◌, ℕ, pos, IsTrue, inl, inr, sym, ap, subst, ◌∙◌, arith}
use Rattle.std.proofs.lemmas.Bool.Decides.{leb_tells}
use Rattle.sqlite_schema.specs.declared.schema.Schema.{Schema}
use Rattle.sqlite.specs.Effect.{Database}
use Rattle.sqlite.specs.State.{State}
use Rattle.ledger_sql.specs.TableRows.{version_rows}
use Rattle.ledger_sql.specs.Values.{version_values}
use Rattle.stored_ledgers.specs.DueSets.{DueSets}
use Rattle.stored_ledgers.specs.Resting.{IsQuiet, IsResting, IsSame}
use Rattle.openings.specs.Found.{HasOrderedTables}
use Rattle.migrate.specs.Upgrading.{older_schema, IsOlder, IsOlderLedger, KeepsMachines, IsRaised}

-- where nothing changed, it is still the older ledger
pub still_older : (schema : Schema) (a b : State) → IsOlder schema a → IsSame a b
    → IsTrue b.is_open → IsOlder schema b
still_older schema a b older same is_open = record {
  rests = record {
    is_open = is_open;
    schema_is = ap (λ (d : Database). d.schema) same.now ∙ older.rests.schema_is;
    mode = same.mode;
    settled = same.now ∙ older.rests.settled ∙ sym same.committed;
    unmarked = same.unmarked;
  };
  ordered = subst HasOrderedTables (sym same.now) older.ordered;
  row = older.row;
  version = ap (λ (d : Database). version_rows d.trees) same.now ∙ older.version;
}

-- no transaction is open in it
pub older_quiet : (schema : Schema) (s : State) → IsOlder schema s → IsQuiet s
older_quiet schema s older = record {
  mode = older.rests.mode;
  settled = older.rests.settled;
  unmarked = older.rests.unmarked;
}

-- a ledger that was looked at is one between two calls
pub older_between : (version : ℕ) (s : State) → IsOlderLedger version s.now
    → HasOrderedTables s.now → IsQuiet s → IsTrue s.is_open → IsOlder (older_schema version) s
older_between version s ledger ordered quiet is_open = record {
  rests = record {
    is_open = is_open;
    schema_is = ledger.schema;
    mode = quiet.mode;
    settled = quiet.settled;
    unmarked = quiet.unmarked;
  };
  ordered = ordered;
  row = version_values (pos version);
  version = ledger.named;
}

-- one that was brought to the balance schema
pub raised_older : (v to : ℕ) (sets : DueSets) (old : Database) (s : State) → 1 ≤ v → v < to
    → to < 3 → IsRaised to sets old s.now → IsQuiet s → IsTrue s.is_open
    → IsOlder (older_schema to) s
raised_older v to sets old s known less two raised quiet is_open =
    let is : to ≡ 2 = omega (arith, known, less, two) in
    let lifted = raised.lifted two in
    subst (λ n. IsOlder (older_schema n) s) (sym is)
    (older_between 2 s lifted.ledger lifted.ordered quiet is_open)

-- in either case its machines stay
pub raised_kept : (to : ℕ) (sets : DueSets) (old new : Database) → IsRaised to sets old new
    → KeepsMachines old.trees new.trees
raised_kept to sets old new raised = elim (leb_tells 3 to) [
  | inl h ↦ (raised.current h.1).kept
  | inr h ↦ (raised.lifted h.1).kept
]

-- or to the current one
pub raised_resting : (to : ℕ) (sets : DueSets) (old : Database) (s : State) → 3 ≤ to
    → IsRaised to sets old s.now → IsQuiet s → IsResting sets s
raised_resting to sets old s three raised quiet = record {
  quiet = quiet;
  ledgers = (raised.current three).ledgers;
  covered = (raised.current three).covered;
}
