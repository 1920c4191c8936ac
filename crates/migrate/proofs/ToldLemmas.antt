-- Which fault is told of an older ledger, and of any.
use Rattle.std.proofs.Common.{◌≡◌, ◌≤◌, ℕ, ℤ, pos, ◌<ℤ◌, Result, Ok, Err, IfErr, inl, inr, sym, subst, ◌∙◌, arith}
use Rattle.std.proofs.lemmas.Int.{ints}
use Rattle.rows.specs.declared.all_rows.AllRows.{AllRows}
use Rattle.sqlite.specs.Effect.{Database}
use Rattle.openings.specs.Damage.{HasFirstDamage, IfOpeningDamaged, NamesVersion}
use Rattle.openings.specs.NameLaws.{good_names}
use Rattle.openings.specs.Told.{NamesVersionOf, Warrants}
use Rattle.openings.specs.Whole.{AreAllRows}
use Rattle.openings.specs.declared.opening.OpenFault.{OpenFault}
use Rattle.openings.specs.declared.opening.OpenFault.TheVariants as fault
use Rattle.migrate.specs.Told.{TellsAny, TellsOfRows, TellsOlder}
use Rattle.migrate.specs.Upgrading.{older_schema}

-- where each of two facts is had of the fault that is told, a third is
pub both_err : {T E : Type 0} (r : Result T E) (P Q R : E → Type 0) → ((e : E) → P e → Q e → R e)
    → IfErr r P → IfErr r Q → IfErr r R
both_err (Ok done) P Q R more p q = tt
both_err (Err e) P Q R more p q = more e p q

-- by the rows that were read
pub told_rows : (version : ℕ) (told : OpenFault) (db : Database) (rows : AllRows)
    → db.schema ≡ older_schema version → AreAllRows version db.trees rows → TellsOfRows told rows
    → IfOpeningDamaged told (λ damage. HasFirstDamage version damage db.trees) → TellsOlder version told db
told_rows version fault.InUse db rows schema read of first = absurd of
told_rows version fault.Unreadable db rows schema read of first = absurd of
told_rows version fault.NotALedger db rows schema read of first =
    inr (record { schema = schema; names = λ good. of (good rows read) })
told_rows version fault.OldSchema db rows schema read of first = absurd of
told_rows version fault.NewerSchema db rows schema read of first = absurd of
told_rows version (fault.Damaged damage) db rows schema read of first = record {
  schema = schema;
  names = good_names version db.trees rows read of;
  damaged = first;
}
told_rows version (fault.Unavailable why) db rows schema read of first = tt

-- a file that names the current version is told no old one
version_is : (db : Database) (version : ℕ) (a : ℤ) → NamesVersion (pos version) db.trees → NamesVersion a db.trees
    → a ≡ pos version
version_is db version a one two = let same = sym two ∙ one in cc

below : (a : ℤ) (version : ℕ) → a <ℤ pos 3 → a ≡ pos version → 3 ≤ version → ⊥
below a version less is three = omega (arith, ints, less, is, three)

not_below : (db : Database) (version : ℕ) → 3 ≤ version → NamesVersion (pos version) db.trees
    → NamesVersionOf (λ number. (pos 0 <ℤ number) × (number <ℤ pos 3)) db → ⊥
not_below db version three names old =
    below old.version version old.is.1 (version_is db version old.version names old.named) three

pub told_current : (db : Database) (version : ℕ) (told : OpenFault) → 3 ≤ version
    → NamesVersion (pos version) db.trees → Warrants told db → TellsAny told db
told_current db version told three names tells =
    inl (λ is. not_below db version three names (subst (λ (t : OpenFault). Warrants t db) is tells), tells)
