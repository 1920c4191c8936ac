-- How a ledger that a command has come to hold has come of what the files held.
use Rattle.std.proofs.Common.{◌≡◌, ◌∙◌, ◌++◌, inl, inr, ℕ, List, Option, None, Some, Ok, Err, ap, map, sym, subst}
use Rattle.std.proofs.Math.Logic.{∥∥₁_map}
use Rattle.sqlite_disk.specs.declared.Disk as disk
use Rattle.sqlite_disk.specs.declared.Files.{Files}
use Rattle.sqlite_wal.specs.Reads.{AreClean}
use Rattle.sqlite_wal.specs.Recovery.{Image}
use Rattle.sqlite.specs.Effect.{Database}
use Rattle.sqlite.specs.Files.{file_state, image_of}
use Rattle.audit.specs.declared.damage.Damage.{Damage}
use Rattle.openings.specs.AtPath.{LeavesPath}
use Rattle.openings.specs.Found.{FindsNoSchema, FindsOne, AreOnlyThere, Yields}
use Rattle.openings.specs.Told.{IsDamagedLedger, IsFaultTold}
use Rattle.openings.specs.declared.opening.OpenFault.{OpenFault}
use Rattle.openings.specs.declared.opening.OpenFault.TheVariants.{Damaged, NotALedger}
use Rattle.std.proofs.KnownBytes.{Appends-trans}
use Rattle.std.specs.Io.KnownBytes.{Appends}
use Rattle.std.specs.String.{string_bytes}
use Rattle.serde_json.specs.Written.{compact_text}
use Rattle.stored_ledgers.specs.Listing.{AreListed}
use Rattle.stored_ledgers.specs.declared.directory.ListedTenant.{ListedTenant}
use Rattle.tenants.specs.KeyText.{key_of}
use Rattle.command_texts.specs.Lines.{key_line, tenants_line}
use Rattle.command_texts.specs.Words.{IsDigestOfKey}
use Rattle.command_texts.specs.declared.fault.Fault.TheVariants.{BadKey}
use Rattle.control.specs.Listing.{HasLines, rows_data}
use Rattle.store.specs.Refused.{RefusesToOpen}
use Rattle.store.specs.Stores.{IsLive, IsLiveAt, OfDatabase, OfDatabaseAt, OfDatabases}
use Rattle.store.specs.declared.place.Place.{Place}
use Rattle.store.specs.declared.place.Place.TheVariants as at
use Rattle.store.specs.declared.store.Store.{Store}
use Rattle.admin_client.specs.GivenKeys.{AreLinesTold, IsGivenKey, IsKeyTold, key_text}
use Rattle.commands.specs.Holding.{IsDamagedAt}
use Rattle.commands.specs.Listing.{row_of}
use Rattle.commands.specs.OverFiles.{AreListedTold}
use Rattle.commands.specs.Program.{IsNoKey}
use Rattle.admin_client.specs.declared.given_key.GivenKey.{GivenKey}
use Rattle.admin_client.specs.declared.given_key.GivenKey.TheVariants.{Word, Input, Drawn}

module _ {D : Type 0} (g : disk.Ghosts D) (image : Image) where
  first_damage :
      (files left : Files D) (damage : Damage) → image_of g files ≡ image →
      IsFaultTold g files (Damaged damage) left → FindsOne (IsDamagedLedger damage) image
  first_damage files left damage is (inl (inl missing)) = absurd (let e = missing.1 in cc)
  first_damage files left damage is (inl (inr refused)) = absurd (let e = refused.0 in cc)
  first_damage files left damage is (inr found) = subst (FindsOne (IsDamagedLedger damage)) is found

  damage_left :
      (damage : Damage) (left : Files D) →
      LeavesPath g image (RefusesToOpen g) (Damaged damage) (Some left) →
      IsDamagedAt g image damage left
  damage_left damage left (files, held, refuses) = record {
    first = λ clean. first_damage files left damage held.holds (refuses.told clean);
    stays = subst (λ (i : Image). Yields g left (AreOnlyThere i)) held.holds (refuses.stay tt).holds;
  }

  others_left :
      (left : Files D) → LeavesPath g image (RefusesToOpen g) NotALedger (Some left) →
      Yields g left (AreOnlyThere image)
  others_left left (files, held, refuses) =
      subst (λ (i : Image). Yields g left (AreOnlyThere i)) held.holds (refuses.stay tt).holds

  refused_as :
      (fault told : OpenFault) (kept : Option (Files D)) (left : Files D) → fault ≡ told →
      kept ≡ Some left → LeavesPath g image (RefusesToOpen g) fault kept →
      LeavesPath g image (RefusesToOpen g) told (Some left)
  refused_as fault told kept left is there refused =
      subst (LeavesPath g image (RefusesToOpen g) told) there
      (subst (λ (f : OpenFault). LeavesPath g image (RefusesToOpen g) f kept) is refused)

  -- an opening that tells damage leaves the files with it
  pub damage_there :
      (fault : OpenFault) (damage : Damage) (kept : Option (Files D)) (left : Files D) →
      fault ≡ Damaged damage → kept ≡ Some left →
      LeavesPath g image (RefusesToOpen g) fault kept → IsDamagedAt g image damage left
  damage_there fault damage kept left is there refused =
      damage_left damage left (refused_as fault (Damaged damage) kept left is there refused)

  -- one that tells that there is no ledger leaves what was there
  pub others_stay :
      (fault : OpenFault) (kept : Option (Files D)) (left : Files D) → fault ≡ NotALedger →
      kept ≡ Some left → LeavesPath g image (RefusesToOpen g) fault kept →
      Yields g left (AreOnlyThere image)
  others_stay fault kept left is there refused =
      others_left left (refused_as fault NotALedger kept left is there refused)

  -- what is there is what was there: no table, if there is none
  pub none_was :
      ((file : D) → g.may_leave file (g.seen file)) → (files : Files D) →
      AreClean g files.log files.db → Yields g files (AreOnlyThere image) → FindsNoSchema (image_of g files) →
      ∥ FindsNoSchema image ∥₁
  none_was stays files clean yields none =
      ∥∥₁_map (yields clean (image_of g files) (stays files.log, stays files.db))
      (λ found. record {
        db = none.db;
        sound = none.sound;
        there = subst (AreOnlyThere image) (sym (none.there.holds found.0 found.2)) found.1;
        is = none.is;
      })

module _ {D : Type 0} {g : disk.Ghosts D} where
  then_at :
      (P : Database → Type 0) (old new : Place D g) → IsLiveAt new → OfDatabaseAt P old →
      OfDatabaseAt (λ (a : Database). OfDatabaseAt (λ (b : Database). P a) new) old
  then_at P (at.Open conn) (at.Open after) live holds = holds
  then_at P (at.Open conn) (at.Shut files) live holds = absurd live
  then_at P (at.Shut files) new live holds = holds

  pub so_at :
      (P Q : Database → Type 0) (place : Place D g) → ((db : Database) → P db → Q db) →
      OfDatabaseAt P place → OfDatabaseAt Q place
  so_at P Q (at.Open conn) so holds = so (file_state conn).now holds
  so_at P Q (at.Shut files) so holds = holds

  -- what holds of a database holds of it then, as long as the store is open
  pub of_then :
      (P : Database → Type 0) (old new : Store D g) → IsLive new → OfDatabase P old →
      OfDatabases (λ a b. P a) old new
  of_then P old new live holds = then_at P old.place new.place live holds

  -- the tenants that a store has read are told, by a body that lists them
  pub listed_then :
      (old new : Store D g) (before behind : Option (List ℕ)) (tenants shown : List ListedTenant)
      (body given lines : List ℕ) → IsLive new → OfDatabase (λ db. AreListed db.trees tenants) old →
      shown ≡ tenants → body ≡ compact_text (rows_data (map row_of shown)) → given ≡ body →
      HasLines given lines → Appends before behind (tenants_line ++ lines) →
      OfDatabases (λ a b. AreListedTold a.trees before behind) old new
  listed_then old new before behind tenants shown body given lines live read same is taken listed told =
      of_then (λ (a : Database). AreListedTold a.trees before behind) old new live
      (so_at (λ (a : Database). AreListed a.trees tenants)
      (λ (a : Database). AreListedTold a.trees before behind) old.place
      (λ db theirs. record {
        tenants = tenants;
        theirs = theirs;
        lines = lines;
        listed =
            subst (λ (text : List ℕ). HasLines text lines)
            (taken ∙ is ∙ ap (λ (all : List ListedTenant). compact_text (rows_data (map row_of all))) same)
            listed;
        told = told;
      })
      read)

-- a line, and behind it a key that was drawn
pub lines_told :
    (old mid new : Option (List ℕ)) (line : List ℕ) (key : GivenKey) → Appends old mid line →
    IsKeyTold mid new key → AreLinesTold old new line key
lines_told old mid new line (Word text) front told =
    subst (λ (written : Option (List ℕ)). Appends old written line) (sym told) front
lines_told old mid new line (Input text) front told =
    subst (λ (written : Option (List ℕ)). Appends old written line) (sym told) front
lines_told old mid new line (Drawn text) front told =
    Appends-trans old mid new line (key_line (string_bytes text)) front told

-- a key that has a digest is one, also where a word gives it
pub is_key :
    (word : Option (List ℕ)) (key : GivenKey) (digest : List ℕ) → IsGivenKey word key →
    IsDigestOfKey (key_of (key_text key)) (Ok digest) → IsNoKey word → ⊥
is_key None key digest given hashed none = none
is_key (Some word) (Word text) digest given hashed none =
    let told : Ok digest ≡ Err BadKey =
    subst (λ (key : Option (List ℕ)). IsDigestOfKey key (Ok digest)) (ap key_of given.1 ∙ none.1) hashed in
    absurd (cc)
is_key (Some word) (Input text) digest given hashed none = none.0 given
is_key (Some word) (Drawn text) digest given hashed none = given
