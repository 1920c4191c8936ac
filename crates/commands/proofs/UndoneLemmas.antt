-- Why commands have not done what they were asked to do.
use Rattle.std.proofs.Common.{◌≡◌, ◌⊎◌, ◌∙◌, ap, ℕ, Bool, true, false, List, Option, Some, None, Result, Ok, Err}
use Rattle.std.proofs.Common.{IfErr, inl, inr, refl, subst, sym}
use Rattle.std.specs.Option.{ok_or}
use Rattle.std.specs.Prelude.{option_and_then}
use Rattle.std.specs.Result.{IsErrAnd}
use Rattle.sqlite_disk.specs.declared.Disk as disk
use Rattle.sqlite_trees.specs.Tree.{Trees}
use Rattle.sqlite_wal.specs.Recovery.{Image}
use Rattle.sqlite.specs.Effect.{Database}
use Rattle.amount.specs.Decimal.{decimal_of}
use Rattle.tenants.specs.KeyText.{key_of}
use Rattle.tenants.specs.NameText.{IsTenantName}
use Rattle.stored_ledgers.specs.Directory.{digest_in, tenants_in}
use Rattle.store.specs.Stores.{IsLive, OfDatabase, OfDatabases}
use Rattle.store.specs.declared.store.Store.{Store}
use Rattle.command_line.specs.declared.commands.StatementWords.{StatementWords}
use Rattle.command_texts.specs.Words.{IsDigestOfKey}
use Rattle.command_texts.specs.declared.fault.Fault.{Fault}
use Rattle.command_texts.specs.declared.fault.Fault.TheVariants.{BadKey, NoTenant, Output}
use Rattle.admin_client.specs.Asking.{IsAccountId, IsAskedInWords, is_whole}
use Rattle.admin_client.specs.Extracts.{IsAskedTold, ToldBy}
use Rattle.admin_client.specs.GivenKeys.{IsGivenKey, OfDigest, key_text}
use Rattle.commands.specs.Holding.{IsFrom, IsNotBrought}
use Rattle.commands.specs.Openings.{RefusesImage, RefusesOlder}
use Rattle.admin_client.specs.Served.{IsUnserved}
use Rattle.commands.specs.Migrating.{IsVersion}
use Rattle.commands.specs.Pieces.{machine_named}
use Rattle.commands.specs.Program.{ChangesTenant, Migrates, WritesStatement}
use Rattle.commands.specs.Undone.{IsNotMade, IsNotMigrated, IsNotWritten}
use Rattle.commands.specs.Undone.{IsUndone, IsUndoneAsked, IsUndoneWith}
use Rattle.admin_client.specs.declared.asked.Asked.{Asked}
use Rattle.commands.specs.declared.changing.TenantChange.{TenantChange}
use Rattle.commands.specs.declared.ended.Ended.{Ended}
use Rattle.admin_client.specs.declared.given_key.GivenKey.{GivenKey}
use Rattle.commands.proofs.HeldLemmas.{is_key, of_then, so_at}
use Rattle.commands.proofs.OpeningLemmas.{err_so}

-- a tenant that is not found is told as none
pub told_as_none :
    (found : Option (List ℕ)) (fault : Fault) → Err fault ≡ ok_or found NoTenant → found ≡ None →
    fault ≡ NoTenant
told_as_none None fault is none = let e = is in cc
told_as_none (Some digest) fault is none = absurd (let e = none in cc)

module _ {D : Type 0} (g : disk.Ghosts D) (image : Image) where
  module _ (P : Fault → Type 0) (fault : Fault) where
    -- why a service has not told more, or why a ledger in a file is not opened, or declines, is why
    -- a command is undone
    undone_by : IsUnserved fault ⊎ (RefusesImage g image fault ⊎ P fault) → IsUndone g image P fault
    undone_by (inl (inl called)) = inl called
    undone_by (inl (inr failed)) = inr (inl failed)
    undone_by (inr (inl refused)) = inr (inr (inl refused))
    undone_by (inr (inr declined)) = inr (inr (inr declined))

    -- also where that fault is handed on
    pub undone_in :
        {T : Type 0} (result : Result T Fault) → IsErrAnd result (λ f. f ≡ fault) →
        IsUnserved fault ⊎ (RefusesImage g image fault ⊎ P fault) → IfErr result (IsUndone g image P)
    undone_in result same why = err_so (IsUndone g image P) result fault same (undone_by why)

    -- why a ledger declines is handed on
    pub declined_in :
        {T : Type 0} (result : Result T Fault) → IsErrAnd result (λ f. f ≡ fault) → P fault →
        IfErr result (λ f. RefusesImage g image f ⊎ P f)
    declined_in result same why =
        err_so (λ (f : Fault). RefusesImage g image f ⊎ P f) result fault same (inr why)

    undone_so : (Q : Fault → Type 0) → (P fault → Q fault) → IsUndone g image P fault → IsUndone g image Q fault
    undone_so Q so (inl called) = inl called
    undone_so Q so (inr (inl failed)) = inr (inl failed)
    undone_so Q so (inr (inr (inl refused))) = inr (inr (inl refused))
    undone_so Q so (inr (inr (inr declined))) = inr (inr (inr (so declined)))

  module _ {O : Type 0} (written : O → Option (List ℕ)) (name : List ℕ) (account : ℕ) (asked : Asked)
      (out : O) where
    at_none : (whole : Bool) → ToldBy whole written None account asked out out (Err NoTenant)
    at_none true = (refl, refl)
    at_none false = (refl, refl)

    none_in :
        (trees : Trees) → digest_in name trees ≡ None →
        IsAskedTold written (machine_named name trees) account asked out out (Err NoTenant)
    none_in trees none =
        subst
        (λ (digest : Option (List ℕ)). ToldBy (is_whole asked) written
        (option_and_then (tenants_in trees) digest) account asked out out (Err NoTenant))
        (sym none) (at_none (is_whole asked))

    -- of a tenant that is not there no statement is written
    pub nobody_there :
        (old new : Store D g) (found : Option (List ℕ)) (fault : Fault) → IsFrom image old →
        (IsLive new → IsLive old) → fault ≡ NoTenant → found ≡ None →
        (IsLive new → OfDatabase (λ db. found ≡ digest_in name db.trees) old) →
        IsNotWritten g image written name account asked out fault
    nobody_there old new found fault from lived is none read = (
      new,
      record {
        first = old;
        begun = from;
        lived = lived;
        is = λ live.
            subst
            (λ (f : Fault). OfDatabases (λ a b. (given : O)
            × IsAskedTold written (machine_named name a.trees) account asked out given (Err f)) old new)
            (sym is)
            (of_then
            (λ (db : Database). (given : O)
            × IsAskedTold written (machine_named name db.trees) account asked out given (Err NoTenant))
            old new live
            (so_at (λ (db : Database). found ≡ digest_in name db.trees)
            (λ (db : Database). (given : O)
            × IsAskedTold written (machine_named name db.trees) account asked out given (Err NoTenant))
            old.place
            (λ db there. (out, none_in db.trees (subst (λ (d : Option (List ℕ)). d ≡ None) there none)))
            (read live)));
      },
    )

module _ {O D : Type 0} (g : disk.Ghosts D) (written : O → Option (List ℕ)) (image : Image) where
  -- a change is not made, for this reason
  pub not_made :
      (change : TenantChange) (db name named : List ℕ) (key : Option (List ℕ)) (out : O)
      (result : Result (Ended O D g) Fault) (fault : Fault) (given : GivenKey) (digest : List ℕ) →
      IsErrAnd result (λ f. f ≡ fault) → IsTenantName name → named ≡ name → IsGivenKey key given →
      IsDigestOfKey (key_of (key_text given)) (Ok digest) →
      IsUndone g image (IsNotMade g image change named digest) fault →
      ChangesTenant change written image db name key out result
  not_made change db name named key out (Ok ended) fault given digest same good is given_so hashed why =
      absurd same
  not_made change db name named key out (Err told) fault given digest same good is given_so hashed why =
      record {
        name_first = λ none. absurd (none good);
        key_next = λ there none. absurd (is_key key given digest given_so hashed none);
        changed = tt;
        calm = tt;
        brief = tt;
        made = tt;
        fault =
            subst (IsUndoneWith g image name key (IsNotMade g image change name)) (sym same)
            (inr (inr (undone_so g image (IsNotMade g image change named digest) fault
            (λ (f : Fault). (word : GivenKey) × IsGivenKey key word
            × OfDigest word (λ found. IsNotMade g image change name found f))
            (λ kept. (
              given,
              given_so,
              (digest, hashed, subst (λ (n : List ℕ). IsNotMade g image change n digest fault) is kept),
            ))
            why)));
      }

  no_digest :
      (key : Option (List ℕ)) (fault : Fault) → IsDigestOfKey key (Err fault) → (fault ≡ BadKey) × (key ≡ None)
  no_digest (Some text) fault hashed = absurd (let e = hashed in cc)
  no_digest None fault hashed = (let e = hashed in cc, refl)

  -- nor where the key is none
  pub no_key :
      (change : TenantChange) (db name : List ℕ) (key : Option (List ℕ)) (out : O)
      (result : Result (Ended O D g) Fault) (fault : Fault) (given : GivenKey) →
      IsErrAnd result (λ f. f ≡ fault) → IsTenantName name → IsGivenKey key given →
      IsDigestOfKey (key_of (key_text given)) (Err fault) →
      ChangesTenant change written image db name key out result
  no_key change db name key out (Ok ended) fault given same good given_so hashed = absurd same
  no_key change db name key out (Err told) fault given same good given_so hashed =
      let none = no_digest (key_of (key_text given)) fault hashed in
      let bad : told ≡ BadKey = same ∙ none.0 in
      record {
        name_first = λ no. absurd (no good);
        key_next = λ there no. ap (λ (f : Fault). Err f) bad;
        changed = tt;
        calm = tt;
        brief = tt;
        made = tt;
        fault = inr (inl (bad, (given, given_so, none.1)));
      }

  -- a statement is not written, for this reason
  pub not_written :
      (name named account : List ℕ) (words : StatementWords) (out : O)
      (result : Result (Ended O D g) Fault) (fault : Fault) (id : ℕ) (asked : Asked) →
      IsErrAnd result (λ f. f ≡ fault) → IsTenantName name → named ≡ name → IsAccountId account →
      account ≡ decimal_of id → IsAskedInWords words asked →
      IsUndone g image (IsNotWritten g image written named id asked out) fault →
      WritesStatement written image name account words out result
  not_written name named account words out (Ok ended) fault id asked same good is there at means why =
      absurd same
  not_written name named account words out (Err told) fault id asked same good is there at means why =
      record {
        name_first = λ none. absurd (none good);
        account_next = λ named none. absurd (none there);
        period_next = λ named given none. absurd (none asked.period means.period);
        form_last = λ period named given meant none. absurd (let e = means.form in cc);
        statement = tt;
        calm = tt;
        brief = tt;
        fault =
            subst (IsUndoneAsked g image written name account words out) (sym same)
            (inr (inr (inr (undone_so g image (IsNotWritten g image written named id asked out) fault
            (λ (f : Fault). (id : ℕ) × (account ≡ decimal_of id) × (asked : Asked) × IsAskedInWords words asked
            × IsNotWritten g image written name id asked out f)
            (λ kept. (
              id,
              at,
              asked,
              means,
              subst (λ (n : List ℕ). IsNotWritten g image written n id asked out fault) is kept,
            ))
            why))));
      }

  module _ (to : List ℕ) (out : O) where
    not_so :
        (result : Result (Ended O D g) Fault) (fault : Fault) → IsErrAnd result (λ f. f ≡ fault) →
        IsVersion to → IsNotMigrated g image to fault → Migrates written image to out result
    not_so (Ok ended) fault same good why = absurd same
    not_so (Err told) fault same good why = record {
      version_first = λ bad. absurd (bad good);
      fault = subst (IsNotMigrated g image to) (sym same) why;
      migrated = tt;
      calm = tt;
      brief = tt;
    }

    -- a ledger that was not opened, or is not brought to the version, is not migrated
    pub not_migrated :
        (result : Result (Ended O D g) Fault) (fault : Fault) (version : ℕ) →
        IsErrAnd result (λ f. f ≡ fault) → IsVersion to → to ≡ decimal_of version →
        RefusesOlder g image fault ⊎ IsNotBrought g image version fault →
        Migrates written image to out result
    not_migrated result fault version same good is (inl refused) =
        not_so result fault same good (inr (inl refused))
    not_migrated result fault version same good is (inr kept) =
        not_so result fault same good (inr (inr (inl (version, is, kept))))

    -- nor is one told as migrated whose line is not written
    pub line_not_written :
        (result : Result (Ended O D g) Fault) (fault : Fault) → IsErrAnd result (λ f. f ≡ fault) →
        IsVersion to → fault ≡ Output → Migrates written image to out result
    line_not_written result fault same good failed =
        not_so result fault same good (inr (inr (inr failed)))
