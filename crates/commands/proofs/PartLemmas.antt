-- Reading of an account, as what happens between turns.
use Rattle.std.proofs.Common.{◌≡◌, ◌⊎◌, ◌∙◌, inl, inr, ℕ, List, [], Option, Some, IfSome, Result, Ok, Err, refl, sym, subst}
use Rattle.std.specs.Result.{result_ok}
use Rattle.records.specs.Machine.{Machine}
use Rattle.chain.specs.LedgerReads.{IsTold, ReadsOnly}
use Rattle.chain.specs.Ledgers.{Tenants, LedgersMeaning, Finds, KeepsAll}
use Rattle.chain.specs.declared.reads.ReadFault.{ReadFault}
use Rattle.chain.specs.declared.reads.ReadFault.TheVariants as fault
use Rattle.parts.specs.Parts.{IsPart, IsPartTold}
use Rattle.parts.specs.declared.rest.Part.{Part}
use Rattle.parts.specs.declared.rest.Rest.{Rest}
use Rattle.wire.specs.declared.read.Read.TheVariants.{Statement}
use Rattle.service.specs.Courses.{Ending, Done, Declined, Unavailable, Happens, Tried}
use Rattle.service.specs.Deeds.{IsDeedDone}
use Rattle.service.specs.Openings.{run_meaning, FoundAfter, As_now, As_before, As_done, IsSettled, Moves}
use Rattle.service.proofs.ServedReads.{left_alone}
use Rattle.commands.specs.Pieces.{asked_for}

-- how reading it ended
abbrev pub read_ending : {A : Type 0} → Result A ReadFault → Ending
read_ending (Ok answer) = Done
read_ending (Err fault.UnknownKey) = Declined
read_ending (Err fault.NoAccount) = Declined
read_ending (Err fault.NoHistory) = Unavailable
read_ending (Err (fault.Unavailable why)) = Unavailable
read_ending (Err (fault.Sink why)) = Unavailable

-- where nothing has changed, it is done as the tenant's own question would be
kept_done :
    (digest : List ℕ) (account : ℕ) (old new : Tenants) → KeepsAll old new →
    IsDeedDone (asked_for digest account) old new
kept_done digest account old new keeps = record {
  may = tt;
  own = keeps digest ∙ sym (left_alone (Statement account) 0 (old digest));
  others = λ other differs. keeps other;
}

read_happens :
    {A : Type 0} (digest : List ℕ) (account : ℕ) (result : Result A ReadFault) (old new : Tenants) →
    KeepsAll old new → Happens old (Tried (asked_for digest account) (read_ending result)) new
read_happens digest account (Ok answer) old new keeps = kept_done digest account old new keeps
read_happens digest account (Err fault.UnknownKey) old new keeps = keeps
read_happens digest account (Err fault.NoAccount) old new keeps = keeps
read_happens digest account (Err fault.NoHistory) old new keeps = keeps
read_happens digest account (Err (fault.Unavailable why)) old new keeps = keeps
read_happens digest account (Err (fault.Sink why)) old new keeps = keeps

module _ {S : Type 0} (t : LedgersMeaning S) (digest : List ℕ) (account : ℕ) (old new : S) where
  untold :
      (ending : Ending) → ending ≡ Unavailable → (found : Tenants) →
      t.may_find old found ⊎ (t.is_live old × KeepsAll (t.tenants old) found) →
      FoundAfter (run_meaning t) old (Tried (asked_for digest account) Unavailable) new found
  untold ending is found (inl before) = As_before tt before
  untold ending is found (inr led) =
      As_done (asked_for digest account) [] refl led.0 (
        found,
        kept_done digest account (t.tenants old) found led.1,
        λ other. refl,
      )

  read_found :
      {A : Type 0} (result : Result A ReadFault) → Finds t (IsTold result) KeepsAll old new →
      IsSettled (run_meaning t) new → (found : Tenants) → t.may_find new found →
      FoundAfter (run_meaning t) old (Tried (asked_for digest account) (read_ending result)) new found
  read_found (Ok answer) finds settled found may =
      let live = finds.live tt found may in As_now live (settled live found may)
  read_found (Err fault.UnknownKey) finds settled found may =
      let live = finds.live tt found may in As_now live (settled live found may)
  read_found (Err fault.NoAccount) finds settled found may =
      let live = finds.live tt found may in As_now live (settled live found may)
  read_found (Err fault.NoHistory) finds settled found may =
      untold Unavailable refl found (finds.found found may)
  read_found (Err (fault.Unavailable why)) finds settled found may =
      untold Unavailable refl found (finds.found found may)
  read_found (Err (fault.Sink why)) finds settled found may =
      untold Unavailable refl found (finds.found found may)

  pub read_moves :
      {A : Type 0} (result : Result A ReadFault) → ReadsOnly t old new → Finds t (IsTold result) KeepsAll old new →
      IsSettled (run_meaning t) new → (t.is_live new → t.is_live old) →
      Moves (run_meaning t) old (Tried (asked_for digest account) (read_ending result)) new
  read_moves result reads finds settled lived = record {
    happens = λ live. read_happens digest account result (t.tenants old) (t.tenants new) (reads.same live);
    lived = lived;
    found = read_found result finds settled;
  }

-- a part that was read is one of the tenant's machine, which is as before
pub part_given :
    (Lives : Type 0) (rest : Rest) (old now : Option Machine) (read : Result Part ReadFault)
    (given : Option Part) → given ≡ result_ok read → (Lives → now ≡ old) →
    (Lives → IsPartTold [] old rest read) → IfSome given (λ part. Lives → IsPart [] now rest part)
part_given Lives rest old now (Ok part) given is same told =
    subst (λ (given : Option Part). IfSome given (λ part. Lives → IsPart [] now rest part)) (sym is)
    (λ live.
    subst (λ (tenant : Option Machine). IsPart [] tenant rest part) (sym (same live)) (told live))
part_given Lives rest old now (Err fault) given is same told =
    subst (λ (given : Option Part). IfSome given (λ part. Lives → IsPart [] now rest part)) (sym is)
    tt
