-- What the steps of a run make of the names of tenants, and of those that an opening may find.
use Rattle.std.specs.Prelude.{◌≡◌, ◌≢◌, ◌⊎◌, ℕ, List, Some, None, Result, Ok, Err, IsTrue}
use Rattle.service.specs.Deeds.{Keyed}
use Rattle.service.specs.Courses.{Ending, Done, Declined, Unavailable, Tried}
use Rattle.service.specs.Openings.{RunMeaning, Moves}
use Rattle.openings.specs.declared.refused.Refused.{Refused}
use Rattle.stored_ledgers.specs.declared.joining.AddTenant.{AddTenant}
use Rattle.stored_ledgers.specs.declared.joining.AddTenant.TheVariants as add
use Rattle.stored_ledgers.specs.declared.keying.ChangeKey.{ChangeKey}
use Rattle.stored_ledgers.specs.declared.keying.ChangeKey.TheVariants as key
use Rattle.stored_ledgers.specs.Names.{Names, KeepsNames, GivesName}
use Rattle.store.specs.Deeds.{ending_of, key_ending}

-- what ledgers say of names: the digest of the tenant with each name, and which names an opening
-- may find
pub record NamesMeaning (S : Type 0) : Type 1 where
  pub named : S → Names
  pub may_find : S → Names → Type 0

-- while the ledgers are live, an opening finds the names that are there
abbrev pub AreNamesSettled : {S : Type 0} → RunMeaning S → NamesMeaning S → S → Type 0
AreNamesSettled t n ledgers =
    t.is_live ledgers → (found : Names) → n.may_find ledgers found
    → KeepsNames (n.named ledgers) found

-- a call leaves all names: each is as before, and an opening finds what it might have found before
pub record LeavesNames {S : Type 0} (t : RunMeaning S) (n : NamesMeaning S) (old new : S) : Type 0
  where
    pub same : t.is_live new → KeepsNames (n.named old) (n.named new)
    pub found : (found : Names) → n.may_find new found → ∥ n.may_find old found ∥₁

-- the ledgers are opened again: the names are those that were to be found, and an opening finds
-- them
pub record OpensNames {S : Type 0} (t : RunMeaning S) (n : NamesMeaning S) (old new : S) : Type 0
  where
    pub member : t.is_live new → ∥ n.may_find old (n.named new) ∥₁
    pub found : (found : Names) → n.may_find new found
        → t.is_live new × KeepsNames (n.named new) found

-- or that is refused: then the next opening finds what this one might have, where that stands
abbrev pub ReopensNames :
    {S : Type 0} → RunMeaning S → NamesMeaning S → S → Result (Unit {0}) Refused → S → Type 0
ReopensNames t n old (Ok done) new = OpensNames t n old new
ReopensNames t n old (Err refused) new =
    IsTrue refused.stands → (found : Names) → n.may_find new found → ∥ n.may_find old found ∥₁

-- of a change that was tried: it is there if it was done, it is not if it was declined, and if the
-- ledgers were unavailable it may be or not
abbrev pub AsEnded : Ending → Type 0 → Type 0 → Type 0
AsEnded Done kept changed = changed
AsEnded Declined kept changed = kept
AsEnded Unavailable kept changed = kept ⊎ changed

-- a name that nobody had is given; and one that somebody has is given to another digest
abbrev pub AddsName : List ℕ → List ℕ → Names → Names → Type 0
AddsName name digest old new = (old name ≡ None) × GivesName name digest old new

abbrev pub MovesName : List ℕ → List ℕ → Names → Names → Type 0
MovesName name digest old new = (old name ≢ None) × GivesName name digest old new

-- what an opening may find behind a change that was tried
abbrev pub FindsChanged :
    {S : Type 0} → RunMeaning S → NamesMeaning S → (Names → Names → Type 0) → S → Ending → S
    → Type 0
FindsChanged t n Changes old ending new =
    (found : Names) → n.may_find new found
    → ∥ AsEnded ending (n.may_find old found) (t.is_live old × Changes (n.named old) found) ∥₁

-- what the adding of a tenant makes of the names
abbrev pub JoinsNames :
    List ℕ → List ℕ → Names → Result (Unit {0}) AddTenant → Names → Type 0
JoinsNames name digest old (Ok done) new = AddsName name digest old new
JoinsNames name digest old (Err add.NameTaken) new = (old name ≢ None) × KeepsNames old new
JoinsNames name digest old (Err add.DigestTaken) new = (old name ≡ None) × KeepsNames old new
JoinsNames name digest old (Err (add.Unavailable why)) new = KeepsNames old new

-- and the change of the key of a tenant that had this digest
abbrev pub KeysNames :
    List ℕ → List ℕ → List ℕ → Names → Result (Unit {0}) ChangeKey → Names → Type 0
KeysNames name was digest old (Ok done) new =
    (old name ≡ Some was) × GivesName name digest old new
KeysNames name was digest old (Err key.NoTenant) new = (old name ≡ None) × KeepsNames old new
KeysNames name was digest old (Err key.DigestTaken) new =
    (old name ≡ Some was) × (was ≢ digest) × KeepsNames old new
KeysNames name was digest old (Err (key.Unavailable why)) new = KeepsNames old new

-- a tenant was to be added
pub record IsJoinTried {S : Type 0} (t : RunMeaning S) (n : NamesMeaning S) (old : S)
    (name digest : List ℕ) (result : Result (Unit {0}) AddTenant) (new : S) : Type 0 where
  pub told : t.is_live new → JoinsNames name digest (n.named old) result (n.named new)
  pub found : FindsChanged t n (AddsName name digest) old (ending_of result) new

-- it was tried that the tenant with this name is known by this digest
pub record IsKeyTriedOf {S : Type 0} (t : RunMeaning S) (n : NamesMeaning S) (old : S)
    (name digest : List ℕ) (result : Result (Unit {0}) ChangeKey) (new : S) : Type 0 where
  pub was : List ℕ
  pub moves : Moves t old (Tried (Keyed was digest) (key_ending result)) new
  pub told : t.is_live new → KeysNames name was digest (n.named old) result (n.named new)
  pub found : FindsChanged t n (MovesName name digest) old (key_ending result) new
