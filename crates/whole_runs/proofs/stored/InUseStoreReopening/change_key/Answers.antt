use Rattle.std.proofs.Common.{Err, refl}
use Rattle.stored_ledgers.specs.Keying.{HasKeyed, Keyed}
use Rattle.stored_ledgers.specs.Names.{names_in}
use Rattle.stored_ledgers.specs.declared.keying.ChangeKey.TheVariants.{DigestTaken}
use Rattle.store.specs.Deeds.{key_ending}
use Rattle.store.specs.InUseLaws.{moves_in_use}
use Rattle.store.specs.Names.{digest_named, names_of}
use Rattle.store.specs.StoreLaws.{store_meaning}
use Rattle.store.specs.Stores.{IsLive}
use Rattle.whole_runs.specs.Names.{KeysNames, MovesName}
use Rattle.whole_runs.proofs.FoundNames.{found_tried}
use Rattle.whole_runs.proofs.NameLemmas.{keys_go, some_named}
use Rattle.whole_runs.proofs.StoreNames.{keys_names}
use Rattle.whole_runs.proofs.TakenLemmas.{told_taken}
use Rattle.whole_runs.proofs.stored.InUseStoreReopening.change_key.Goals as goal

pub returns-clause-moves : goal.returns-clause-moves
returns-clause-moves g c =
    let told : IsLive c.change_key-keyed.new.self
    → KeysNames c.args.name.now (digest_named c.self.inside.backend c.args.name.now) c.args.digest.now
    (names_of c.self.inside.backend) c.change_key-keyed.result (names_of c.change_key-keyed.new.self) =
    λ live.
    keys_names c.names_are_given.ensures.keying c.args.name.now c.args.digest.now c.self.inside.backend
    c.change_key-keyed.new.self c.change_key-keyed.result c.self.invariant
    (c.change_key-keyed.ensures.answers.follows.lived live) (c.change_key-keyed.ensures.told live) in
    rw (← c.self.view_is) (record {
      was = digest_named c.self.inside.backend c.args.name.now;
      moves = moves_in_use store_meaning c.self.inside.backend c.change_key-keyed.new.self c.self.invariant
          c.change_key-keyed.ensures.answers.usable _ c.change_key-keyed.ensures.whose;
      told = λ live. told live.0;
      found =
          found_tried (MovesName c.args.name.now c.args.digest.now)
          (Keyed c.args.name.now c.args.digest.now)
          (λ before db ledgers keyed.
          let given =
          c.names_are_given.ensures.keying c.args.name.now c.args.digest.now before
          (record { schema = before.schema; trees = db }) ledgers keyed in
          (some_named (names_in before.trees c.args.name.now) keyed.was given.0, given.1))
          c.self.inside.backend c.change_key-keyed.new.self c.is_settled.ensures c.self.invariant
          c.change_key-keyed.ensures.finds c.is_settled-2.ensures c.change_key-keyed.ensures.answers key_ending refl
          (λ live.
          keys_go c.args.name.now (digest_named c.self.inside.backend c.args.name.now) c.args.digest.now
          _ _ c.change_key-keyed.result (told live));
    })

pub returns-clause-taken : goal.returns-clause-taken
returns-clause-taken g c =
    rw (← c.self.view_is)
    (λ live. told_taken c.args.digest.now (HasKeyed c.args.name.now c.args.digest.now) (Err DigestTaken) (λ before after keyed. keyed.0.0)
    c.self.invariant c.change_key-keyed.ensures.answers c.change_key-keyed.ensures.told live.0)

pub returns-clause-failed : goal.returns-clause-failed
returns-clause-failed g c =
    rw (← c.self.view_is) (λ shut. (c.change_key-keyed.ensures.answers.refuses shut).1)
