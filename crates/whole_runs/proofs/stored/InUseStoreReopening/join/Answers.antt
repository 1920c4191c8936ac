use Rattle.std.proofs.Common.{Err, refl}
use Rattle.stored_ledgers.specs.Joining.{HasJoined, Joined}
use Rattle.stored_ledgers.specs.declared.joining.AddTenant.TheVariants.{DigestTaken}
use Rattle.store.specs.Deeds.{ending_of}
use Rattle.store.specs.InUseLaws.{moves_in_use}
use Rattle.store.specs.Names.{names_of}
use Rattle.store.specs.StoreLaws.{store_meaning}
use Rattle.store.specs.Stores.{IsLive}
use Rattle.whole_runs.specs.Names.{AddsName, JoinsNames}
use Rattle.whole_runs.proofs.FoundNames.{found_tried}
use Rattle.whole_runs.proofs.NameLemmas.{joins_go}
use Rattle.whole_runs.proofs.StoreNames.{joins_names}
use Rattle.whole_runs.proofs.TakenLemmas.{told_taken}
use Rattle.whole_runs.proofs.stored.InUseStoreReopening.join.Goals as goal

pub returns-clause-moves : goal.returns-clause-moves
returns-clause-moves g c =
    rw (← c.self.view_is)
    (moves_in_use store_meaning c.self.inside.backend c.add_tenant-joined.new.self c.self.invariant
    c.add_tenant-joined.ensures.answers.usable _ c.add_tenant-joined.ensures.moves)

pub returns-clause-taken : goal.returns-clause-taken
returns-clause-taken g c =
    rw (← c.self.view_is)
    (λ live. told_taken c.args.digest.now (HasJoined c.args.name.now c.args.digest.now) (Err DigestTaken) (λ before after joined. joined.0.1)
    c.self.invariant c.add_tenant-joined.ensures.answers c.add_tenant-joined.ensures.told live.0)

pub returns-clause-named : goal.returns-clause-named
returns-clause-named g c =
    let told : IsLive c.add_tenant-joined.new.self
    → JoinsNames c.args.name.now c.args.digest.now (names_of c.self.inside.backend) c.add_tenant-joined.result
    (names_of c.add_tenant-joined.new.self) =
    λ live.
    joins_names c.names_are_given.ensures.joining c.args.name.now c.args.digest.now c.self.inside.backend
    c.add_tenant-joined.new.self c.add_tenant-joined.result c.self.invariant
    (c.add_tenant-joined.ensures.answers.follows.lived live) (c.add_tenant-joined.ensures.told live) in
    rw (← c.self.view_is) (record {
      told = λ live. told live.0;
      found =
          found_tried (AddsName c.args.name.now c.args.digest.now)
          (Joined c.args.name.now c.args.digest.now)
          (λ before db ledgers joined.
          c.names_are_given.ensures.joining c.args.name.now c.args.digest.now before
          (record { schema = before.schema; trees = db }) ledgers joined.0 joined.1)
          c.self.inside.backend c.add_tenant-joined.new.self c.is_settled.ensures c.self.invariant
          c.add_tenant-joined.ensures.finds c.is_settled-2.ensures c.add_tenant-joined.ensures.answers ending_of refl
          (λ live. joins_go c.args.name.now c.args.digest.now _ _ c.add_tenant-joined.result (told live));
    })

pub returns-clause-failed : goal.returns-clause-failed
returns-clause-failed g c =
    rw (← c.self.view_is) (λ shut. (c.add_tenant-joined.ensures.answers.refuses shut).1)
