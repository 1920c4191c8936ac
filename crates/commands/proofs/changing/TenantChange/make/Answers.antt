use Rattle.commands.specs.declared.changing.TenantChange.TheVariants.{Adding, Keying}
use Rattle.commands.proofs.ChangeLemmas.{MakesChange, adding_made, keying_made, made_as}
use Rattle.commands.proofs.changing.TenantChange.make.Goals as goal
use Rattle.commands.proofs.changing.TenantChange.make.Goals.{in-Adding, in-Keying}

pub returns : goal.returns
returns g c =
    let name = c.args.name.now in
    let digest = c.args.digest.now in
    let old = c.store.inside.backend in
    let made : MakesChange c.args.self name digest c.args.store.now c.match-self.made c.match-self.store =
    rw (← c.store.view_is) (elim c.match-self.branch [
      | in-Adding w ↦
          made_as name digest old w.add_tenant.new.self w.map_err-made.result c.store.invariant c.args.self Adding
          c.match-self.made c.match-self.store w.in-Adding.is w.made-is w.store-is
          (adding_made name digest old w.add_tenant.new.self w.map_err-made.result c.store.invariant
          w.add_tenant.result w.map_err-made.ensures.cases w.add_tenant.ensures.told w.add_tenant.ensures.answers
          w.add_tenant.ensures.moves)
      | in-Keying w ↦
          made_as name digest old w.change_key.new.self w.map_err-made-in-Keying.result c.store.invariant
          c.args.self Keying c.match-self.made c.match-self.store w.in-Keying.is w.made-is w.store-is
          (keying_made name digest old w.change_key.new.self w.map_err-made-in-Keying.result c.store.invariant
          w.change_key.result w.map_err-made-in-Keying.ensures.cases w.change_key.ensures.told
          w.change_key.ensures.answers w.change_key.ensures.moves)
    ]) in
    record { told = made.told_so; moves = made.moves; follows = made.follows; «open» = made.stays }
