use Rattle.commands.proofs.renewing.RenewingStewardKeptInUseStore.puts_off.Goals as goal

pub returns : goal.returns
returns g c is = (c.args.self.now.settler.behind, c.puts_off.ensures is)
