use Rattle.std.proofs.Common.{◌≡◌, length, arith}
use Rattle.running.proofs.HeldTransfers.{one_more}
use Rattle.running.proofs.transfers.Transfers.keep.Goals as goal

pub returns : goal.returns
returns c transfers holds unknown =
    let old = c.args.self.now in
    let end : c.len-place.result ≡ length old.list.items = omega (arith, c.len-place.ensures, old.list.ok.0) in
    one_more transfers c.args.transfer.now old (record { list = c.push.new.self; places = c.insert.new.self }) c.len-place.result holds unknown end c.in_ok-push.ensures.items c.in_ok-insert.ensures.updates.0
