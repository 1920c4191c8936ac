use Rattle.std.proofs.Common.{refl}
use Rattle.running.proofs.NextEntry.{kept, by_the_end}
use Rattle.running.proofs.running.Running.keep_transfer.Goals as goal

pub add_new-requires : goal.add_new-requires
add_new-requires c = by_the_end c.requires.0 c.args.accepted.now c.requires.1.valid c.requires.2

pub returns : goal.returns
returns c m is accepted =
    kept m c.args.accepted.now c.args.self.now _ _ is accepted (c.transfer_rows.ensures m c.args.accepted.now is.valid accepted) c.in_ok-end_by.ensures c.in_ok-add_new.ensures c.in_ok-keep.ensures c.in_ok-set_both.ensures refl refl
