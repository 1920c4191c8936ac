use Rattle.std.proofs.Common.{ℕ, List, [], ◌∷◌, ◌++◌, subst, ap, ◌∙◌}
use Rattle.std.specs.Int.{w128, to_be_bytes}
use Rattle.amount.specs.Column.{column_of}
use Rattle.sha2.specs.Hashers.{Holds256}
use Rattle.seals.specs.Seals.{transfer_columns}
use Rattle.seals.proofs.Columns.{after, after-is}
use Rattle.seals.proofs.seal.add_transfer.Goals as goal

pub returns : goal.returns
unfolding column_of
returns c m held =
    subst (Holds256 c.update-15.new.self)
    ((λ i. after m ((2 ∷ []) ∷ c.to_be_bytes.ensures i ∷ c.to_be_bytes-2.ensures i ∷ c.to_be_bytes-3.ensures i ∷ (c.to_be_bytes-4.ensures ∙ ap (to_be_bytes w128) c.value.ensures.value) i ∷ c.to_be_bytes-5.ensures i ∷ c.to_be_bytes-6.ensures i ∷ c.to_be_bytes-7.ensures i ∷ c.to_be_bytes-8.ensures i ∷ c.to_be_bytes-9.ensures i ∷ c.to_be_bytes-10.ensures i ∷ c.to_be_bytes-11.ensures i ∷ c.to_be_bytes-12.ensures i ∷ c.to_be_bytes-13.ensures i ∷ c.to_be_bytes-14.ensures i ∷ []))
    ∙ after-is m (transfer_columns c.args.transfer.now))
    (c.update-15.ensures _ (c.update-14.ensures _ (c.update-13.ensures _ (c.update-12.ensures _ (c.update-11.ensures _ (c.update-10.ensures _ (c.update-9.ensures _ (c.update-8.ensures _ (c.update-7.ensures _ (c.update-6.ensures _ (c.update-5.ensures _ (c.update-4.ensures _ (c.update-3.ensures _ (c.update-2.ensures _ (c.update.ensures m held)))))))))))))))
