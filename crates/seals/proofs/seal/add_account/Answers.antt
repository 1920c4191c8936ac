use Rattle.std.proofs.Common.{ℕ, List, [], ◌∷◌, ◌++◌, subst, ap, ◌∙◌}
use Rattle.std.specs.Int.{w128, to_be_bytes}
use Rattle.amount.specs.Column.{column_of}
use Rattle.sha2.specs.Hashers.{Holds256}
use Rattle.seals.specs.Seals.{account_columns}
use Rattle.seals.proofs.Columns.{after, after-is}
use Rattle.seals.proofs.seal.add_account.Goals as goal

pub returns : goal.returns
unfolding column_of
returns c m held =
    subst (Holds256 c.update-9.new.self)
    ((λ i. after m ((1 ∷ []) ∷ c.to_be_bytes.ensures i ∷ c.to_be_bytes-2.ensures i ∷ c.to_be_bytes-3.ensures i ∷ c.to_be_bytes-4.ensures i ∷ c.to_be_bytes-5.ensures i ∷ c.to_be_bytes-6.ensures i ∷ c.to_be_bytes-7.ensures i ∷ c.to_be_bytes-8.ensures i ∷ []))
    ∙ after-is m (account_columns c.args.account.now))
    (c.update-9.ensures _ (c.update-8.ensures _ (c.update-7.ensures _ (c.update-6.ensures _ (c.update-5.ensures _ (c.update-4.ensures _ (c.update-3.ensures _ (c.update-2.ensures _ (c.update.ensures m held)))))))))
