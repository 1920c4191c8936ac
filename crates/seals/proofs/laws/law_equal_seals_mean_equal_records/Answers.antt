use Rattle.std.proofs.Common.{◌≡◌, ◌⊎◌, inl, inr, refl, sym, ap, ◌∙◌}
use Rattle.records.specs.Machine.{Machine}
use Rattle.seals.specs.Records.{records_of}
use Rattle.seals.specs.Seals.{Collision, first_seal}
use Rattle.seals.proofs.Chains.{same_chain}
use Rattle.seals.proofs.Machines.{Lists, lists, widths_in_order}
use Rattle.seals.proofs.Order.{accounts_in, transfers_in, accounts_in_order, transfers_in_order, length_in_order}
use Rattle.seals.proofs.laws.law_equal_seals_mean_equal_records.Goals as goal

-- equal records come of equal lists
split : (m n : Machine) → Lists m → Lists n → records_of m ≡ records_of n
    → (m.accounts ≡ n.accounts) × (m.transfers ≡ n.transfers)
split m n v w same = (
  sym (accounts_in_order m.accounts m.transfers v.ascend) ∙ ap accounts_in same
      ∙ accounts_in_order n.accounts n.transfers w.ascend,
  sym (transfers_in_order m.accounts m.transfers) ∙ ap transfers_in same
      ∙ transfers_in_order n.accounts n.transfers,
)

pub returns : goal.returns
returns c m n valid other size same =
    at (same_chain c.columns_keep_order.ensures.one_to_one first_seal first_seal (records_of m) (records_of n) refl refl
    (length_in_order m.accounts m.transfers ∙ size ∙ sym (length_in_order n.accounts n.transfers))
    (widths_in_order m.accounts m.transfers v.accounts v.transfers)
    (widths_in_order n.accounts n.transfers w.accounts w.transfers) same)
  where
    v : Lists m
    v = lists m valid

    w : Lists n
    w = lists n other

    at : ((first_seal ≡ first_seal) × (records_of m ≡ records_of n)) ⊎ Collision
        → ((m.accounts ≡ n.accounts) × (m.transfers ≡ n.transfers)) ⊎ Collision
    at (inl (_, records)) = inl (split m n v w records)
    at (inr found) = inr found
