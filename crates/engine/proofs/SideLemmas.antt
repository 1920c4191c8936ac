-- What holds on both sides, from what holds on each.
use Rattle.std.proofs.Common.{◌≡◌, ℕ, false, eqb, refl}
use Rattle.records.specs.declared.side.Side.{Side}
use Rattle.records.specs.declared.side.Side.TheVariants.{Debit, Credit}
use Rattle.records.specs.declared.transfer.Transfer.{Transfer}
use Rattle.records.specs.Machine.{Machine}
use Rattle.records.specs.Sides.{other_side, account_on, event_account_on, sums_on}
use Rattle.records.specs.Balances.{sums_of, balances_in}
use Rattle.records.specs.Valid.{event_of_transfer}
use Rattle.engine.proofs.FindByIdLemmas.{other_way}

-- a fact of each side is one of every side
abbrev pub by_side : (P : Side → Type 0) → P Debit → P Credit → (side : Side) → P side
by_side P debit credit Debit = debit
by_side P debit credit Credit = credit

-- the sums of a side are those of the balances
pub sums_in : (side : Side) (m : Machine) (id : ℕ) → sums_on side (balances_in m id) ≡ sums_of side m.transfers m.clock id
sums_in Debit m id = refl
sums_in Credit m id = refl

-- an entry, sent again, has the same accounts
pub event_account : (side : Side) (t : Transfer) → event_account_on side (event_of_transfer t) ≡ account_on side t
event_account Debit t = refl
event_account Credit t = refl

-- two accounts differ seen from either side
pub differ_on : (side : Side) (t : Transfer) → eqb t.debit_account_id t.credit_account_id ≡ false → eqb (account_on (other_side side) t) (account_on side t) ≡ false
differ_on Debit t h = other_way t.debit_account_id t.credit_account_id h
differ_on Credit t h = h
