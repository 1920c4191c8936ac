-- The statement of a period, of the account that a hold of 100 debits and a post of 40 of it,
-- computed by the definitions.
use Rattle.std.specs.Prelude.{◌≡◌, ◌++◌, List, [], ◌∷◌, codes, false, refl, true}
use Rattle.std.specs.Fmt.{digits}
use Rattle.records.specs.declared.side.Side.TheVariants.{Debit}
use Rattle.records.specs.declared.statement_row.Kind.TheVariants.{Pending, Post}
use Rattle.records.specs.declared.statement_row.StatementRow.{StatementRow}
use Rattle.records.specs.declared.balances.Balances.{Balances}
use Rattle.records.specs.declared.transfer.Transfer.{Transfer}
use Rattle.statement.specs.Period.{closing, no_balances, opening, within}
use Rattle.statement.specs.Written.{extract_text}
use Rattle.statement.specs.declared.form.Form.TheVariants.{Csv}
use Rattle.statement.specs.declared.period.Period.{Period}

abbrev held : Balances
held = record no_balances { debits = record { pending = 100; posted = 0 } }

abbrev posted : Balances
posted = record no_balances { debits = record { pending = 0; posted = 40 } }

abbrev hold : StatementRow
hold = record {
  timestamp = 5;
  transfer_id = 100;
  side = Debit;
  kind = Pending;
  amount = 100;
  balances = held;
}

abbrev post : StatementRow
post = record {
  timestamp = 6;
  transfer_id = 101;
  side = Debit;
  kind = Post;
  amount = 40;
  balances = posted;
}

abbrev rows : List StatementRow
rows = hold ∷ post ∷ []

abbrev from_six : Period
from_six = record { from = 6; to = 6 }

-- both bounds are inclusive, and the opening sums are those after the entry before
pub period_of_one :
    (within from_six rows ≡ post ∷ [])
    × (opening from_six rows ≡ held)
    × (closing from_six rows ≡ posted)
period_of_one = (refl, refl, refl)

-- before the first entry all sums are 0
pub period_before_all :
    (within (record { from = 1; to = 4 }) rows ≡ [])
    × (opening (record { from = 1; to = 4 }) rows ≡ no_balances)
    × (closing (record { from = 1; to = 4 }) rows ≡ no_balances)
period_before_all = (refl, refl, refl)

-- a period of one nanosecond at the first entry
pub period_at_the_first :
    (within (record { from = 5; to = 5 }) rows ≡ hold ∷ [])
    × (opening (record { from = 5; to = 5 }) rows ≡ no_balances)
    × (closing (record { from = 5; to = 5 }) rows ≡ held)
period_at_the_first = (refl, refl, refl)

-- as CSV, with its sums
pub as_csv :
    extract_text (record { form = Csv; is_wide = false; with_sums = true }) held (post ∷ []) [] posted
    ≡ codes "timestamp,transfer_id,side,kind,amount,"
    ++ codes "debits_pending,debits_posted,credits_pending,credits_posted"
    ++ 10 ∷ codes "0,0,,opening,0,100,0,0,0"
    ++ 10 ∷ codes "6,101,debit,post,40,0,40,0,0"
    ++ 10 ∷ codes "0,0,,closing,0,0,40,0,0" ++ 10 ∷ []
unfolding digits
as_csv = refl

-- the post, as a transfer
abbrev the_post : Transfer
the_post = record {
  id = 101;
  debit_account_id = 1;
  credit_account_id = 2;
  amount = 40;
  pending_id = 100;
  user_data_128 = 7;
  user_data_64 = 8;
  user_data_32 = 9;
  timeout = 0;
  ledger = 978;
  code = 20;
  flags = record { 0 = 4 };
  timestamp = 6;
  at = 6;
}

-- wide lines
pub as_wide_csv :
    extract_text (record { form = Csv; is_wide = true; with_sums = false }) held (post ∷ [])
    (the_post ∷ []) posted
    ≡ codes "timestamp,transfer_id,side,kind,amount,"
    ++ codes "debits_pending,debits_posted,credits_pending,credits_posted,"
    ++ codes "other_account,pending_id,code,user_data_128,user_data_64,user_data_32"
    ++ 10 ∷ codes "6,101,debit,post,40,0,40,0,0,2,100,20,7,8,9" ++ 10 ∷ []
unfolding digits
as_wide_csv = refl
