use Rattle.stored_ledgers.proofs.OwnKeys.{ledgers_own_their_keys}
use Rattle.stored_ledgers.proofs.own_keys.law_ledgers_own_their_keys.Goals as goal

pub returns : goal.returns
returns c =
    ledgers_own_their_keys (record {
      one = c.columns_keep_order.ensures.one_to_one;
      keyed = c.keys_are_distinct.ensures;
      narrow = c.rows_fit.ensures;
      accounts = c.rows_stand_in_order.ensures.accounts;
      transfers = c.rows_stand_in_order.ensures.transfers;
    })
