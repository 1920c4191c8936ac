use Rattle.audit.proofs.law.known_laws.Goals as goal

pub returns : goal.returns
returns c = record {
  reading = c.cells_tell_rows.ensures;
  fit = c.rows_fit.ensures;
  keys = c.keys_are_distinct.ensures;
  balances = c.read_in_order.ensures.ascending;
  statuses = c.read_in_order-2.ensures.ascending;
  history = c.read_in_order-3.ensures.ascending;
  accounts_up = c.rows_stand_in_order.ensures.accounts;
  transfers_up = c.rows_stand_in_order.ensures.transfers;
  replays = c.valid_replays.ensures;
  replayed = c.replayed_is_valid.ensures;
  entry_by_entry = c.valid_exactly_entry_by_entry.ensures;
}
