use Rattle.std.proofs.Common.{rules}
use Rattle.amount.specs.Column.{column_of}
use Rattle.ledger_sql.proofs.EntryTexts.{first_until_query}
use Rattle.ledger_sql.proofs.EntryAnswers.{newest, entries_up_to}
use Rattle.ledger_sql.proofs.entries.first_entries_until.Goals as goal

pub hand_out-requires-clause-reading : goal.hand_out-requires-clause-reading
hand_out-requires-clause-reading g c = first_until_query.reads

pub returns-clause-handed : goal.returns-clause-handed
unfolding column_of
returns-clause-handed g c = entries_up_to newest c.args.tenant (column_of c.args.account) c.args.time c.args.count _ _ _ (search rules) g.K.EntrySink.takes g.K.EntrySink.is_full _ _ c.hand_out.result c.hand_out.ensures.handed c.known.result c.known.ensures.ok c.known.ensures.err
