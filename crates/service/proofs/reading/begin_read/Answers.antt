use Rattle.std.proofs.Common.{rules, ◌∙◌, ap, sym}
use Rattle.wire.specs.declared.read.Read.TheVariants.{LookupAccounts, LookupTransfers, LookupPending}
use Rattle.service.proofs.CallLemmas.{begins_as_read, begins_read}
use Rattle.service.proofs.Readings.{accounts_by_id, transfers_by_id, holds_by_id, transfers_of, balances_of}
use Rattle.service.proofs.reading.begin_read.Goals as goal

pub returns-in-LookupAccounts : goal.returns-in-LookupAccounts
returns-in-LookupAccounts g c moment =
    begins_read (accounts_by_id _) (c.in-LookupAccounts.is ∙ ap LookupAccounts (sym c.as_slice.ensures))
    (λ list outcome shown. search rules) c.lookup_accounts-found.ensures c.begin_list.ensures

pub returns-in-LookupTransfers : goal.returns-in-LookupTransfers
returns-in-LookupTransfers g c moment =
    begins_read (transfers_by_id _) (c.in-LookupTransfers.is ∙ ap LookupTransfers (sym c.as_slice-in-LookupTransfers.ensures))
    (λ list outcome shown. search rules) c.lookup_transfers-found.ensures c.begin_list-in-LookupTransfers.ensures

pub returns-in-HistoryTransfers : goal.returns-in-HistoryTransfers
returns-in-HistoryTransfers g c moment =
    begins_read (transfers_of _) c.in-HistoryTransfers.is
    (λ list outcome shown. search rules) c.history_transfers-found.ensures c.begin_list-in-HistoryTransfers.ensures

pub returns-in-HistoryBalances : goal.returns-in-HistoryBalances
returns-in-HistoryBalances g c moment =
    begins_read (balances_of _) c.in-HistoryBalances.is
    (λ list outcome shown. search rules) c.history_balances-found.ensures c.begin_list-in-HistoryBalances.ensures

pub returns-in-LookupPending : goal.returns-in-LookupPending
returns-in-LookupPending g c moment =
    begins_read (holds_by_id _) (c.in-LookupPending.is ∙ ap LookupPending (sym c.as_slice-in-LookupPending.ensures))
    (λ list outcome shown. search rules) c.lookup_pending-found.ensures c.begin_list-in-LookupPending.ensures

pub returns-in-Query : goal.returns-in-Query
returns-in-Query g c moment =
    begins_as_read c.in-Query.is (c.begin_query.ensures moment)

pub returns-in-Statement : goal.returns-in-Statement
returns-in-Statement g c moment =
    begins_as_read c.in-Statement.is (c.begin_statement.ensures moment)

pub returns-in-Lint : goal.returns-in-Lint
returns-in-Lint g c moment =
    begins_as_read c.in-Lint.is (c.begin_lint.ensures moment)
