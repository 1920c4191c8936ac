use Rattle.std.proofs.Common.{rules, ap}
use Rattle.wire.specs.declared.outcome.Entries.TheVariants.{Accounts, Transfers, OpenHolds}
use Rattle.wire.specs.declared.read.Read.TheVariants.{Query}
use Rattle.service.proofs.CallLemmas.{begins_read}
use Rattle.service.proofs.Readings.{page_of_accounts, page_of_transfers, page_of_holds}
use Rattle.service.proofs.ShownReads.{page_shown}
use Rattle.service.proofs.querying.begin_query.Goals as goal

pub returns-in-Accounts : goal.returns-in-Accounts
returns-in-Accounts g c moment =
    begins_read (page_of_accounts _) (ap Query c.in-Accounts.is)
    (λ page outcome. page_shown page Accounts (λ entries shown. search rules)) c.query_accounts-page.ensures c.begin_page.ensures

pub returns-in-Transfers : goal.returns-in-Transfers
returns-in-Transfers g c moment =
    begins_read (page_of_transfers _) (ap Query c.in-Transfers.is)
    (λ page outcome. page_shown page Transfers (λ entries shown. search rules)) c.query_transfers-page.ensures c.begin_page-in-Transfers.ensures

pub returns-in-OpenPending : goal.returns-in-OpenPending
returns-in-OpenPending g c moment =
    begins_read (page_of_holds _) (ap Query c.in-OpenPending.is)
    (λ page outcome. page_shown page OpenHolds (λ entries shown. search rules)) c.open_pending-page.ensures c.begin_page-in-OpenPending.ensures
