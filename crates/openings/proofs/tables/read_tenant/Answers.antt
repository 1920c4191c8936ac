use Rattle.std.proofs.Common.{Err, ap, ◌∙◌, rules, arith}
use Rattle.std.proofs.lemmas.Result.{err_from_is_err_and}
use Rattle.rows.specs.TypedRows.{lists_of}
use Rattle.stored_tables.specs.BatchLaws.{follows_then}
use Rattle.openings.proofs.Passed.{passed}
use Rattle.openings.proofs.ReadLemmas.{derived_read, read_all_of, read_failed, read_none, read_then, read_there}
use Rattle.openings.proofs.tables.read_tenant.Goals as goal

pub returns-then-version-lt3 : goal.returns-then-version-lt3
returns-then-version-lt3 g c =
    let two = c.if-version-lt2.false in
    let all = read_then (read_then (read_then c.in_ok-entries.ensures c.in_ok-balances.ensures) c.in_ok-statuses.ensures)
    c.in_ok-history.ensures in
    read_all_of (λ s has. (((has.lists, has.derived two), has.derived two), has.derived two)) _ (λ trees read.
    derived_read _ c.args.tenant (passed c.args.tenant (search rules)) (lists_of c.in_ok-entries.entries) trees
    c.args.version _ _ _ _ two read.0.0.0 read.0.0.1 read.0.1 read.1
    (read_none 3 c.args.version c.if-version-lt3.true (read.0.0.0.failed.none (omega arith)))) all

pub returns : goal.returns
returns g c =
    let two = c.if-version-lt2.false in
    let three = c.if-version-lt3.false in
    let all = read_then (read_then (read_then (read_then c.in_ok-entries.ensures c.in_ok-balances.ensures)
    c.in_ok-statuses.ensures) c.in_ok-history.ensures) c.in_ok-failed.ensures in
    read_all_of (λ s has. ((((has.lists, has.derived two), has.derived two), has.derived two), has.failed three)) _ (λ trees read.
    derived_read _ c.args.tenant (passed c.args.tenant (search rules)) (lists_of c.in_ok-entries.entries) trees
    c.args.version _ _ _ _ two read.0.0.0.0 read.0.0.0.1 read.0.0.1 read.0.1
    (read_there 3 c.args.version three read.1)) all

pub returns-in_err-statuses : goal.returns-in_err-statuses
returns-in_err-statuses g c = record { whole = search rules; looks = search (rules, follows_then) }

pub returns-in_err-history : goal.returns-in_err-history
returns-in_err-history g c = record { whole = search rules; looks = search (rules, follows_then) }

pub returns-in_err-failed : goal.returns-in_err-failed
returns-in_err-failed g c =
    let p = err_from_is_err_and c.from_residual-in_err-failed.result c.from_residual-in_err-failed.ensures.1 in
    read_failed (p.1 ∙ ap Err p.2)
    (read_then (read_then (read_then c.in_ok-entries.ensures c.in_ok-balances.ensures) c.in_ok-statuses.ensures)
    c.in_ok-history.ensures) c.in_err-failed.ensures.reads
