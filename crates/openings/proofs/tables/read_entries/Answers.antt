use Rattle.std.proofs.Common.{rules}
use Rattle.openings.proofs.Passed.{passed}
use Rattle.openings.proofs.ReadLemmas.{entries_read, read_all_of, read_first, read_then}
use Rattle.openings.proofs.tables.read_entries.Goals as goal

pub returns : goal.returns
returns g c =
    let all = read_then (read_then (read_first c.in_ok-clocks.ensures) c.in_ok-accounts.ensures) c.in_ok-transfers.ensures in
    read_all_of (λ s has. ((has, has), has)) _ (λ trees read.
    entries_read _ c.args.tenant (passed c.args.tenant (search rules)) _ trees read.0.0 read.0.1 read.1
    (search rules) (search rules) (search rules) (search rules)) all

pub returns-in_err-transfers : goal.returns-in_err-transfers
returns-in_err-transfers g c = record {
  whole = search rules;
  looks = record { kept = search rules; same = search rules; follows = search rules };
}
