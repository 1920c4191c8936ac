use Rattle.std.proofs.Common.{◌≡◌, drop}
use Rattle.records.specs.Machine.{account_with}
use Rattle.plain.proofs.search.find_account.Given as goal

abbrev pub invariant-loop-account : goal.invariant-loop-account
invariant-loop-account l =
    account_with l.id (drop l.account-index l.accounts) ≡ account_with l.id l.accounts
