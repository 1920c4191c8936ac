use Rattle.std.proofs.Common.{rules}
use Rattle.std.specs.Ordering.{is_lt}
use Rattle.std.proofs.lemmas.Cmp.{nat_list_cmp_total}
use Rattle.std.proofs.lemmas.List.MinMax.{ranks_by}
use Rattle.std.proofs.lemmas.List.Sorted.{answers_always}
use Rattle.stored_ledgers.specs.Listing.{by_name}
use Rattle.stored_ledgers.specs.declared.directory.ListedTenant.{ListedTenant}
use Rattle.stored_ledgers.proofs.directory.sort_by_name.Goals as goal

pub returns-clause-sorted : goal.returns-clause-sorted
returns-clause-sorted c =
    c.sort_unstable_by.ensures.sorted (λ a b. is_lt (by_name a b))
    (ranks_by nat_list_cmp_total (λ (tenant : ListedTenant). tenant.name))
    (answers_always _ _ _ (λ f a r f' q. search rules))
