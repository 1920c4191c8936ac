-- A follower of a ledger gets each transfer that it asks for once, in order.
use Rattle.std.specs.Prelude.{◌≡◌, ℕ, ◌+◌, ◌<◌, ◌≤◌, ◌==◌, nat_lt, List, [], ◌++◌, filter}
use Rattle.std.specs.Prelude.{if◌then◌else◌}
use Rattle.records.specs.declared.filter.Order.TheVariants.{Oldest}
use Rattle.records.specs.declared.query.PageFilter.{PageFilter}
use Rattle.records.specs.declared.query.QueryFilter.{QueryFilter}
use Rattle.records.specs.declared.query.Tags.{Tags}
use Rattle.records.specs.declared.transfer.Transfer.{Transfer}
use Rattle.records.specs.Machine.{Machine}
use Rattle.records.specs.Queries.{Page, page_order, asks_tags, transfer_tags, queried_transfers}
use Rattle.records.specs.Valid.{IsValid}
use Rattle.engine.specs.Following.{ContinuesAfter}

-- the transfers that are asked for
abbrev pub asked_for : Tags → List Transfer → List Transfer
asked_for tags transfers = filter (λ transfer. asks_tags tags (transfer_tags transfer)) transfers

-- the transfers that are earlier than a time
abbrev pub earlier_than : ℕ → List Transfer → List Transfer
earlier_than time transfers = filter (λ transfer. nat_lt transfer.timestamp time) transfers

-- what a follower has got is what it asks for, of all that is earlier than the number that it keeps
pub record HasFollowed (m : Machine) (tags : Tags) (number : ℕ) (got : List Transfer) : Type 0 where
  pub each_once : got ≡ asked_for tags (earlier_than number m.transfers)
  pub by_clock : number ≤ m.clock + 1

-- it asks for a page from its number on, without a bound, oldest first
pub record AsksFrom (number : ℕ) (asked : PageFilter) : Type 0 where
  pub from : asked.timestamp_min ≡ number
  pub unbounded : asked.timestamp_max ≡ 0
  pub oldest_first : page_order asked ≡ Oldest
  pub some : 0 < asked.limit

-- its number behind a page is `next`, or where that is 0 one more than the clock
abbrev pub number_behind : {A : Type 0} → Machine → Page A → ℕ
number_behind m page = if page.next == 0 then m.clock + 1 else page.next

-- so it is at first, with nothing
abbrev pub FollowersBegin : Type 0
FollowersBegin = (m : Machine) (tags : Tags) → HasFollowed m tags 0 []

-- and with the page that it is told now, whatever came since the last one
abbrev pub FollowersGoOn : Type 0
FollowersGoOn =
    (old now : Machine) (number : ℕ) (got : List Transfer) (asked : QueryFilter) →
    HasFollowed old asked.tags number got → ContinuesAfter old now → IsValid now →
    AsksFrom number asked.page →
    let page = queried_transfers now asked in
    HasFollowed now asked.tags (number_behind now page) (got ++ page.entries)

-- behind a page without a `next` it has got all there is
abbrev pub FollowersArrive : Type 0
FollowersArrive =
    (m : Machine) (tags : Tags) (got : List Transfer) → IsValid m →
    HasFollowed m tags (m.clock + 1) got → got ≡ asked_for tags m.transfers
