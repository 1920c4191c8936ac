-- What a supervisor has done between turns.
use Rattle.std.proofs.Common.{ℕ, List, Option, Some, None}
use Rattle.chain.specs.Ledgers.{LedgersMeaning}
use Rattle.service.specs.Seen.{Whole}
use Rattle.clients.specs.Talk.{Talk}
use Rattle.polling.specs.Peers.{Doing}
use Rattle.polling.specs.Serving.{HasAttended, Unasked, Asked_once, rules}
use Rattle.polling.specs.Seating.{held, ServesEach}
use Rattle.polling.proofs.AllLemmas.{again_all}

-- it leads on, from any clients
pub attended_all :
    {S C P : Type 0} (t : LedgersMeaning S) (gives : C → ℕ → C → Type 0)
    (renews : Option ℕ → S → S → Type 0) (waits : List ℕ → Type 0) (does : P → Doing → P → Type 0)
    {ledgers ledgers_now : S} {moments moments_now : C} {peers : P} {seats : ℕ → Option Talk}
    {next : ℕ} → HasAttended gives renews ledgers moments ledgers_now moments_now →
    ServesEach (rules t gives renews waits does) (held (Whole ledgers) moments peers seats next)
    (held (Whole ledgers_now) moments_now peers seats next) 0
attended_all t gives renews waits does (Unasked same renewed) =
    again_all {r = rules t gives renews waits does} None same renewed
attended_all t gives renews waits does (Asked_once moment given renewed) =
    again_all {r = rules t gives renews waits does} (Some moment) given renewed
