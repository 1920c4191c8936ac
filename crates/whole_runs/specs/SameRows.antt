-- The rows of one tenant in two stores, and the law of isolation in terms of rows.
use Rattle.std.specs.Prelude.{◌≡◌, ◌≢◌, ℕ, ℤ, List, Option, Some, None, IsPermutation}
use Rattle.sqlite_disk.specs.declared.Disk as disk
use Rattle.sqlite_trees.specs.Tree.{Trees}
use Rattle.chain.specs.Backends.{in_use}
use Rattle.chain.specs.Ledgers.{LedgersMeaning}
use Rattle.ledger_http.specs.declared.reply.Reply.{Reply}
use Rattle.ledger_http.specs.ReplyText.{reply_text}
use Rattle.ledger_sql.specs.TableRows.{clock_rows, account_rows, transfer_rows, balance_rows}
use Rattle.ledger_sql.specs.TableRows.{status_rows, history_rows, failed_rows}
use Rattle.service.specs.Replies.{unavailable}
use Rattle.service.specs.Responds.{Responds, IsCaller}
use Rattle.openings.specs.OpenTables.{open_state}
use Rattle.store.specs.declared.place.Place.{Place}
use Rattle.store.specs.declared.place.Place.TheVariants as at
use Rattle.store.specs.declared.store.Store.{Store}
use Rattle.stored_ledgers.specs.Directory.{number_of}
use Rattle.store.specs.StoreLaws.{store_meaning}

-- a tenant of one database has the same rows as a tenant of another, in any order, but for the
-- number under which it keeps them
pub record HasSameRows (number : ℤ) (trees : Trees) (number' : ℤ) (trees' : Trees) : Type 0 where
  pub clock : clock_rows number trees ≡ clock_rows number' trees'
  pub accounts : IsPermutation (account_rows number trees) (account_rows number' trees')
  pub transfers : IsPermutation (transfer_rows number trees) (transfer_rows number' trees')
  pub balances : IsPermutation (balance_rows number trees) (balance_rows number' trees')
  pub statuses : IsPermutation (status_rows number trees) (status_rows number' trees')
  pub history : IsPermutation (history_rows number trees) (history_rows number' trees')
  pub failed : IsPermutation (failed_rows number trees) (failed_rows number' trees')

-- both are there, or neither is
abbrev pub AgreeAs : Option ℤ → Trees → Option ℤ → Trees → Type 0
AgreeAs (Some number) trees (Some number') trees' = HasSameRows number trees number' trees'
AgreeAs None trees None trees' = Unit {0}
AgreeAs (Some number) trees None trees' = ⊥
AgreeAs None trees (Some number') trees' = ⊥

-- two databases agree on the tenant with this digest
abbrev pub Agree : List ℕ → Trees → Trees → Type 0
Agree digest trees trees' = AgreeAs (number_of digest trees) trees (number_of digest trees') trees'

-- two open stores do, on whatever disks
abbrev pub AgreeAt :
    {D E : Type 0} {g : disk.Ghosts D} {h : disk.Ghosts E} → List ℕ → Place D g → Place E h → Type 0
AgreeAt digest (at.Open tables) (at.Open tables') =
    Agree digest (open_state tables).now.trees (open_state tables').now.trees
AgreeAt digest place place' = ⊥

abbrev pub StoresAgree :
    {D E : Type 0} {g : disk.Ghosts D} {h : disk.Ghosts E} → List ℕ → Store D g → Store E h → Type 0
StoresAgree digest store store' = AgreeAt digest store.place store'.place

-- ledgers respond to some bytes, and are live
pub record HasResponded {S : Type 0} (t : LedgersMeaning S) (old : S) (bytes : List ℕ) (moment : ℕ)
    (reply : Reply) (new : S) : Type 0 where
  pub lived : t.is_live old
  pub live : t.is_live new
  pub responds : Responds (t.tenants old) (t.tenants new) bytes moment reply

-- two stores give the same reply and leave the caller the same rows, and all other rows stay
pub record AnswersAlike {D E : Type 0} {g : disk.Ghosts D} {h : disk.Ghosts E} (bytes : List ℕ)
    (old new : Store D g) (old' new' : Store E h) (reply reply' : Reply) : Type 0 where
  pub same_reply : reply_text reply ≡ reply_text reply'
  pub same_rows : (digest : List ℕ) → IsCaller bytes digest → StoresAgree digest new new'
  pub others : (digest : List ℕ) → (IsCaller bytes digest → ⊥) → StoresAgree digest old new
  pub others' : (digest : List ℕ) → (IsCaller bytes digest → ⊥) → StoresAgree digest old' new'

-- the law of isolation: the reply and the caller's rows after it depend on the caller's rows, the
-- bytes and the moment alone
abbrev pub StoresIsolate : {D E : Type 0} → disk.Ghosts D → disk.Ghosts E → Type 0
StoresIsolate {D} {E} g h =
    (old new : Store D g) (old' new' : Store E h) (bytes : List ℕ) (moment : ℕ)
    (reply reply' : Reply)
    → HasResponded (in_use store_meaning) old bytes moment reply new
    → HasResponded (in_use store_meaning) old' bytes moment reply' new'
    → ((digest : List ℕ) → IsCaller bytes digest → StoresAgree digest old old')
    → reply ≢ unavailable
    → reply' ≢ unavailable
    → AnswersAlike bytes old new old' new' reply reply'

-- a store that answers that it is unavailable leaves every tenant the same rows
abbrev pub StoresStay : {D : Type 0} → disk.Ghosts D → Type 0
StoresStay {D} g =
    (old new : Store D g) (bytes : List ℕ) (moment : ℕ) (reply : Reply)
    → HasResponded (in_use store_meaning) old bytes moment reply new
    → reply ≡ unavailable
    → (digest : List ℕ) → StoresAgree digest old new
