-- The statement of a period: what was read of it, and what is written.
use Rattle.std.proofs.Common.{◌≡◌, ◌∙◌, ℕ, Bool, true, false, List, Option, Result, Ok, length, map, ap, sym, subst}
use Rattle.chain.specs.Ledgers.{LedgersMeaning}
use Rattle.chain.specs.LedgerReads.{IsHanded, ReadsOnly, Seen, seen_in}
use Rattle.chain.specs.declared.reads.ReadFault.{ReadFault}
use Rattle.records.specs.Machine.{Machine}
use Rattle.records.specs.Reads.{Found, found_transfers}
use Rattle.records.specs.declared.statement_row.StatementRow.{StatementRow}
use Rattle.records.specs.declared.transfer.Transfer.{Transfer}
use Rattle.statement.specs.Extract.{IsEmptyOver, IsExtractOf, Keeps, RowsMakeAnExtract}
use Rattle.statement.specs.declared.extract.Extract.{Extract}
use Rattle.statement.specs.declared.period.Period.{Period}
use Rattle.command_texts.specs.declared.fault.Fault.{Fault}
use Rattle.admin_client.specs.Asking.{is_whole}
use Rattle.admin_client.specs.Extracts.{AreTransfersOf, IsAskedTold}
use Rattle.admin_client.specs.Extracts.{IsExtractTold, ToldBy}
use Rattle.admin_client.specs.Statements.{IsStatementTold, answer_in}
use Rattle.admin_client.specs.declared.asked.Asked.{Asked}

-- an extract that took a whole statement is what lies in its period
pub handed :
    (p : Period) (seen : Result (Seen (List StatementRow)) ReadFault) (new last : Extract)
    → RowsMakeAnExtract → IsEmptyOver p new → IsHanded Keeps seen new last
    → (answer : Seen (List StatementRow)) × (seen ≡ Ok answer) × IsExtractOf p answer.shown last
handed p seen new last law empty all =
    (all.answer, all.is, law p new last all.answer.shown empty all.taken)

-- reads behind one another are reads
module _ {S : Type 0} (t : LedgersMeaning S)
    (then : (a b c : S) → t.follows a b → t.follows b c → t.follows a c)
    (lived : (a b : S) → t.follows a b → t.is_live b → t.is_live a) where
  pub reads_then : (a b c : S) → ReadsOnly t a b → ReadsOnly t b c → ReadsOnly t a c
  reads_then a b c one two = record {
    same = λ live digest. two.same live digest ∙ one.same (lived b c two.follows live) digest;
    follows = then a b c one.follows two.follows;
  }

-- the transfers of an extract's entries, looked up by their ids
pub transfers_told :
    (tenant : Option Machine) (is_wide : Bool) (rows : List StatementRow) (ids : List ℕ) (clock : ℕ)
    (transfers : List Transfer)
    → is_wide ≡ true → ids ≡ map (λ row. row.transfer_id) rows
    → seen_in (λ m. Found (found_transfers m ids)) tenant ≡ Ok (record { clock = clock; shown = transfers })
    → length transfers ≡ length rows
    → AreTransfersOf tenant is_wide rows transfers
transfers_told tenant is_wide rows ids clock transfers wide is seen size =
    subst (λ (w : Bool). AreTransfersOf tenant w rows transfers) (sym wide) (
      clock,
      ap (λ (xs : List ℕ). seen_in (λ m. Found (found_transfers m xs)) tenant) (sym is) ∙ seen,
      size,
    )

-- what is asked for, where that is the whole statement, and where it is not
pub asked_whole :
    {O : Type 0} (written : O → Option (List ℕ)) (tenant : Option Machine) (account : ℕ)
    (asked : Asked) (old new : O) (result : Result Unit Fault) (b : Bool) → b ≡ is_whole asked → b ≡ true
    → IsStatementTold written (answer_in tenant account asked.order) old new result
    → IsAskedTold written tenant account asked old new result
asked_whole written tenant account asked old new result b is whole told =
    subst (λ (w : Bool). ToldBy w written tenant account asked old new result) (sym whole ∙ is) told

pub asked_part :
    {O : Type 0} (written : O → Option (List ℕ)) (tenant : Option Machine) (account : ℕ)
    (asked : Asked) (old new : O) (result : Result Unit Fault) (b : Bool) → b ≡ is_whole asked → b ≡ false
    → IsExtractTold written tenant account asked old new result
    → IsAskedTold written tenant account asked old new result
asked_part written tenant account asked old new result b is part told =
    subst (λ (w : Bool). ToldBy w written tenant account asked old new result) (sym part ∙ is) told
