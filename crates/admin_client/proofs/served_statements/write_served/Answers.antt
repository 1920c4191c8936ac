use Rattle.std.proofs.Common.{◌∙◌, Bool, List, MatchResult, subst, sym}
use Rattle.std.specs.Io.KnownBytes.{Appends}
use Rattle.chain.specs.declared.account_entry.AccountEntry.{AccountEntry}
use Rattle.admin_client.specs.Served.{OfAllPieces, text_by}
use Rattle.admin_client.specs.Served.{IsUnserved}
use Rattle.admin_client.proofs.served_statements.write_served.Goals as goal

pub returns-then-is_whole-clause-written : goal.returns-then-is_whole-clause-written
returns-then-is_whole-clause-written g c =
    subst
    (λ (whole : Bool). MatchResult c.write_whole.result.1
    (λ _. OfAllPieces c.args.first.asked c.args.first.entries
    (λ (entries : List AccountEntry). Appends (g.O.Drain.written c.args.out)
    (g.O.Drain.written c.write_whole.result.0)
    (text_by whole c.args.first.asked.account c.args.asked.now entries))) IsUnserved)
    (sym c.if-is_whole.true ∙ c.is_whole.ensures) c.write_whole.ensures.written
