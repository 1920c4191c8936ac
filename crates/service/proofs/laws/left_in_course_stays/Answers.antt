use Rattle.std.proofs.Common.{◌≡◌, ◌∙◌, [], List, Option, Some, ap, length, sym}
use Rattle.engine.specs.Following.{ContinuesAfter}
use Rattle.records.specs.Machine.{Machine}
use Rattle.records.specs.declared.statement_row.StatementRow.{StatementRow}
use Rattle.parts.specs.Chunks.{chunks_of}
use Rattle.parts.specs.Parts.{chunks_by}
use Rattle.service.proofs.RetryLemmas.{course_leads}
use Rattle.service.proofs.laws.left_in_course_stays.Goals as goal

pub returns : goal.returns
returns c old new events course rest held same =
    let led =
    course_leads ContinuesAfter c.requests_continue.ensures old new events course rest.digest
    held.0 held.1 in
    let now : new rest.digest ≡ Some led.0 = ap new (sym same) ∙ led.1 in
    ap (λ (tenant : Option Machine). chunks_by tenant rest) now
    ∙ ap (λ (rows : List StatementRow). chunks_of (length rows) [] rows)
    (c.rests_stay.ensures held.0 led.0 rest led.2 held.2)
    ∙ sym (ap (λ (tenant : Option Machine). chunks_by tenant rest) held.1)
