-- The reply to who asks for a statement, as it is begun, and read to its end.
use Rattle.std.proofs.Common.{◌≡◌, ◌≢◌, ◌∙◌, ℕ, List, ◌++◌, length, Option, Some, None, Ok, refl, sym, ap, subst, append_assoc, append-nil}
use Rattle.std.specs.Option.{option_map}
use Rattle.records.specs.Facts.{account_in, with_balances}
use Rattle.records.specs.Machine.{Machine, account_with}
use Rattle.records.specs.Reads.{answer_by, statement_of}
use Rattle.records.specs.Valid.{IsValid}
use Rattle.records.specs.declared.account.Account.{Account}
use Rattle.records.specs.declared.statement_row.StatementRow.{StatementRow}
use Rattle.chain.specs.Ledgers.{Tenants, AreValid, KeepsAll}
use Rattle.ledger_http.specs.Chunks.{chunked_head, chunked_text}
use Rattle.ledger_http.specs.ReplyText.{reply_text}
use Rattle.ledger_http.specs.declared.content_type.ContentType.TheVariants.{Csv}
use Rattle.ledger_http.specs.declared.reply.Reply.{Reply}
use Rattle.statement.specs.Text.{header_line}
use Rattle.wire.specs.Told.{outcome_text}
use Rattle.wire.specs.declared.outcome.Outcome.TheVariants as told
use Rattle.wire.specs.declared.read.Read.TheVariants.{Statement}
use Rattle.wire.specs.declared.request.Request.TheVariants.{Read}
use Rattle.parts.specs.Chunks.{chunks_of, statement_chunks}
use Rattle.parts.specs.Parts.{IsLeftBehind, IsPart, chunks_behind, chunks_by, chunks_in, whole_rest}
use Rattle.parts.specs.declared.rest.Part.{Part}
use Rattle.parts.specs.declared.rest.Rest.{Rest}
use Rattle.parts.proofs.WholeRows.{whole_rows}
use Rattle.service.specs.Begun.{IsLeftOf, reply_of, reply_with}
use Rattle.service.specs.Replies.{Serves}
use Rattle.service.specs.Served.{answer_told, served_to}
use Rattle.service.proofs.ServedReads.{serves_by_read}

-- more chunks are those of a longer body
more_chunks : (chunks more : List ℕ) → chunked_text Csv chunks ++ more ≡ chunked_text Csv (chunks ++ more)
unfolding chunked_text
more_chunks chunks more = append_assoc (chunked_head Csv) chunks more

-- what is left behind a part, as the tenants' machines have it
pub left_so :
    (m : Machine) (rest : Rest) (tenants : Tenants) (behind : Option Rest) →
    tenants rest.digest ≡ Some m → IsLeftBehind m rest behind →
    (front : Reply) →
    reply_text (reply_with tenants front behind) ≡ reply_text front ++ chunks_in m behind
left_so m rest tenants None is left front = sym (append-nil (reply_text front))
left_so m rest tenants (Some next) is left front =
    ap (λ (o : Option Machine). reply_text front ++ chunks_by o next) (ap tenants left.digest ∙ is)

-- a statement is told of an account that is there
told_there :
    (m : Machine) (account : ℕ) (there : Option Account) → account_with account m.accounts ≡ there → there ≢ None →
    answer_told (λ (rows : List StatementRow). told.Statement (statement_chunks rows)) (answer_by there (statement_of m account))
    ≡ told.Statement (statement_chunks (statement_of m account))
told_there m account None is some = absurd (some refl)
told_there m account (Some found) is some = refl

told_so :
    (m : Machine) (account moment : ℕ) (tenant : Option Machine) → tenant ≡ Some m → account_in m account ≢ None →
    outcome_text (served_to tenant (Ok (Read (Statement account))) moment).told
    ≡ chunked_text Csv (statement_chunks (statement_of m account))
told_so m account moment tenant is there =
    ap (λ (o : Option Machine). outcome_text (served_to o (Ok (Read (Statement account))) moment).told) is
    ∙ ap outcome_text (told_there m account (account_with account m.accounts) refl
    (λ none. there (ap (option_map (with_balances m)) none)))

chunks_so :
    (m : Machine) (digest header : List ℕ) (account : ℕ) (rest : Rest) → IsValid m →
    rest ≡ whole_rest digest account → header ≡ header_line →
    chunks_behind header m rest ≡ statement_chunks (statement_of m account)
chunks_so m digest header account rest valid rest_is header_is =
    ap (λ (r : Rest). chunks_behind header m r) rest_is
    ∙ ap (λ (h : List ℕ). chunks_behind h m (whole_rest digest account)) header_is
    ∙ ap (λ (rows : List StatementRow). chunks_of (length rows) header_line rows) (whole_rows m digest account valid)

-- a statement that is begun
pub statement_begun :
    (old new : Tenants) (digest header : List ℕ) (account moment : ℕ) (rest : Rest) (part : Part)
    (front : Reply) → AreValid old → KeepsAll old new → rest ≡ whole_rest digest account →
    header ≡ header_line → IsPart header (old rest.digest) rest part →
    reply_text front ≡ outcome_text (told.Statement part.chunks) →
    Serves old new digest (Ok (Read (Statement account))) moment
    (reply_of new (record { front = front; rest = part.rest }))
statement_begun old new digest header account moment rest part front valid keeps rest_is header_is is text =
    let m = is.machine in
    let digest_is : rest.digest ≡ digest = ap (λ (r : Rest). r.digest) rest_is in
    let account_is : rest.account ≡ account = ap (λ (r : Rest). r.account) rest_is in
    let there = subst (λ (a : ℕ). account_in m a ≢ None) account_is is.there in
    serves_by_read old new digest (Statement account) (Statement account) moment
    (reply_of new (record { front = front; rest = part.rest })) refl keeps
    (λ ne.
    left_so m rest new part.rest (keeps rest.digest ∙ is.is) is.behind front
    ∙ ap (λ (bytes : List ℕ). bytes ++ chunks_in m part.rest) text
    ∙ more_chunks part.chunks (chunks_in m part.rest)
    ∙ ap (chunked_text Csv) (is.chunks ∙ chunks_so m digest header account rest (valid rest.digest m is.is) rest_is header_is)
    ∙ sym (told_so m account moment (old digest) (ap old (sym digest_is) ∙ is.is) there))

-- and what is left of it
pub left_of :
    (old new : Tenants) (rest : Rest) (header : List ℕ) (part : Part) → KeepsAll old new →
    IsPart header (old rest.digest) rest part → (next : Rest) → part.rest ≡ Some next →
    IsLeftOf old new next
left_of old new rest header part keeps is next some =
    let behind = subst (IsLeftBehind is.machine rest) some is.behind in
    (keeps, (is.machine, ap new behind.digest ∙ keeps rest.digest ∙ is.is, behind.ends))
