-- A body in chunks, one behind the other (RFC 9112, 7.1).
use Rattle.std.specs.Prelude.{ℕ, List, ◌++◌, length, false, codes}
use Rattle.std.specs.Fmt.{digits}
use Rattle.http.specs.StatusCode.{status_text}
use Rattle.ledger_http.specs.declared.content_type.ContentType.{ContentType}
use Rattle.ledger_http.specs.ReplyText.{kind_name, line_end}

-- a chunk: how many bytes it has, in hexadecimal digits, and these; one of no bytes is the last
abbrev pub chunk : List ℕ → List ℕ
chunk bytes = digits 16 false (length bytes) ++ line_end ++ bytes ++ line_end

-- the status line, the type of the body and that it comes in chunks, and an empty line
abbrev pub chunked_head : ContentType → List ℕ
chunked_head kind =
    codes "HTTP/1.1 " ++ status_text 200 ++ line_end
    ++ codes "content-type: " ++ kind_name kind ++ line_end
    ++ codes "transfer-encoding: chunked" ++ line_end
    ++ line_end

-- a reply without refusal whose body comes in these chunks
unfoldable pub chunked_text : ContentType → List ℕ → List ℕ
chunked_text kind chunks = chunked_head kind ++ chunks
