-- The reply that has the page.
use Rattle.std.specs.Prelude.{ℕ, List, [], ◌∷◌, ◌++◌, codes, decimal}
use Rattle.console.specs.Page.{page_length, page_text, script_digest, style_digest}

-- carriage return and line feed
abbrev pub line_end : List ℕ
line_end = 13 ∷ 10 ∷ []

-- what the page may do: run its own script and style, ask where it came from, and nothing else
abbrev pub policy : List ℕ
policy =
    codes "default-src 'none'; connect-src 'self'"
    ++ codes "; script-src " ++ script_digest
    ++ codes "; style-src " ++ style_digest
    ++ codes "; img-src data:; base-uri 'none'; form-action 'none'; frame-ancestors 'none'"
    ++ codes "; require-trusted-types-for 'script'; trusted-types 'none'"

-- the status line, the length and the type of the page, its policy, that its type is meant, and an
-- empty line
abbrev pub reply_head : List ℕ
reply_head =
    codes "HTTP/1.1 200 OK" ++ line_end
    ++ codes "content-length: " ++ decimal page_length ++ line_end
    ++ codes "content-type: text/html; charset=utf-8" ++ line_end
    ++ codes "content-security-policy: " ++ policy ++ line_end
    ++ codes "x-content-type-options: nosniff" ++ line_end
    ++ line_end

-- the whole reply
abbrev pub reply_text : List ℕ
reply_text = reply_head ++ page_text
