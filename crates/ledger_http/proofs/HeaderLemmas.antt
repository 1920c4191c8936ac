-- The headers of a head, as their fields and as names and values.
use Rattle.std.proofs.Common.{◌≡◌, refl, ap, sym, subst, ◌∙◌, ◌≤◌, Bool, true, false, cond, ℕ, List, [], ◌∷◌, length, codes, map, filter}
use Rattle.std.proofs.lemmas.List.{length-map}
use Rattle.std.specs.Str.{str_eq_ignore_ascii_case}
use Rattle.httparse.specs.Grammar.{Field, field_value, RequestHead, ReadsRequest}
use Rattle.httparse.specs.Spans.{name_and_value, header_bytes}
use Rattle.httparse.specs.declared.spans.HeaderSpan.{HeaderSpan}
use Rattle.httparse.proofs.GrammarLemmas.{request_unique}
use Rattle.ledger_http.specs.Limits.{max_headers}
use Rattle.ledger_http.specs.Head.{values_of, IsGoodHead, IsLength}
use Rattle.ledger_http.specs.Header.{values_in}

-- a header more, which has the name or has not
one_more : (name : List ℕ) (b : Bool) (field : Field) (fields : List Field)
    → values_in name (map name_and_value fields) ≡ values_of name fields
    → map (λ header. header.1) (cond b (name_and_value field ∷ filter (λ header. str_eq_ignore_ascii_case header.0 name) (map name_and_value fields)) (filter (λ header. str_eq_ignore_ascii_case header.0 name) (map name_and_value fields)))
    ≡ map field_value (cond b (field ∷ filter (λ f. str_eq_ignore_ascii_case f.name name) fields) (filter (λ f. str_eq_ignore_ascii_case f.name name) fields))
one_more name true field fields same = ap (λ values. field_value field ∷ values) same
one_more name false field fields same = same

-- the fields and their names and values have the same values under a name
pub values_in-fields : (name : List ℕ) (fields : List Field)
    → values_in name (map name_and_value fields) ≡ values_of name fields
values_in-fields name [] = refl
values_in-fields name (field ∷ fields) =
    one_more name (str_eq_ignore_ascii_case field.name name) field fields (values_in-fields name fields)

-- spans that show the fields of a head
abbrev pub Covers : List ℕ → List HeaderSpan → RequestHead → Type 0
Covers bytes headers h = map (header_bytes bytes) headers ≡ map name_and_value h.fields

-- what they show under a name
pub values_shown : (bytes : List ℕ) (headers : List HeaderSpan) (h : RequestHead) → Covers bytes headers h
    → (name : List ℕ) → values_in name (map (header_bytes bytes) headers) ≡ values_of name h.fields
values_shown bytes headers h same name = ap (values_in name) same ∙ values_in-fields name h.fields

-- there are as many fields as spans
pub fields_shown : (bytes : List ℕ) (headers : List HeaderSpan) (h : RequestHead) → Covers bytes headers h
    → length h.fields ≡ length headers
fields_shown bytes headers h same =
    sym (length-map h.fields name_and_value) ∙ sym (ap length same) ∙ length-map headers (header_bytes bytes)

-- a head whose headers pass is good
pub good_head : (bytes : List ℕ) (headers : List HeaderSpan) (h : RequestHead) → Covers bytes headers h
    → ReadsRequest bytes h [] → h.minor ≡ 1 → length headers ≤ max_headers
    → values_in (codes "transfer-encoding") (map (header_bytes bytes) headers) ≡ []
    → IsLength (values_in (codes "content-length") (map (header_bytes bytes) headers))
    → IsGoodHead bytes h
good_head bytes headers h same reads minor few coding lengths =
    let shown = values_shown bytes headers h same in
    record {
      reads = reads;
      version = minor;
      few = subst (λ n. n ≤ max_headers) (sym (fields_shown bytes headers h same)) few;
      coding = sym (shown (codes "transfer-encoding")) ∙ coding;
      lengths = subst IsLength (shown (codes "content-length")) lengths;
    }

-- a head whose headers do not pass is not good, and no other reads the bytes
pub no_good_head : (bytes : List ℕ) (headers : List HeaderSpan) (h : RequestHead) → Covers bytes headers h
    → ReadsRequest bytes h []
    → (values_in (codes "transfer-encoding") (map (header_bytes bytes) headers) ≡ []
    → IsLength (values_in (codes "content-length") (map (header_bytes bytes) headers)) → ⊥)
    → (other : RequestHead) → IsGoodHead bytes other → ⊥
no_good_head bytes headers h same reads refused other good =
    let shown = values_shown bytes headers h same in
    let one : other ≡ h = (request_unique bytes other h [] [] good.reads reads).0 in
    refused
    (shown (codes "transfer-encoding") ∙ ap (λ k. values_of (codes "transfer-encoding") k.fields) (sym one) ∙ good.coding)
    (subst IsLength (ap (λ k. values_of (codes "content-length") k.fields) one ∙ sym (shown (codes "content-length"))) good.lengths)
