-- What a body tells of entries is read back as these.
use Rattle.std.proofs.Common.{◌≡◌, ◌∙◌, ℕ, ◌<◌, ◌≤◌, ◌^◌, Bool, true, false, cond, List, [], ◌∷◌, All, Option, Some, None, map, refl, sym, ap, arith, rules, append-nil}
use Rattle.std.specs.Prelude.{bytes_eq, codes, decimal, option_and_then}
use Rattle.std.specs.Str.{is_utf8}
use Rattle.std.specs.Str.Parse.{digits_value}
use Rattle.std.proofs.lemmas.Bool.Decides.{nat_tests}
use Rattle.std.proofs.lemmas.Fmt.{decimal_is_IsNumeral_wide}
use Rattle.std.proofs.lemmas.List.Elements.{All-head, All-tail}
use Rattle.std.proofs.lemmas.Slice.Eq.{bytes_eq-Decides}
use Rattle.amount.specs.Decimal.{decimal_of}
use Rattle.chain.specs.declared.account_entry.AccountEntry.{AccountEntry}
use Rattle.control.specs.Answers.{body_of}
use Rattle.control.specs.Entries.{balances_in, sums_in, entries_data, entries_of, entry_data, entry_in, listed_in, transfer_in}
use Rattle.control.specs.Numbers.{number_at, number_in}
use Rattle.json.proofs.Printed.Tokens.{tokens-print}
use Rattle.json.proofs.Printed.Trees.{ArePrintable-json_tokens, value-json_tokens}
use Rattle.json.specs.Json as json
use Rattle.json.specs.Lex.{tokens}
use Rattle.json.specs.Token.{Token}
use Rattle.json.specs.Tree.{HasNumbers, ItemsHaveNumbers, depth, items_depth, json_tokens}
use Rattle.serde_json.proofs.OnLiterals.{serde_json_on_literals}
use Rattle.serde_json.proofs.Texts.{print-outline}
use Rattle.serde_json.specs.Data.{Data, array, string}
use Rattle.serde_json.specs.Find.{as_str, get}
use Rattle.serde_json.specs.Read.{max_depth, of_items, of_json, read}
use Rattle.serde_json.specs.View.{items_of}
use Rattle.serde_json.specs.Written.{compact_text, items_outline, outline}
use Rattle.wire.specs.Body.{json_of}
use Rattle.wire.specs.Fields.{canonical_number, number_below}
use Rattle.wire.specs.Reply.{object_with}
use Rattle.commands.specs.ReadBack.{IsEntryInWidth, PiecesAreReadBack}

-- the number whose decimal a member has
number_back : (bound n : ℕ) → n < bound → n < 2 ^ 128 → number_below bound (decimal n) ≡ Some n
unfolding canonical_number
number_back bound n within small =
    let value : digits_value 10 (decimal n) ≡ n = (decimal_is_IsNumeral_wide n (omega arith)).1 in
    let same : bytes_eq (decimal_of (digits_value 10 (decimal n))) (decimal n) ≡ true =
    (bytes_eq-Decides _ (decimal n)).1 (ap decimal_of value) in
    rw (same, value) (grind (arith, nat_tests))

member_back :
    (bound n : ℕ) (name : List ℕ) (d : Data) → n < bound → n < 2 ^ 128
    → get name d ≡ Some (string (decimal n)) → number_at bound name d ≡ Some n
member_back bound n name d within small is =
    ap (λ (x : Option Data). option_and_then (number_in bound) (option_and_then as_str x)) is
    ∙ number_back bound n within small

-- the members of an entry, by name, as they are read
abbrev read_members : AccountEntry → List (List ℕ × Data)
read_members entry =
    (codes "amount", string (decimal entry.transfer.amount))
    ∷ (codes "at", string (decimal entry.transfer.at))
    ∷ (codes "code", string (decimal entry.transfer.code))
    ∷ (codes "credit_account_id", string (decimal entry.transfer.credit_account_id))
    ∷ (codes "credits_pending", string (decimal entry.balances.credits.pending))
    ∷ (codes "credits_posted", string (decimal entry.balances.credits.posted))
    ∷ (codes "debit_account_id", string (decimal entry.transfer.debit_account_id))
    ∷ (codes "debits_pending", string (decimal entry.balances.debits.pending))
    ∷ (codes "debits_posted", string (decimal entry.balances.debits.posted))
    ∷ (codes "flags", string (decimal entry.transfer.flags.0))
    ∷ (codes "id", string (decimal entry.transfer.id))
    ∷ (codes "ledger", string (decimal entry.transfer.ledger))
    ∷ (codes "pending_id", string (decimal entry.transfer.pending_id))
    ∷ (codes "timeout", string (decimal entry.transfer.timeout))
    ∷ (codes "timestamp", string (decimal entry.transfer.timestamp))
    ∷ (codes "user_data_128", string (decimal entry.transfer.user_data_128))
    ∷ (codes "user_data_32", string (decimal entry.transfer.user_data_32))
    ∷ (codes "user_data_64", string (decimal entry.transfer.user_data_64))
    ∷ []

unfoldable read_data : AccountEntry → Data
read_data entry = object_with (read_members entry)

entry_read : (e : AccountEntry) → of_json (outline (entry_data e)) ≡ Some (read_data e)
unfolding entry_data read_data serde_json_on_literals
entry_read e = refl

-- each number of an entry is read back
module _ (e : AccountEntry) (fits : IsEntryInWidth e) where
  abbrev Has : ℕ → List ℕ → ℕ → Type 0
  Has bound name n = number_at bound name (read_data e) ≡ Some n

  has :
      (bound n : ℕ) (name : List ℕ) → n < bound → bound ≤ 2 ^ 128
      → get name (read_data e) ≡ Some (string (decimal n)) → Has bound name n
  has bound n name within small is = member_back bound n name (read_data e) within (omega arith) is

  id_is : Has (2 ^ 128) (codes "id") e.transfer.id
  unfolding read_data
  id_is = has _ _ (codes "id") fits.transfer.id (omega arith) refl

  debit_is : Has (2 ^ 128) (codes "debit_account_id") e.transfer.debit_account_id
  unfolding read_data
  debit_is = has _ _ (codes "debit_account_id") fits.transfer.debit_account_id (omega arith) refl

  credit_is : Has (2 ^ 128) (codes "credit_account_id") e.transfer.credit_account_id
  unfolding read_data
  credit_is = has _ _ (codes "credit_account_id") fits.transfer.credit_account_id (omega arith) refl

  amount_is : Has (2 ^ 128) (codes "amount") e.transfer.amount
  unfolding read_data
  amount_is = has _ _ (codes "amount") fits.transfer.amount (omega arith) refl

  pending_is : Has (2 ^ 128) (codes "pending_id") e.transfer.pending_id
  unfolding read_data
  pending_is = has _ _ (codes "pending_id") fits.transfer.pending_id (omega arith) refl

  user_128_is : Has (2 ^ 128) (codes "user_data_128") e.transfer.user_data_128
  unfolding read_data
  user_128_is = has _ _ (codes "user_data_128") fits.transfer.user_data_128 (omega arith) refl

  user_64_is : Has (2 ^ 64) (codes "user_data_64") e.transfer.user_data_64
  unfolding read_data
  user_64_is = has _ _ (codes "user_data_64") fits.transfer.user_data_64 (omega arith) refl

  user_32_is : Has (2 ^ 32) (codes "user_data_32") e.transfer.user_data_32
  unfolding read_data
  user_32_is = has _ _ (codes "user_data_32") fits.transfer.user_data_32 (omega arith) refl

  timeout_is : Has (2 ^ 32) (codes "timeout") e.transfer.timeout
  unfolding read_data
  timeout_is = has _ _ (codes "timeout") fits.transfer.timeout (omega arith) refl

  ledger_is : Has (2 ^ 32) (codes "ledger") e.transfer.ledger
  unfolding read_data
  ledger_is = has _ _ (codes "ledger") fits.transfer.ledger (omega arith) refl

  code_is : Has (2 ^ 16) (codes "code") e.transfer.code
  unfolding read_data
  code_is = has _ _ (codes "code") fits.transfer.code (omega arith) refl

  flags_is : Has (2 ^ 16) (codes "flags") e.transfer.flags.0
  unfolding read_data
  flags_is = has _ _ (codes "flags") fits.transfer.flags (omega arith) refl

  timestamp_is : Has (2 ^ 64) (codes "timestamp") e.transfer.timestamp
  unfolding read_data
  timestamp_is = has _ _ (codes "timestamp") fits.transfer.timestamp (omega arith) refl

  at_is : Has (2 ^ 64) (codes "at") e.transfer.at
  unfolding read_data
  at_is = has _ _ (codes "at") fits.transfer.at (omega arith) refl

  debits_pending_is : Has (2 ^ 128) (codes "debits_pending") e.balances.debits.pending
  unfolding read_data
  debits_pending_is = has _ _ (codes "debits_pending") fits.debits_pending (omega arith) refl

  debits_posted_is : Has (2 ^ 128) (codes "debits_posted") e.balances.debits.posted
  unfolding read_data
  debits_posted_is = has _ _ (codes "debits_posted") fits.debits_posted (omega arith) refl

  credits_pending_is : Has (2 ^ 128) (codes "credits_pending") e.balances.credits.pending
  unfolding read_data
  credits_pending_is = has _ _ (codes "credits_pending") fits.credits_pending (omega arith) refl

  credits_posted_is : Has (2 ^ 128) (codes "credits_posted") e.balances.credits.posted
  unfolding read_data
  credits_posted_is = has _ _ (codes "credits_posted") fits.credits_posted (omega arith) refl

  transfer_is : transfer_in (read_data e) ≡ Some e.transfer
  unfolding transfer_in
  transfer_is =
      rw (
        id_is,
        debit_is,
        credit_is,
        amount_is,
        pending_is,
        user_128_is,
        user_64_is,
        user_32_is,
        timeout_is,
        ledger_is,
        code_is,
        flags_is,
        timestamp_is,
        at_is,
      ) refl

  balances_are : balances_in (read_data e) ≡ Some e.balances
  unfolding sums_in
  balances_are = rw (debits_pending_is, debits_posted_is, credits_pending_is, credits_posted_is) refl

  entry_is : entry_in (read_data e) ≡ Some e
  entry_is = rw (transfer_is, balances_are) refl

-- lists of entries
items_read :
    (es : List AccountEntry)
    → of_items (items_outline (items_of (map entry_data es))) ≡ Some (items_of (map read_data es))
items_read [] = refl
items_read (e ∷ es) = rw (entry_read e, items_read es) refl

items_are :
    (es : List AccountEntry) → All IsEntryInWidth es
    → entries_of (items_of (map read_data es)) ≡ Some es
items_are [] all = refl
items_are (e ∷ es) all =
    let one = entry_is e (All-head IsEntryInWidth e es all) in
    rw (one, items_are es (All-tail IsEntryInWidth e es all)) refl

-- the whole body
read_all : ℕ → List AccountEntry → Data
read_all clock es = object_with (
    (codes "clock", string (decimal clock))
    ∷ (codes "entries", array (items_of (map read_data es)))
    ∷ [])

all_read :
    (clock : ℕ) (es : List AccountEntry)
    → of_json (outline (entries_data clock es)) ≡ Some (read_all clock es)
unfolding read_all serde_json_on_literals
all_read clock es = rw (items_read es) refl

entry_depth : (e : AccountEntry) → depth (outline (entry_data e)) ≤ 1
unfolding entry_data
entry_depth e = omega arith

entries_depth :
    (es : List AccountEntry) → items_depth (items_outline (items_of (map entry_data es))) ≤ 1
entries_depth [] = omega arith
entries_depth (e ∷ es) = omega (arith, entry_depth e, entries_depth es)

entry_numbers : (e : AccountEntry) → HasNumbers (outline (entry_data e))
unfolding entry_data
entry_numbers e = search rules

entries_numbers :
    (es : List AccountEntry) → ItemsHaveNumbers (items_outline (items_of (map entry_data es)))
entries_numbers [] = tt
entries_numbers (e ∷ es) = (entry_numbers e, entries_numbers es)

-- a body is read as one value, where it is read at all
body_read :
    (clock : ℕ) (es : List AccountEntry)
    → read (compact_text (entries_data clock es)) ≡ Some (read_all clock es)
body_read clock es =
    let d = entries_data clock es in
    let j = outline d in
    let fits : depth j ≤ max_depth = omega (arith, entries_depth es) in
    let numbers : HasNumbers j = (tt, (entries_numbers es, tt)) in
    let tokens_are : tokens (compact_text d) ≡ json_tokens j =
    ap tokens (sym (print-outline d))
    ∙ tokens-print (json_tokens j) (ArePrintable-json_tokens j numbers) in
    let whole = λ (o : Option (json.Json × List Token)).
    option_and_then of_json (option_and_then (λ p. json.if_last p.0 p.1) o) in
    ap (λ (ts : List Token). whole (json.value max_depth ts))
    (tokens_are ∙ sym (append-nil (json_tokens j)))
    ∙ ap whole (value-json_tokens j max_depth [] fits)
    ∙ all_read clock es

read_if : (b : Bool) (found : Option Data) (d : Data) → cond b found None ≡ Some d → found ≡ Some d
read_if true found d is = is
read_if false found d is = absurd (cc)

json_read : (body : List ℕ) (d : Data) → json_of body ≡ Some d → read body ≡ Some d
unfolding json_of
json_read body d is = read_if (is_utf8 body) (read body) d is

clock_is :
    (clock : ℕ) (es : List AccountEntry) → clock < 2 ^ 64
    → number_at (2 ^ 64) (codes "clock") (read_all clock es) ≡ Some clock
unfolding read_all
clock_is clock es small = member_back _ _ (codes "clock") (read_all clock es) small (omega arith) refl

list_is :
    (clock : ℕ) (es : List AccountEntry) → All IsEntryInWidth es
    → listed_in (read_all clock es) ≡ Some es
unfolding read_all
list_is clock es fits = items_are es fits

pub read_back : PiecesAreReadBack
read_back asked piece answer told clock entries small fits body =
    let is = told.3 in
    let same : Some (read_all clock entries) ≡ Some is.0 =
    sym (body_read clock entries) ∙ sym (ap read body) ∙ json_read (body_of answer) is.0 is.1 in
    let d : read_all clock entries ≡ is.0 = cc in
    let one : Some clock ≡ Some piece.clock =
    sym (clock_is clock entries small) ∙ ap (number_at (2 ^ 64) (codes "clock")) d ∙ is.2 in
    let all : Some entries ≡ Some piece.entries.items =
    sym (list_is clock entries fits) ∙ ap listed_in d ∙ is.3 in
    (cc, cc)
