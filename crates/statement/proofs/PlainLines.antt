-- No field of an entry needs quotes.
use Rattle.std.proofs.Common.{◌≡◌, ◌∙◌, ◌∷◌, ◌++◌, ◌+◌, ◌/◌, ◌%◌, ◌==◌, ◌||◌, ◌≤◌, ℕ, zero, suc, Bool, true, false, cond, List, [], ap, refl, arith, append-nil}
use Rattle.std.specs.Prelude.{nat_lt}
use Rattle.std.specs.List.{join_with_byte, list_any}
use Rattle.std.specs.Fmt.{decimal, digit_glyph, digits, digits_onto}
use Rattle.std.proofs.lemmas.Bool.{ne_eqb}
use Rattle.csv.specs.Writing.{default_writer, field_text, fields_text, is_blank, needs_byte, quoted, row_text}
use Rattle.records.specs.declared.side.Side.{Side}
use Rattle.records.specs.declared.side.Side.TheVariants.{Debit, Credit}
use Rattle.records.specs.declared.statement_row.Kind.{Kind}
use Rattle.records.specs.declared.statement_row.Kind.TheVariants.{Single, Pending, Post, Void}
use Rattle.statement.specs.Laws.{AreLinesPlain}
use Rattle.statement.specs.Text.{kind_name, line_of, side_name}

abbrev IsPlain : List ℕ → Type 0
IsPlain field = list_any (needs_byte default_writer) field ≡ false

-- ---- digits

byte_is_plain : (x : ℕ) → 48 ≤ x → needs_byte default_writer x ≡ false
byte_is_plain x high =
    let comma : (x == 44) ≡ false = ne_eqb x 44 (λ e. omega (arith, e, high)) in
    let quote : (x == 34) ≡ false = ne_eqb x 34 (λ e. omega (arith, e, high)) in
    let return : (x == 13) ≡ false = ne_eqb x 13 (λ e. omega (arith, e, high)) in
    let feed : (x == 10) ≡ false = ne_eqb x 10 (λ e. omega (arith, e, high)) in
    rw (comma, quote, return, feed) refl

glyph_is_high : (d : ℕ) → 48 ≤ digit_glyph false d
glyph_is_high d = go (nat_lt d 10)
  where
    go : (b : Bool) → 48 ≤ cond b (48 + d) (87 + d)
    go true = omega arith
    go false = omega arith

one_more : (x : ℕ) (xs : List ℕ) → 48 ≤ x → IsPlain xs → IsPlain (x ∷ xs)
one_more x xs high plain = ap (λ (b : Bool). b || list_any (needs_byte default_writer) xs) (byte_is_plain x high) ∙ plain

digits_are_plain : (k n : ℕ) (acc : List ℕ) → IsPlain acc → IsPlain (digits_onto k 10 false n acc)
digits_are_plain zero n acc plain = plain
digits_are_plain (suc k) n acc plain =
    go (n / 10 == 0) (digits_are_plain k (n / 10) (digit_glyph false (n % 10) ∷ acc) more)
  where
    more : IsPlain (digit_glyph false (n % 10) ∷ acc)
    more = one_more (digit_glyph false (n % 10)) acc (glyph_is_high (n % 10)) plain

    go : (b : Bool) → IsPlain (digits_onto k 10 false (n / 10) (digit_glyph false (n % 10) ∷ acc))
        → IsPlain (cond b (digit_glyph false (n % 10) ∷ acc) (digits_onto k 10 false (n / 10) (digit_glyph false (n % 10) ∷ acc)))
    go true later = more
    go false later = later

number_is_plain : (n : ℕ) → IsPlain (decimal n)
unfolding digits
number_is_plain n = digits_are_plain 64 n [] refl

side_is_plain : (side : Side) → IsPlain (side_name side)
side_is_plain Debit = refl
side_is_plain Credit = refl

kind_is_plain : (kind : Kind) → IsPlain (kind_name kind)
kind_is_plain Single = refl
kind_is_plain Pending = refl
kind_is_plain Post = refl
kind_is_plain Void = refl

-- ---- records

abbrev ArePlain : List (List ℕ) → Type 0
ArePlain [] = Unit {0}
ArePlain (field ∷ fields) = IsPlain field × ArePlain fields

field_is : (field : List ℕ) → IsPlain field → field_text default_writer field ≡ field
field_is field plain = ap (λ (b : Bool). cond b (quoted default_writer field) field) plain

joined : (field : List ℕ) (fields : List (List ℕ)) → ArePlain fields → field ++ fields_text default_writer fields ≡ join_with_byte 44 (field ∷ fields)
unfolding fields_text
joined field [] plain = append-nil field
joined field (next ∷ fields) plain =
    ap (λ (xs : List ℕ). field ++ (44 ∷ (xs ++ fields_text default_writer fields))) (field_is next plain.0)
    ∙ ap (λ (xs : List ℕ). field ++ (44 ∷ xs)) (joined next fields plain.1)

record_is : (field next : List ℕ) (fields : List (List ℕ)) → IsPlain field → ArePlain (next ∷ fields)
    → row_text default_writer (field ∷ next ∷ fields) ≡ join_with_byte 44 (field ∷ next ∷ fields) ++ 10 ∷ []
unfolding is_blank
record_is field next fields first rest =
    ap (λ (xs : List ℕ). (xs ++ fields_text default_writer (next ∷ fields)) ++ 10 ∷ []) (field_is field first)
    ∙ ap (λ (xs : List ℕ). xs ++ 10 ∷ []) (joined field (next ∷ fields) rest)

pub lines_plain : AreLinesPlain
unfolding line_of
lines_plain row =
    record_is _ _ _ (number_is_plain row.timestamp) (
      number_is_plain row.transfer_id,
      (
        side_is_plain row.side,
        (
          kind_is_plain row.kind,
          (
            number_is_plain row.amount,
            (
              number_is_plain row.balances.debits.pending,
              (
                number_is_plain row.balances.debits.posted,
                (number_is_plain row.balances.credits.pending, (number_is_plain row.balances.credits.posted, tt)),
              ),
            ),
          ),
        ),
      ),
    )
