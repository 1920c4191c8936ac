-- Orders that all are one.
use Rattle.std.proofs.Common.{◌≡◌, ℕ, suc, zero, Bool, true, false, ◌&&◌, List, [], ◌∷◌, length}
use Rattle.std.proofs.Common.{replicate, refl, ap, arith}
use Rattle.std.proofs.lemmas.Bool.{eqb-true}
use Rattle.std.specs.List.{list_all}
use Rattle.sqlite_value.specs.declared.keys.Order.{Order}
use Rattle.sqlite_value.specs.Keys.{plain}
use Rattle.ledger_shape.specs.Forms.{is_plain}

abbrev order_of : ℕ → Order
order_of digits = record { digits = digits }

both : (a b : Bool) → (a && b) ≡ true → (a ≡ true) × (b ≡ true)
both true b all = (refl, all)
both false b all = absurd (cc)

all_plain : (orders : List Order) (many : ℕ) → length orders ≡ many
    → list_all is_plain orders ≡ true → orders ≡ replicate many plain
all_plain [] zero long all = refl
all_plain [] (suc many) long all = absurd (omega (arith, long))
all_plain (o ∷ os) zero long all = absurd (omega (arith, long))
all_plain (o ∷ os) (suc many) long all =
    let tests = both (is_plain o) (list_all is_plain os) all in
    let first : o ≡ plain = ap order_of (eqb-true o.digits 0 tests.0) in
    let rest = all_plain os many (omega (arith, long)) tests.1 in
    cc (first, rest)

plain_all : (many : ℕ) → list_all is_plain (replicate many plain) ≡ true
plain_all zero = refl
plain_all (suc many) = plain_all many

pub plain_alike : (orders : List Order) (many : ℕ) → length orders ≡ many
    → (list_all is_plain orders ≡ true → orders ≡ replicate many plain)
    × (orders ≡ replicate many plain → list_all is_plain orders ≡ true)
plain_alike orders many long = (all_plain orders many long, λ e. rw e (plain_all many))
