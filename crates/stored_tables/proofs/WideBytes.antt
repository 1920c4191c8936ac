-- The sixteen bytes of a number write it again.
use Rattle.std.proofs.Common.{◌≡◌, ℕ, ◌+◌, ◌*◌, ◌/◌, ◌%◌, ◌^◌, ◌<◌, arith}
use Rattle.std.proofs.Math.Nat as nat
use Rattle.std.specs.Int.{w128, from_be_bytes, to_be_bytes}

byte_and_rest : (n p : ℕ) → n / p ≡ n / p % 256 + n / (p * 256) * 256
byte_and_rest n p = omega (arith, nat.div-div-eq-div-mul n p 256)

joined : (a b c d e f g h j k l m o p q r n n1 n2 n3 n4 n5 n6 n7 n8 n9 n10 n11 n12 n13 n14 n15 : ℕ)
    → n ≡ a + n1 * 256
    → n1 ≡ b + n2 * 256
    → n2 ≡ c + n3 * 256
    → n3 ≡ d + n4 * 256
    → n4 ≡ e + n5 * 256
    → n5 ≡ f + n6 * 256
    → n6 ≡ g + n7 * 256
    → n7 ≡ h + n8 * 256
    → n8 ≡ j + n9 * 256
    → n9 ≡ k + n10 * 256
    → n10 ≡ l + n11 * 256
    → n11 ≡ m + n12 * 256
    → n12 ≡ o + n13 * 256
    → n13 ≡ p + n14 * 256
    → n14 ≡ q + n15 * 256
    → n15 ≡ r
    → r * 1329227995784915872903807060280344576 + q * 5192296858534827628530496329220096 + p * 20282409603651670423947251286016 + o * 79228162514264337593543950336 + m * 309485009821345068724781056 + l * 1208925819614629174706176 + k * 4722366482869645213696 + j * 18446744073709551616 + h * 72057594037927936 + g * 281474976710656 + f * 1099511627776 + e * 4294967296 + d * 16777216 + c * 65536 + b * 256 + a ≡ n
joined a b c d e f g h j k l m o p q r n n1 n2 n3 n4 n5 n6 n7 n8 n9 n10 n11 n12 n13 n14 n15 at_0 at_1 at_2 at_3 at_4 at_5 at_6 at_7 at_8 at_9 at_10 at_11 at_12 at_13 at_14 at_15 = omega arith

pub from_be_bytes-to_be_bytes_16 : (n : ℕ) → n < 2 ^ 128 → from_be_bytes w128 (to_be_bytes w128 n) ≡ n
from_be_bytes-to_be_bytes_16 n fits =
    let low : n ≡ n % 256 + n / 256 * 256 = omega arith in
    let high : n / 1329227995784915872903807060280344576 ≡ n / 1329227995784915872903807060280344576 % 256 = omega arith in
    joined _ _ _ _ _ _ _ _ _ _ _ _ _ _ _ _ n _ _ _ _ _ _ _ _ _ _ _ _ _ _ _ low (byte_and_rest n 256) (byte_and_rest n 65536) (byte_and_rest n 16777216) (byte_and_rest n 4294967296) (byte_and_rest n 1099511627776) (byte_and_rest n 281474976710656) (byte_and_rest n 72057594037927936) (byte_and_rest n 18446744073709551616) (byte_and_rest n 4722366482869645213696) (byte_and_rest n 1208925819614629174706176) (byte_and_rest n 309485009821345068724781056) (byte_and_rest n 79228162514264337593543950336) (byte_and_rest n 20282409603651670423947251286016) (byte_and_rest n 5192296858534827628530496329220096) high
