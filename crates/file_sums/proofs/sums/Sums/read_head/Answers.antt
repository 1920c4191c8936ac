use Rattle.std.proofs.Common.{◌≡◌, ◌<◌, ◌^◌, ◌∙◌, ◌++◌, ℕ, List, length, refl, sym, ap, subst, rules}
use Rattle.std.specs.Int.{w64, to_le_bytes}
use Rattle.sqlite_disk.specs.Digest.{digest}
use Rattle.file_sums.specs.Bytes.{head_of}
use Rattle.file_sums.specs.Sums.{HasHead}
use Rattle.file_sums.proofs.Heads.{AreParts, long, front, right_seal, joined}
use Rattle.file_sums.proofs.sums.Sums.read_head.Goals as goal

pub slice_bounds-digest_of-end : goal.slice_bounds-digest_of-end
slice_bounds-digest_of-end c =
    let parts : AreParts c.args.bytes.now c.in_ok-page_size.page_size c.in_ok-key.key c.in_ok-seal.seal c.in_ok-seal._rest.now =
    record { second = c.in_ok-rest.rest.now; third = c.in_ok-page_size.rest.now; fourth = c.in_ok-key.rest.now; at_0 = c.in_ok-rest.ensures; at_12 = c.in_ok-page_size.ensures; at_16 = c.in_ok-key.ensures; at_24 = c.in_ok-seal.ensures } in
    let enough : 24 < length c.args.bytes.now = long _ _ _ _ _ parts in
    search (rules, enough)

pub returns-in_err-rest : goal.returns-in_err-rest
returns-in_err-rest c =
    let none : HasHead c.args.bytes.now → ⊥ = λ has. c.in_err-rest.ensures _ has.split in
    search (rules, none)

pub returns-then-seal-digest_of : goal.returns-then-seal-digest_of
returns-then-seal-digest_of c has =
    let parts : AreParts c.args.bytes.now c.in_ok-page_size.page_size c.in_ok-key.key c.in_ok-seal.seal c.in_ok-seal._rest.now =
    record { second = c.in_ok-rest.rest.now; third = c.in_ok-page_size.rest.now; fourth = c.in_ok-key.rest.now; at_0 = c.in_ok-rest.ensures; at_12 = c.in_ok-page_size.ensures; at_16 = c.in_ok-key.ensures; at_24 = c.in_ok-seal.ensures } in
    let sum : c.digest_of.result ≡ digest c.in_ok-key.key (head_of c.in_ok-page_size.page_size c.in_ok-key.key) =
    c.digest_of.ensures.value ∙ ap (λ (l : List ℕ). digest c.in_ok-key.key l) (front _ _ _ _ _ parts) in
    let fits : digest c.in_ok-key.key (head_of c.in_ok-page_size.page_size c.in_ok-key.key) < 2 ^ 64 =
    subst (λ (n : ℕ). n < 2 ^ 64) sum c.digest_of.type_inv in
    c.if-seal-digest_of.true (right_seal _ _ _ _ _ parts (search rules) (search rules) (search rules) fits has ∙ sym sum)

pub returns : goal.returns
returns c =
    let parts : AreParts c.args.bytes.now c.in_ok-page_size.page_size c.in_ok-key.key c.in_ok-seal.seal c.in_ok-seal._rest.now =
    record { second = c.in_ok-rest.rest.now; third = c.in_ok-page_size.rest.now; fourth = c.in_ok-key.rest.now; at_0 = c.in_ok-rest.ensures; at_12 = c.in_ok-page_size.ensures; at_16 = c.in_ok-key.ensures; at_24 = c.in_ok-seal.ensures } in
    let sealed : c.in_ok-seal.seal ≡ digest c.in_ok-key.key (head_of c.in_ok-page_size.page_size c.in_ok-key.key) =
    c.if-seal-digest_of.false ∙ c.digest_of.ensures.value ∙ ap (λ (l : List ℕ). digest c.in_ok-key.key l) (front _ _ _ _ _ parts) in (
      head_of c.in_ok-page_size.page_size c.in_ok-key.key ++ to_le_bytes w64 c.in_ok-seal.seal,
      c.in_ok-seal._rest.now,
      joined _ _ _ _ _ parts,
      refl,
      record { whole = (sealed, refl); noted = c.new.ensures },
    )
