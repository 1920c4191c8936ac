-- The sums up to each entry of a valid machine are amounts, at the clock of the entry's batch.
use Rattle.std.proofs.Common.{◌≡◌, ℕ, ◌+◌, ◌<◌, ◌≤◌, List, [], ◌∷◌, ◌++◌, length, take, get_or, inl}
use Rattle.std.proofs.Common.{inr, arith, ap, sym, ◌∙◌, subst, length-append}
use Rattle.std.proofs.Math.Nat.{eq-or-lt_of_le}
use Rattle.std.proofs.Math.ListN.{get_or-append}
use Rattle.std.proofs.Math.Seq.{get_or-append_seam}
use Rattle.std.proofs.lemmas.List.{take-append-le, take_all}
use Rattle.records.specs.declared.transfer.Transfer.{Transfer}
use Rattle.records.specs.Machine.{Machine}
use Rattle.records.specs.Valid.{IsValid, with_transfer}
use Rattle.engine.specs.Promises.{SumsFit}
use Rattle.plain.specs.Prefixes.{Fits}

earlier :
    (entries : List Transfer) (last entry : Transfer) (place clock id : ℕ) →
    place < length entries → Fits (take (place + 1) entries) clock id →
    Fits (take (place + 1) (entries ++ last ∷ [])) clock id
earlier entries last entry place clock id within fits =
    subst (λ (es : List Transfer). Fits es clock id)
    (sym (take-append-le (place + 1) entries (last ∷ []) (omega arith))) fits

whole :
    (entries : List Transfer) (last : Transfer) (place clock id : ℕ) → place ≡ length entries →
    Fits (entries ++ last ∷ []) clock id →
    Fits (take (place + 1) (entries ++ last ∷ [])) clock id
whole entries last place clock id at_end fits =
    subst (λ (es : List Transfer). Fits es clock id)
    (sym (take_all (place + 1) (entries ++ last ∷ [])
    (omega (arith, length-append entries (last ∷ [])))))
    fits

is_last :
    (entries : List Transfer) (last entry : Transfer) (place : ℕ) → place ≡ length entries →
    entry ≡ get_or (entries ++ last ∷ []) place entry → entry ≡ last
is_last entries last entry place at_end is =
    is
    ∙ ap (λ (i : ℕ). get_or (entries ++ last ∷ []) i entry) at_end
    ∙ get_or-append_seam entries last [] entry

pub prefix_fits :
    ((m : Machine) → IsValid m → (id : ℕ) → SumsFit m id) →
    (m : Machine) → IsValid m → (place : ℕ) (entry : Transfer) (id : ℕ) →
    place < length m.transfers → entry ≡ get_or m.transfers place entry →
    Fits (take (place + 1) m.transfers) entry.at id
prefix_fits fit m IsValid.new_tenant place entry id within is = absurd (omega arith)
prefix_fits fit n (IsValid.later m clock valid le bounded) place entry id within is =
    prefix_fits fit m valid place entry id within is
prefix_fits fit n (IsValid.next_account m account valid next) place entry id within is =
    prefix_fits fit m valid place entry id within is
prefix_fits fit n (IsValid.next_failed m failed valid next) place entry id within is =
    prefix_fits fit m valid place entry id within is
prefix_fits fit n (IsValid.next_transfer m last valid next) place entry id within is =
    let few : place ≤ length m.transfers = omega (arith, length-append m.transfers (last ∷ [])) in
    elim (eq-or-lt_of_le few) [
      | inl at_end ↦
          let sums = fit (with_transfer m last) (IsValid.next_transfer m last valid next) id in
          let all : Fits (m.transfers ++ last ∷ []) m.clock id =
          record { debits = sums.debits; credits = sums.credits } in
          subst (λ (clock : ℕ). Fits (take (place + 1) (m.transfers ++ last ∷ [])) clock id)
          (sym (ap (λ (e : Transfer). e.at) (is_last m.transfers last entry place at_end is)
          ∙ next.at))
          (whole m.transfers last place m.clock id at_end all)
      | inr lt ↦
          earlier m.transfers last entry place entry.at id lt
          (prefix_fits fit m valid place entry id lt
          (is ∙ get_or-append m.transfers (last ∷ []) entry place lt))
    ]
